-- No number in what is printed of a scenario is a float.
use Rattle.std.proofs.Common.{◌≡◌, ℕ, ◌+◌, List, [], ◌∷◌, Bool, true, false, Ok, Err, Option, Some, None, refl, map}
use Rattle.std.specs.declared.cmp.Ordering.{Ordering}
use Rattle.std.specs.declared.cmp.Ordering.TheVariants.{Less, Equal, Greater}
use Rattle.std.specs.Ordering.{nat_cmp, match_ordering}
use Rattle.std.specs.Cmp.Lexicographic.{slice_cmp}
use Rattle.serde_json.specs.Data.{Data, boolean, string, array, object, Members, no_members, member, put}
use Rattle.serde_json.specs.View.{items_of}
use Rattle.cmc_cursor.specs.Members.{Check, ◌>>=◌, under}
use Rattle.cmc_cursor.specs.Readers.{floats_at, floats_from, floats_in}
use Rattle.cmc_print.specs.Trees.{natural}
use Rattle.cmc_print.specs.Puts.{put_option, put_list, put_true, put_object, put_all, map_tree}
use Rattle.cmc_scenario_print.specs.Defaults.{put_unless}

-- no number in the value, or in the members, is a float
pub record IsClear (d : Data) : Type 0 where
  pub none : floats_at d ≡ Ok tt

pub record AreClear (ms : Members) : Type 0 where
  pub none : floats_in ms ≡ Ok tt

both_passed : (name : List ℕ) (first rest : Check) → under name first >>= (λ _. rest) ≡ Ok tt → (first ≡ Ok tt) × (rest ≡ Ok tt)
both_passed name (Ok x) rest h = (refl, h)
both_passed name (Err path) rest h = cc

put_in : (n : List ℕ) (d : Data) (ms : Members) → floats_at d ≡ Ok tt → floats_in ms ≡ Ok tt → floats_in (put n d ms) ≡ Ok tt
put_in n d no_members e h = rw e refl
put_in n d (member m v ms) e h =
    let parts : (floats_at v ≡ Ok tt) × (floats_in ms ≡ Ok tt) = both_passed m (floats_at v) (floats_in ms) h in
    by_order (slice_cmp nat_cmp n m) parts.0 parts.1 (put_in n d ms e parts.1)
  where
    by_order : (o : Ordering) → floats_at v ≡ Ok tt → floats_in ms ≡ Ok tt → floats_in (put n d ms) ≡ Ok tt
        → floats_in (match_ordering o (member n d (member m v ms)) (member m d ms) (member m v (put n d ms))) ≡ Ok tt
    by_order Less first rest later = rw (e, first, rest) refl
    by_order Equal first rest later = rw (e, rest) refl
    by_order Greater first rest later = rw (first, later) refl

-- ---- members

pub empty : AreClear no_members
empty = record { none = refl }

pub with_tree : {ms : Members} (n : List ℕ) (d : Data) → IsClear d → AreClear ms → AreClear (put n d ms)
with_tree {ms = ms} n d is are = record { none = put_in n d ms is.none are.none }

pub with_text : {ms : Members} (n s : List ℕ) → AreClear ms → AreClear (put n (string s) ms)
with_text n s are = with_tree n (string s) (record { none = refl }) are

pub with_number : {ms : Members} (n : List ℕ) (k : ℕ) → AreClear ms → AreClear (put n (natural k) ms)
with_number n k are = with_tree n (natural k) (record { none = refl }) are

pub with_option : {A : Type 0} {ms : Members} (tree : A → Data) → ((x : A) → IsClear (tree x)) → (n : List ℕ) (o : Option A) → AreClear ms → AreClear (put_option tree n o ms)
with_option tree each n None are = are
with_option tree each n (Some x) are = with_tree n (tree x) (each x) are

pub with_list : {A : Type 0} {ms : Members} (tree : List A → Data) → ((xs : List A) → IsClear (tree xs)) → (n : List ℕ) (xs : List A) → AreClear ms → AreClear (put_list tree n xs ms)
with_list tree each n [] are = are
with_list tree each n (x ∷ xs) are = with_tree n (tree (x ∷ xs)) (each (x ∷ xs)) are

pub with_true : {ms : Members} (n : List ℕ) (b : Bool) → AreClear ms → AreClear (put_true n b ms)
with_true n false are = are
with_true n true are = with_tree n (boolean true) (record { none = refl }) are

pub with_unless : {A : Type 0} {ms : Members} (b : Bool) (tree : A → Data) (n : List ℕ) (x : A) → IsClear (tree x) → AreClear ms → AreClear (put_unless b tree n x ms)
with_unless true tree n x is are = are
with_unless false tree n x is are = with_tree n (tree x) is are

pub whole : {ms : Members} → AreClear ms → IsClear (object ms)
whole are = record { none = are.none }

pub with_object : {ms : Members} (n : List ℕ) (inner : Members) → AreClear inner → AreClear ms → AreClear (put_object n inner ms)
with_object n no_members is are = are
with_object n (member first d rest) is are = with_tree n (object (member first d rest)) (whole is) are

-- ---- values

pub of_text : (s : List ℕ) → IsClear (string s)
of_text s = record { none = refl }

pub of_number : (n : ℕ) → IsClear (natural n)
of_number n = record { none = refl }

items_clear : {A : Type 0} (tree : A → Data) → ((x : A) → IsClear (tree x)) → (n : ℕ) (xs : List A) → floats_from n (items_of (map tree xs)) ≡ Ok tt
items_clear tree each n [] = refl
items_clear tree each n (x ∷ xs) = rw ((each x).none, items_clear tree each (n + 1) xs) refl

pub of_list : {A : Type 0} (tree : A → Data) → ((x : A) → IsClear (tree x)) → (xs : List A) → IsClear (array (items_of (map tree xs)))
of_list tree each xs = record { none = items_clear tree each 0 xs }

all_clear : (tree : List ℕ → Data) → ((x : List ℕ) → IsClear (tree x)) → (es : List (List ℕ × List ℕ)) (ms : Members) → AreClear ms → AreClear (put_all tree es ms)
all_clear tree each [] ms are = are
all_clear tree each (e ∷ es) ms are = all_clear tree each es (put e.0 (tree e.1) ms) (with_tree e.0 (tree e.1) (each e.1) are)

pub of_map : (tree : List ℕ → Data) → ((x : List ℕ) → IsClear (tree x)) → (es : List (List ℕ × List ℕ)) → IsClear (map_tree tree es)
of_map tree each es = whole (all_clear tree each es no_members empty)
