-- What is read of a value is printed as a value that is read again.
use Rattle.std.proofs.Common.{◌≡◌, ℕ, ◌+◌, ◌≤◌, List, [], ◌∷◌, Bool, true, false, Option, Some, None, Ok, Err, refl, map, inl, inr, arith}
use Rattle.std.specs.Prelude.{decimal, if◌then◌else◌, IfSome}
use Rattle.serde_json.specs.Data.{Data, null, boolean, number, string, array, object, Items, no_items, item}
use Rattle.serde_json.specs.View.{items_of}
use Rattle.cmc_time.specs.Durations.{IsDuration, longest, go_duration}
use Rattle.cmc_time.specs.DurationTexts.{duration_seconds}
use Rattle.cmc_time.proofs.DurationLaws.{duration_again, duration_found, go_duration_is}
use Rattle.cmc_cursor.specs.Members.{Read, ◌>>=◌, under, Field, optional_at, required_at, must_exist}
use Rattle.cmc_cursor.specs.Readers.{found, text_at, name_at, short_text_at, printable_at, count_at, small_count_at, sought_at}
use Rattle.cmc_cursor.proofs.Always.{Always, so, failed, next, after, below}
use Rattle.cmc_print.specs.Trees.{natural}
use Rattle.cmc_print.specs.Puts.{strings}
use Rattle.cmc_print.specs.Printed.{duration_tree}
use Rattle.cmc_codec.specs.Given.{address_text_at, worded_at, list_from, text_list_at, clean_text_at, duration_at, given_at, given_or, member_at, next_member_or, needed_at}
use Rattle.cmc_codec.specs.MetadataForm.{sought_or, sought_needed}
use Rattle.cmc_codec.specs.declared.given.Wording.{Wording}
use Rattle.cmc_codec.specs.declared.given.Wording.TheVariants.{Any, Printable, Address}

-- a text that passes a test passes it again
kept : (P : List ℕ → Type 0) (b : Bool) (t : List ℕ) → (b ≡ true → P t) → Always P (if b then Ok t else Err [])
kept P true t each = so (each refl)
kept P false t each = failed []

pub short_text_again : (n : ℕ) (d : Data) → Always (λ t. short_text_at n (string t) ≡ Ok t) (short_text_at n d)
short_text_again n d = next _ (text_at d) _ (λ t. kept _ _ t (λ h. rw h refl))

pub name_again : (d : Data) → Always (λ t. name_at (string t) ≡ Ok t) (name_at d)
name_again d = next _ (text_at d) _ (λ t. kept _ _ t (λ h. rw h refl))

pub clean_text_again : (d : Data) → Always (λ t. clean_text_at (string t) ≡ Ok t) (clean_text_at d)
clean_text_again d = next _ (text_at d) _ (λ t. kept _ _ t (λ h. rw h refl))

text_again : (d : Data) → Always (λ t. text_at (string t) ≡ Ok t) (text_at d)
text_again d = record { each = λ t e. refl }

printable_again : (d : Data) → Always (λ t. printable_at (string t) ≡ Ok t) (printable_at d)
printable_again d = next _ (text_at d) _ (λ t. kept _ _ t (λ h. rw h refl))

address_again : (d : Data) → Always (λ t. address_text_at (string t) ≡ Ok t) (address_text_at d)
address_again d = next _ (text_at d) _ (λ t. kept _ _ t (λ h. rw h refl))

worded_again : (wording : Wording) (d : Data) → Always (λ t. worded_at wording (string t) ≡ Ok t) (worded_at wording d)
worded_again Any d = text_again d
worded_again Printable d = printable_again d
worded_again Address d = address_again d

list_from_again : (wording : Wording) (n : ℕ) (ds : Items) → Always (λ ts. list_from wording n (items_of (map string ts)) ≡ Ok ts) (list_from wording n ds)
list_from_again wording n no_items = so refl
list_from_again wording n (item d ds) =
    after (λ t. worded_at wording (string t) ≡ Ok t) (λ ts. list_from wording n (items_of (map string ts)) ≡ Ok ts)
    (under (decimal n) (worded_at wording d)) (λ t. list_from wording (n + 1) ds >>= (λ ts. Ok (t ∷ ts)))
    (below _ (decimal n) (worded_at wording d) (worded_again wording d))
    (λ t again. after (λ ts. list_from wording (n + 1) (items_of (map string ts)) ≡ Ok ts) (λ ts. list_from wording n (items_of (map string ts)) ≡ Ok ts)
    (list_from wording (n + 1) ds) (λ ts. Ok (t ∷ ts)) (list_from_again wording (n + 1) ds) (λ ts rest. so (rw (again, rest) refl)))

pub list_again : (wording : Wording) (d : Data) → Always (λ ts. text_list_at wording (strings ts) ≡ Ok ts) (text_list_at wording d)
list_again wording (array ds) = list_from_again wording 0 ds
list_again wording null = failed []
list_again wording (boolean b) = failed []
list_again wording (number n) = failed []
list_again wording (string s) = failed []
list_again wording (object ms) = failed []

small : (n : ℕ) (b : Bool) (P : ℕ → Type 0) → (b ≡ true → P n) → Always P (if b then Ok n else Err [])
small n true P each = so (each refl)
small n false P each = failed []

pub small_count_again : (d : Data) → Always (λ n. small_count_at (natural n) ≡ Ok n) (small_count_at d)
small_count_again d = next _ (count_at d) _ (λ n. small n _ _ (λ h. rw h refl))

within_longest : (t : List ℕ) (n : ℕ) → IsDuration t n → n ≤ longest
within_longest t n (inl zero_is) = omega (arith, zero_is.1)
within_longest t n (inr parts) = parts.within

found_again : (o : Option ℕ) (t : List ℕ) → duration_seconds t ≡ o → Always (λ n. duration_at (duration_tree n) ≡ Ok n) (found o)
found_again None t h = failed []
found_again (Some n) t h =
    let again : duration_seconds (go_duration n) ≡ Some n = duration_again (go_duration n) n (go_duration_is n (within_longest t n (duration_found t n h))) in
    so (rw again refl)

pub duration_is_again : (d : Data) → Always (λ n. duration_at (duration_tree n) ≡ Ok n) (duration_at d)
duration_is_again d = next _ (text_at d) _ (λ t. found_again (duration_seconds t) t refl)

-- ---- members

abbrev First : {A : Type 0} → (A → Type 0) → A × List Field → Type 0
First P p = P p.0

given_or_is : {A : Type 0} (P : A → Type 0) (absent : A) (read : Data → Read A) (n : List ℕ) (o : Option Data) → P absent → ((d : Data) → Always P (read d)) → Always P (given_or absent read n o)
given_or_is P absent read n None none each = so none
given_or_is P absent read n (Some d) none each = below P n (read d) (each d)

given_at_is : {A : Type 0} (P : A → Type 0) (read : Data → Read A) (n : List ℕ) (o : Option Data) → ((d : Data) → Always P (read d)) → Always (λ o. IfSome o P) (given_at read n o)
given_at_is P read n None each = so tt
given_at_is P read n (Some d) each = after P (λ o. IfSome o P) (under n (read d)) (λ x. Ok (Some x)) (below P n (read d) (each d)) (λ x is. so is)

pub member_or_so : {A : Type 0} (P : A → Type 0) (absent : A) (read : Data → Read A) (n : List ℕ) (fs : List Field) → P absent → ((d : Data) → Always P (read d)) → Always (First P) (next_member_or absent read n fs)
member_or_so P absent read n fs none each = next (First P) (optional_at n fs) _ (λ p. after P (First P) (given_or absent read n p.0) (λ x. Ok (x, p.1)) (given_or_is P absent read n p.0 none each) (λ x is. so is))

pub member_so : {A : Type 0} (P : A → Type 0) (read : Data → Read A) (n : List ℕ) (fs : List Field) → ((d : Data) → Always P (read d)) → Always (First (λ o. IfSome o P)) (member_at read n fs)
member_so P read n fs each = next (First (λ o. IfSome o P)) (optional_at n fs) _ (λ p. after (λ o. IfSome o P) (First (λ o. IfSome o P)) (given_at read n p.0) (λ x. Ok (x, p.1)) (given_at_is P read n p.0 each) (λ x is. so is))

pub needed_so : {A : Type 0} (P : A → Type 0) (read : Data → Read A) (n : List ℕ) (fs : List Field) → ((d : Data) → Always P (read d)) → Always (First P) (needed_at read n fs)
needed_so P read n fs each = next (First P) (required_at n fs) _ (λ p. after P (First P) (under n (read p.0)) (λ x. Ok (x, p.1)) (below P n (read p.0) (each p.0)) (λ x is. so is))

pub sought_or_so : {A : Type 0} (P : A → Type 0) (absent : A) (read : Data → Read A) (n : List ℕ) (fs : List Field) → P absent → ((d : Data) → Always P (read d)) → Always (First P) (sought_or absent read n fs)
sought_or_so P absent read n fs none each = next (First P) (sought_at n fs) _ (λ p. after P (First P) (given_or absent read n p.0) (λ x. Ok (x, p.1)) (given_or_is P absent read n p.0 none each) (λ x is. so is))

pub sought_needed_so : {A : Type 0} (P : A → Type 0) (read : Data → Read A) (n : List ℕ) (fs : List Field) → ((d : Data) → Always P (read d)) → Always (First P) (sought_needed read n fs)
sought_needed_so P read n fs each = next (First P) (sought_at n fs >>= must_exist n) _ (λ p. after P (First P) (under n (read p.0)) (λ x. Ok (x, p.1)) (below P n (read p.0) (each p.0)) (λ x is. so is))
