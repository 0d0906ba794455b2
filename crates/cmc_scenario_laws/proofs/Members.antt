-- Members that may be left out and lists, as rows, policies and steps have them: what is printed is read again.
use Rattle.std.proofs.Common.{◌≡◌, ℕ, ◌+◌, List, [], ◌∷◌, Bool, true, false, Ok, Err, Option, Some, None, refl, ap, sym, map}
use Rattle.std.specs.Prelude.{decimal, if◌then◌else◌, nat_lt, nat_le, ◌&&◌, ◌==◌, IfSome}
use Rattle.std.specs.List.{AllByRecursion}
use Rattle.std.proofs.lemmas.Bool.{eqb-true}
use Rattle.serde_json.specs.Data.{Data, null, boolean, number, string, array, object, Items, no_items, item, Members}
use Rattle.serde_json.specs.View.{items_of}
use Rattle.cmc_cursor.specs.Members.{Read, ◌>>=◌, under}
use Rattle.cmc_cursor.specs.Readers.{count_at, flag_at}
use Rattle.cmc_cursor.proofs.Always.{Always, so, failed, next, after, below, where_true, further}
use Rattle.cmc_print.specs.Trees.{natural}
use Rattle.cmc_material.specs.Lists.{numbered_at, numbered_below, items_from, list_at, member_or, member_option, bounded_at}
use Rattle.cmc_scenario_print.specs.Defaults.{put_unless}
use Rattle.cmc_codec.proofs.Slots.{Stands, set, fits, put_is, put_option_is, some_option, some_list, some_true}

-- ---- members that are left out where they have their default

abbrev pub some_unless : {A : Type 0} → Bool → (A → Data) → A → Option Data
some_unless true tree x = None
some_unless false tree x = Some (tree x)

pub put_unless_is : {A : Type 0} {ss : List (List ℕ × Option Data)} {ms : Members} (b : Bool) (tree : A → Data) (n : List ℕ) (x : A) → Stands ss ms → fits n ss ≡ true
    → Stands (set n (some_unless b tree x) ss) (put_unless b tree n x ms)
put_unless_is true tree n x is h = put_option_is tree n None is h
put_unless_is false tree n x is h = put_is n (tree x) is h

-- ---- what is given at a name

pub unless_given : {A : Type 0} (default : A) (read : Data → Read A) (tree : A → Data) (n : List ℕ) (b : Bool) (x : A) → (b ≡ true → x ≡ default) → read (tree x) ≡ Ok x
    → member_or default n read (some_unless b tree x) ≡ Ok x
unless_given default read tree n true x usual again = ap (λ y. Ok y) (sym (usual refl))
unless_given default read tree n false x usual again = rw again refl

pub option_given : {A : Type 0} (read : Data → Read A) (tree : A → Data) (n : List ℕ) (o : Option A) → IfSome o (λ x. read (tree x) ≡ Ok x) → member_option n read (some_option tree o) ≡ Ok o
option_given read tree n None again = refl
option_given read tree n (Some x) again = rw again refl

pub list_given : {A : Type 0} (read : Data → Read (List A)) (tree : List A → Data) (n : List ℕ) (xs : List A) → read (tree xs) ≡ Ok xs → member_or [] n read (some_list tree xs) ≡ Ok xs
list_given read tree n [] again = refl
list_given read tree n (x ∷ xs) again = rw again refl

pub true_given : (n : List ℕ) (b : Bool) → member_or false n flag_at (some_true b) ≡ Ok b
true_given n false = refl
true_given n true = refl

pub under_given : {A : Type 0} (n : List ℕ) (r : Read A) (x : A) → r ≡ Ok x → under n r ≡ Ok x
under_given n r x e = rw e refl

-- ---- what was read of a member

pub option_so : {A : Type 0} (P : A → Type 0) (n : List ℕ) (read : Data → Read A) (given : Option Data) → ((d : Data) → Always P (read d)) → Always (λ o. IfSome o P) (member_option n read given)
option_so P n read None each = so tt
option_so P n read (Some d) each = after P (λ o. IfSome o P) (under n (read d)) (λ x. Ok (Some x)) (below P n (read d) (each d)) (λ x is. so is)

-- ---- numbers

pub each_count : (o : Option ℕ) → IfSome o (λ n. count_at (natural n) ≡ Ok n)
each_count None = tt
each_count (Some n) = refl

pub bounded_again : (least most : ℕ) (d : Data) → Always (λ n. bounded_at least most (natural n) ≡ Ok n) (bounded_at least most d)
bounded_again least most d =
    next (λ n. bounded_at least most (natural n) ≡ Ok n) (count_at d) (λ n. if nat_le least n && nat_le n most then Ok n else Err [])
    (λ n. where_true (λ m. bounded_at least most (natural m) ≡ Ok m) (nat_le least n && nat_le n most) (Ok n) [] (λ e. so (rw e refl)))

pub is_zero : (n : ℕ) → (n == 0) ≡ true → n ≡ 0
is_zero n h = eqb-true n 0 h

-- ---- lists

-- what is read, if it has what Q says, is read again of its tree
abbrev pub Again : {A : Type 0} → (A → Type 0) → (Data → Read A) → (A → Data) → A → Type 0
Again Q read tree x = Q x → read (tree x) ≡ Ok x

pub numbered_again : {A : Type 0} (Q : A → Type 0) (read : Data → Read A) (tree : A → Data) → ((d : Data) → Always (Again Q read tree) (read d))
    → (n : ℕ) (d : Data) → Always (Again Q (numbered_at read n) tree) (numbered_at read n d)
unfolding numbered_at
numbered_again Q read tree each n d =
    below (Again Q (numbered_at read n) tree) (decimal n) (read d) (further (Again Q read tree) (Again Q (numbered_at read n) tree) (read d) (λ x is q. under_given (decimal n) (read (tree x)) x (is q)) (each d))

early : {A : Type 0} (b : Bool) (x y : Read A) (z : A) → b ≡ true → x ≡ Ok z → (if b then x else y) ≡ Ok z
early true x y z h e = e
early false x y z h e = cc

pub numbered_below_again : {A : Type 0} (Q : A → Type 0) (most : ℕ) (read : Data → Read A) (tree : A → Data) → ((d : Data) → Always (Again Q read tree) (read d))
    → (n : ℕ) (d : Data) → Always (Again Q (numbered_below most read n) tree) (numbered_below most read n d)
unfolding numbered_below
numbered_below_again Q most read tree each n d =
    where_true (Again Q (numbered_below most read n) tree) (nat_lt n most) (under (decimal n) (read d)) (decimal n ∷ [])
    (λ e. below (Again Q (numbered_below most read n) tree) (decimal n) (read d)
    (further (Again Q read tree) (Again Q (numbered_below most read n) tree) (read d)
    (λ x is q. early (nat_lt n most) (under (decimal n) (read (tree x))) (Err (decimal n ∷ [])) x e (under_given (decimal n) (read (tree x)) x (is q))) (each d)))

abbrev AreAgain : {A : Type 0} → (A → Type 0) → (ℕ → Data → Read A) → (A → Data) → ℕ → List A → Type 0
AreAgain Q read tree n xs = AllByRecursion Q xs → items_from read n (items_of (map tree xs)) ≡ Ok xs

items_again : {A : Type 0} (Q : A → Type 0) (read : ℕ → Data → Read A) (tree : A → Data) → ((n : ℕ) (d : Data) → Always (Again Q (read n) tree) (read n d))
    → (n : ℕ) (ds : Items) → Always (AreAgain Q read tree n) (items_from read n ds)
items_again Q read tree each n no_items = so (λ q. refl)
items_again Q read tree each n (item d ds) =
    after (Again Q (read n) tree) (AreAgain Q read tree n) (read n d) (λ x. items_from read (n + 1) ds >>= (λ xs. Ok (x ∷ xs))) (each n d)
    (λ x first. after (AreAgain Q read tree (n + 1)) (AreAgain Q read tree n) (items_from read (n + 1) ds) (λ xs. Ok (x ∷ xs)) (items_again Q read tree each (n + 1) ds)
    (λ xs rest. so (λ q. rw (first q.0, rest q.1) refl)))

abbrev pub trees_of : {A : Type 0} → (A → Data) → List A → Data
trees_of tree xs = array (items_of (map tree xs))

pub list_again : {A : Type 0} (Q : A → Type 0) (read : ℕ → Data → Read A) (tree : A → Data) → ((n : ℕ) (d : Data) → Always (Again Q (read n) tree) (read n d))
    → (d : Data) → Always (Again (AllByRecursion Q) (list_at read) (trees_of tree)) (list_at read d)
list_again Q read tree each (array ds) = items_again Q read tree each 0 ds
list_again Q read tree each null = failed []
list_again Q read tree each (boolean b) = failed []
list_again Q read tree each (number n) = failed []
list_again Q read tree each (string s) = failed []
list_again Q read tree each (object ms) = failed []

-- a list that is left out where it is empty
pub list_so : {A : Type 0} (Q : A → Type 0) (read : Data → Read (List A)) (tree : A → Data) (n : List ℕ) (given : Option Data)
    → ((d : Data) → Always (Again (AllByRecursion Q) read (trees_of tree)) (read d))
    → Always (λ xs. AllByRecursion Q xs → member_or [] n read (some_list (trees_of tree) xs) ≡ Ok xs) (member_or [] n read given)
list_so Q read tree n None each = so (λ q. refl)
list_so Q read tree n (Some d) each =
    below (λ xs. AllByRecursion Q xs → member_or [] n read (some_list (trees_of tree) xs) ≡ Ok xs) n (read d)
    (further (Again (AllByRecursion Q) read (trees_of tree)) (λ xs. AllByRecursion Q xs → member_or [] n read (some_list (trees_of tree) xs) ≡ Ok xs) (read d)
    (λ xs is q. list_given read (trees_of tree) n xs (is q)) (each d))
