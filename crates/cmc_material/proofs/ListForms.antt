-- What is read of members that may be left out, of numbers in bounds and of lists.
use Rattle.std.proofs.Common.{◌≡◌, ℕ, ◌+◌, ◌<◌, ◌≤◌, List, [], ◌∷◌, length, Bool, true, Ok, Err, Option, Some, None, refl, arith}
use Rattle.std.specs.Prelude.{if◌then◌else◌, decimal, nat_lt, nat_le, ◌&&◌}
use Rattle.std.specs.List.{list_all}
use Rattle.std.proofs.lemmas.Bool.Decides.{nat_tests}
use Rattle.std.proofs.lemmas.Bool.{and_from}
use Rattle.serde_json.specs.Data.{Data, null, boolean, number, string, array, object, Items, no_items, item}
use Rattle.cmc_cursor.specs.Members.{Read, ◌>>=◌, under}
use Rattle.cmc_cursor.specs.Readers.{count_at}
use Rattle.cmc_cursor.proofs.Always.{Always, so, failed, next, after, below, where_true, further}
use Rattle.cmc_material.specs.Lists.{numbered_at, numbered_below, items_from, list_at, member_or, member_option, bounded_at}

-- ---- members that may be left out

pub of_member_or : {A : Type 0} (P : A → Type 0) (default : A) (name : List ℕ) (read : Data → Read A) (given : Option Data) → P default → ((d : Data) → Always P (read d)) → Always P (member_or default name read given)
of_member_or P default name read None usual each = so usual
of_member_or P default name read (Some d) usual each = below P name (read d) (each d)

pub of_member_option : {A : Type 0} (P : A → Type 0) (Q : Option A → Type 0) (name : List ℕ) (read : Data → Read A) (given : Option Data) → Q None → ((x : A) → P x → Q (Some x)) → ((d : Data) → Always P (read d))
    → Always Q (member_option name read given)
of_member_option P Q name read None none some each = so none
of_member_option P Q name read (Some d) none some each = after P Q (under name (read d)) (λ x. Ok (Some x)) (below P name (read d) (each d)) (λ x is. so (some x is))

pub of_bounded : (least most : ℕ) (d : Data) → Always (λ n. (nat_le least n && nat_le n most) ≡ true) (bounded_at least most d)
of_bounded least most d =
    next (λ n. (nat_le least n && nat_le n most) ≡ true) (count_at d) (λ n. if nat_le least n && nat_le n most then Ok n else Err [])
    (λ n. where_true (λ m. (nat_le least m && nat_le m most) ≡ true) (nat_le least n && nat_le n most) (Ok n) [] (λ e. so e))

-- ---- lists

pub of_numbered : {A : Type 0} (P : A → Type 0) (read : Data → Read A) → ((d : Data) → Always P (read d)) → (n : ℕ) (d : Data) → Always P (numbered_at read n d)
unfolding numbered_at
of_numbered P read each n d = below P (decimal n) (read d) (each d)

pub of_numbered_below : {A : Type 0} (P : A → Type 0) (most : ℕ) (read : Data → Read A) → ((d : Data) → Always P (read d)) → (n : ℕ) (d : Data) → Always P (numbered_below most read n d)
unfolding numbered_below
of_numbered_below P most read each n d = where_true P (nat_lt n most) (under (decimal n) (read d)) (decimal n ∷ []) (λ e. below P (decimal n) (read d) (each d))

pub of_items : {A : Type 0} (p : A → Bool) (read : ℕ → Data → Read A) → ((n : ℕ) (d : Data) → Always (λ x. p x ≡ true) (read n d)) → (n : ℕ) (ds : Items) → Always (λ xs. list_all p xs ≡ true) (items_from read n ds)
of_items p read each n no_items = so refl
of_items p read each n (item d ds) =
    after (λ x. p x ≡ true) (λ xs. list_all p xs ≡ true) (read n d) (λ x. items_from read (n + 1) ds >>= (λ xs. Ok (x ∷ xs))) (each n d)
    (λ x first. after (λ xs. list_all p xs ≡ true) (λ xs. list_all p xs ≡ true) (items_from read (n + 1) ds) (λ xs. Ok (x ∷ xs)) (of_items p read each (n + 1) ds) (λ xs rest. so (and_from (p x) (list_all p xs) first rest)))

-- a list that is read item by item
pub of_list : {A : Type 0} (p : A → Bool) (read : ℕ → Data → Read A) → ((n : ℕ) (d : Data) → Always (λ x. p x ≡ true) (read n d)) → (d : Data) → Always (λ xs. list_all p xs ≡ true) (list_at read d)
of_list p read each (array ds) = of_items p read each 0 ds
of_list p read each null = failed []
of_list p read each (boolean b) = failed []
of_list p read each (number n) = failed []
of_list p read each (string s) = failed []
of_list p read each (object ms) = failed []

is_below : (n most : ℕ) → nat_lt n most ≡ true → n < most
is_below n most e = grind (arith, nat_tests)

-- from place n on there are at most so many
record IsShortFrom {A : Type 0} (most n : ℕ) (xs : List A) : Type 0 where
  short : n ≤ most → n + length xs ≤ most

one_more : {A : Type 0} (most n : ℕ) (x : A) (xs : List A) → n < most → IsShortFrom most (n + 1) xs → IsShortFrom most n (x ∷ xs)
one_more most n x xs room rest = record { short = λ h. omega (arith, rest.short (omega arith)) }

of_short : {A : Type 0} (most : ℕ) (read : Data → Read A) (n : ℕ) (ds : Items) → Always (IsShortFrom most n) (items_from (numbered_below most read) n ds)
unfolding numbered_below
of_short most read n no_items = so (record { short = λ h. omega (arith, h) })
of_short most read n (item d ds) =
    after (λ x. n < most) (IsShortFrom most n) (numbered_below most read n d) (λ x. items_from (numbered_below most read) (n + 1) ds >>= (λ xs. Ok (x ∷ xs)))
    (where_true (λ x. n < most) (nat_lt n most) (under (decimal n) (read d)) (decimal n ∷ []) (λ e. record { each = λ x is. is_below n most e }))
    (λ x room. after (IsShortFrom most (n + 1)) (IsShortFrom most n) (items_from (numbered_below most read) (n + 1) ds) (λ xs. Ok (x ∷ xs)) (of_short most read (n + 1) ds) (λ xs rest. so (one_more most n x xs room rest)))

is_most : {A : Type 0} (most : ℕ) (xs : List A) → IsShortFrom most 0 xs → nat_le (length xs) most ≡ true
is_most most xs is = let few : length xs ≤ most = omega (arith, is.short (omega arith)) in grind (arith, nat_tests)

-- a list of at most so many
pub of_short_list : {A : Type 0} (most : ℕ) (read : Data → Read A) (d : Data) → Always (λ xs. nat_le (length xs) most ≡ true) (list_at (numbered_below most read) d)
of_short_list most read (array ds) = further (IsShortFrom most 0) (λ xs. nat_le (length xs) most ≡ true) (items_from (numbered_below most read) 0 ds) (λ xs is. is_most most xs is) (of_short most read 0 ds)
of_short_list most read null = failed []
of_short_list most read (boolean b) = failed []
of_short_list most read (number n) = failed []
of_short_list most read (string s) = failed []
of_short_list most read (object ms) = failed []
