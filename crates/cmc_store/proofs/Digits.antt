-- The digits of a number.
use Rattle.std.proofs.Common.{◌≡◌, ℕ, zero, suc, ◌+◌, ◌-◌, ◌/◌, ◌%◌, ◌<◌, ◌≤◌, Bool, true, false, ◌&&◌, List, [], ◌∷◌, ◌++◌, length, refl, sym, ap, ◌∙◌, arith, append_assoc, append-nil}
use Rattle.std.proofs.lemmas.Bool.{and_from}
use Rattle.std.proofs.lemmas.Bool.Decides.{nat_tests}
use Rattle.std.proofs.lemmas.List.{length-reverse}
use Rattle.std.proofs.lemmas.Nat.{mod_below}
use Rattle.std.specs.Prelude.{◌==◌, slice_index, if◌then◌else◌}
use Rattle.std.specs.List.{list_all}
use Rattle.cmc_meta.specs.Names.{is_alphanumeric}
use Rattle.cmc_model.specs.Generated.{digits, low_digits, suffix}
use Rattle.cmc_store.proofs.Bytes.{all_at, all_reversed}

pub low_more : (room left least n : ℕ) → room ≡ left + 1 → ((n == 0) && (least == 0)) ≡ false → low_digits room least n ≡ slice_index digits (n % 27) ∷ low_digits left (least - 1) (n / 27)
low_more zero left least n is off = absurd (omega (arith, is))
low_more (suc room) left least n is off =
    let same : room ≡ left = omega (arith, is) in
    ap (λ (b : Bool). if b then [] else (slice_index digits (n % 27) ∷ low_digits room (least - 1) (n / 27))) off ∙ ap (λ (r : ℕ). slice_index digits (n % 27) ∷ low_digits r (least - 1) (n / 27)) same

-- ---- each digit is a letter or a digit

are_letters : list_all is_alphanumeric digits ≡ true
are_letters = refl

letter : (k : ℕ) → k < 27 → is_alphanumeric (slice_index digits k) ≡ true
letter k here = all_at is_alphanumeric digits k 0 here are_letters

low_letters_by : (b : Bool) (x : ℕ) (xs : List ℕ) → is_alphanumeric x ≡ true → list_all is_alphanumeric xs ≡ true → list_all is_alphanumeric (if b then [] else (x ∷ xs)) ≡ true
low_letters_by true x xs one all = refl
low_letters_by false x xs one all = and_from (is_alphanumeric x) (list_all is_alphanumeric xs) one all

low_letters : (room least n : ℕ) → list_all is_alphanumeric (low_digits room least n) ≡ true
low_letters zero least n = refl
low_letters (suc room) least n =
    low_letters_by ((n == 0) && (least == 0)) (slice_index digits (n % 27)) (low_digits room (least - 1) (n / 27)) (letter (n % 27) (mod_below n 27 (omega arith))) (low_letters room (least - 1) (n / 27))

pub suffix_letters : (n : ℕ) → list_all is_alphanumeric (suffix n) ≡ true
suffix_letters n = all_reversed is_alphanumeric (low_digits 14 5 n) (low_letters 14 5 n)

-- ---- how many there are

low_length_by : (b : Bool) (x room : ℕ) (xs : List ℕ) → length xs ≤ room → length (if b then [] else (x ∷ xs)) ≤ room + 1
low_length_by true x room xs fits = omega arith
low_length_by false x room xs fits = omega (arith, fits)

low_length : (room least n : ℕ) → length (low_digits room least n) ≤ room
low_length zero least n = omega arith
low_length (suc room) least n =
    let few : length (low_digits (suc room) least n) ≤ room + 1 = low_length_by ((n == 0) && (least == 0)) (slice_index digits (n % 27)) room (low_digits room (least - 1) (n / 27)) (low_length room (least - 1) (n / 27)) in
    omega (arith, few)

pub suffix_length : (n : ℕ) → length (suffix n) ≤ 14
suffix_length n = let few = low_length 14 5 n in omega (arith, few, length-reverse (low_digits 14 5 n))

some_by : (b : Bool) (x : ℕ) (xs : List ℕ) → b ≡ false → 0 < length (if b then [] else (x ∷ xs))
some_by true x xs is = absurd (cc is)
some_by false x xs is = omega arith

and_off : (b : Bool) → (b && (5 == 0)) ≡ false
and_off true = refl
and_off false = refl

pub suffix_some : (n : ℕ) → 0 < length (suffix n)
suffix_some n = let some : 0 < length (low_digits 14 5 n) = some_by ((n == 0) && (5 == 0)) (slice_index digits (n % 27)) (low_digits 13 4 (n / 27)) (and_off (n == 0)) in omega (arith, some, length-reverse (low_digits 14 5 n))

-- ---- the loop

and_off_by : (a b : Bool) → b ≡ false → (a && b) ≡ false
and_off_by true b is = is
and_off_by false b is = refl

and_none : (a b : Bool) → a ≡ false → (a && b) ≡ false
and_none true b is = absurd (cc is)
and_none false b is = refl

pub off_least : (n least : ℕ) → (least ≡ 0 → ⊥) → ((n == 0) && (least == 0)) ≡ false
off_least n least some = and_off_by (n == 0) (least == 0) (grind (arith, nat_tests))

pub off_rest : (n least : ℕ) → (n ≡ 0 → ⊥) → ((n == 0) && (least == 0)) ≡ false
off_rest n least some = and_none (n == 0) (least == 0) (grind (arith, nat_tests))

pub turn : (items pushed whole : List ℕ) (room left least less n d : ℕ) → room ≡ left + 1 → ((n == 0) && (least == 0)) ≡ false → pushed ≡ items ++ d ∷ [] → d ≡ slice_index digits (n % 27) → less ≡ least - 1
    → items ++ low_digits room least n ≡ whole → pushed ++ low_digits left less (n / 27) ≡ whole
turn items pushed whole room left least less n d one off is at low before =
    rw (is, at, low) (append_assoc items (slice_index digits (n % 27) ∷ []) (low_digits left (least - 1) (n / 27)) ∙ ap (λ (l : List ℕ). items ++ l) (sym (low_more room left least n one off)) ∙ before)

pub done : (items whole : List ℕ) (room least n : ℕ) → low_digits room least n ≡ [] → items ++ low_digits room least n ≡ whole → items ≡ whole
done items whole room least n is before = sym (append-nil items) ∙ ap (λ (l : List ℕ). items ++ l) (sym is) ∙ before
