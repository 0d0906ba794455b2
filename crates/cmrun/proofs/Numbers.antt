-- What std's parse of a number says of the number that a text writes between two bounds.
use Rattle.std.proofs.Common.{◌≡◌, ℕ, ◌^◌, Option, Some, None, ◌<◌, ◌≤◌, ◌&&◌, List, [], ◌∷◌, Bool, true, false, length, refl, ap, arith}
use Rattle.std.specs.Char.{is_digit, digit_value}
use Rattle.std.specs.List.{list_all}
use Rattle.std.specs.Str.Parse.{AllDigits, IsNumeral, digits_value, without_leading_plus}
use Rattle.std.specs.Prelude.{nat_lt, nat_le, if◌then◌else◌}
use Rattle.std.proofs.lemmas.Bool.Decides.{nat_tests}
use Rattle.std.proofs.lemmas.Bool.{and_from, and_parts}
use Rattle.cmrun.specs.Words.{is_numeral, bounded_number_in}

digit : (c : ℕ) → digit_value c < 10 → is_digit c 10 ≡ true
digit c h = grind (arith, nat_tests)

digit_of : (c : ℕ) → is_digit c 10 ≡ true → digit_value c < 10
digit_of c h = grind (arith, nat_tests)

digits_all : (ds : List ℕ) → AllDigits 10 ds → list_all (λ c. is_digit c 10) ds ≡ true
digits_all [] h = refl
digits_all (c ∷ cs) h = and_from (is_digit c 10) _ (digit c h.0) (digits_all cs h.1)

all_digits : (ds : List ℕ) → list_all (λ c. is_digit c 10) ds ≡ true → AllDigits 10 ds
all_digits [] h = tt
all_digits (c ∷ cs) h =
    let parts : (is_digit c 10 ≡ true) × (list_all (λ c. is_digit c 10) cs ≡ true) = and_parts (is_digit c 10) _ h in
    (digit_of c parts.0, all_digits cs parts.1)

numeral : (ds : List ℕ) → IsNumeral 10 ds → is_numeral ds ≡ true
numeral ds h = and_from (nat_lt 0 (length ds)) _ (grind (arith, nat_tests, h.0)) (digits_all ds h.1)

is_read : (ds : List ℕ) → is_numeral ds ≡ true → IsNumeral 10 ds
is_read ds h =
    let parts : (nat_lt 0 (length ds) ≡ true) × (list_all (λ c. is_digit c 10) ds ≡ true) = and_parts (nat_lt 0 (length ds)) _ h in
    (grind (arith, nat_tests, parts.0), all_digits ds parts.1)

-- the test of a text, as one Bool
answer : (test : Bool) (n : ℕ) → Option ℕ
answer test n = if test then Some n else None

answered : (test : Bool) (n m : ℕ) → test ≡ true → n ≡ m → Some n ≡ (if test then Some m else None)
answered true n m h e = ap Some e
answered false n m h e = cc

refused : (test : Bool) (m : ℕ) → (test ≡ true → ⊥) → None ≡ (if test then Some m else None)
refused true m h = absurd (h refl)
refused false m h = refl

pub number_found : (least most n : ℕ) (text : List ℕ)
    → IsNumeral 10 (without_leading_plus text) → n ≡ digits_value 10 (without_leading_plus text) → least ≤ n → n ≤ most
    → Some n ≡ bounded_number_in least most text
number_found least most n text h e low high =
    answered _ n _
    (and_from (is_numeral (without_leading_plus text)) _ (numeral _ h)
    (and_from (nat_le least (digits_value 10 (without_leading_plus text))) _ (grind (arith, nat_tests, e, low)) (grind (arith, nat_tests, e, high))))
    e

bounds : (least most : ℕ) (text : List ℕ) → (is_numeral (without_leading_plus text) && (nat_le least (digits_value 10 (without_leading_plus text)) && nat_le (digits_value 10 (without_leading_plus text)) most)) ≡ true
    → IsNumeral 10 (without_leading_plus text) × (least ≤ digits_value 10 (without_leading_plus text)) × (digits_value 10 (without_leading_plus text) ≤ most)
bounds least most text h =
    let parts : (is_numeral (without_leading_plus text) ≡ true) × ((nat_le least (digits_value 10 (without_leading_plus text)) && nat_le (digits_value 10 (without_leading_plus text)) most) ≡ true) = and_parts (is_numeral (without_leading_plus text)) _ h in
    let inner : (nat_le least (digits_value 10 (without_leading_plus text)) ≡ true) × (nat_le (digits_value 10 (without_leading_plus text)) most ≡ true) = and_parts (nat_le least (digits_value 10 (without_leading_plus text))) _ parts.1 in
    (is_read _ parts.0, grind (arith, nat_tests, inner.0), grind (arith, nat_tests, inner.1))

pub number_low : (least most n : ℕ) (text : List ℕ)
    → n ≡ digits_value 10 (without_leading_plus text) → n < least → None ≡ bounded_number_in least most text
number_low least most n text e low = refused _ _ (λ h. let b = bounds least most text h in omega (arith, b.1, e, low))

pub number_high : (least most n : ℕ) (text : List ℕ)
    → n ≡ digits_value 10 (without_leading_plus text) → most < n → None ≡ bounded_number_in least most text
number_high least most n text e high = refused _ _ (λ h. let b = bounds least most text h in omega (arith, b.2, e, high))

pub number_missed : (least most : ℕ) (text : List ℕ) → most < 2 ^ 32
    → (IsNumeral 10 (without_leading_plus text) × (digits_value 10 (without_leading_plus text) < 2 ^ 32) → ⊥) → None ≡ bounded_number_in least most text
number_missed least most text small h = refused _ _ (λ k. let b = bounds least most text k in h (b.0, omega (arith, b.2, small)))
