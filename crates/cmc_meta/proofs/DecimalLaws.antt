-- Decimal texts as std parses them, and as it writes them.
use Rattle.std.proofs.Common.{◌≡◌, ℕ, ◌^◌, get_or, Option, Some, eqb, ltb, inl, inr, ◌∙◌, ◌<◌, ◌≤◌, ◌==◌, ◌&&◌, List, [], ◌∷◌, Bool, true, false, length, drop, cond, refl, ap, sym, subst, arith}
use Rattle.std.specs.Char.{is_ascii_digit, digit_value}
use Rattle.std.specs.List.{list_all}
use Rattle.std.specs.Str.Parse.{AllDigits, IsNumeral, without_leading_plus}
use Rattle.std.specs.Str.{all_ascii_digits}
use Rattle.std.specs.Str.Parse.{digits_value}
use Rattle.std.specs.Prelude.{decimal, not, ◌||◌}
use Rattle.std.proofs.lemmas.Bool.{cases_Bool, cases_order, eqb-true, eq-eqb, ne_eqb, ltb-true, lt-ltb, false≢true, and_from, and_parts, or_right}
use Rattle.std.proofs.lemmas.Option.{none-some, same_Some}
use Rattle.std.proofs.lemmas.Fmt.{decimal-digits_value, decimal_digit, decimal_nonempty, first_decimal, digits_decimal, digits_value-decimal}
use Rattle.std.proofs.lemmas.Str.Parse.{IsNumeralModel, numerals_by_value, tells_all_ascii_digits}
use Rattle.cmc_meta.specs.Decimals.{is_decimal, number_in}
use Rattle.std.proofs.lemmas.Bool.Decides.{nat_tests}
use Rattle.std.proofs.lemmas.Str.{digit_value_digit}

digit_in_range : (c : ℕ) → is_ascii_digit c ≡ true → (48 ≤ c) × (c ≤ 57)
digit_in_range c h = grind (arith, nat_tests)

digit_below : (c : ℕ) → is_ascii_digit c ≡ true → digit_value c < 10
digit_below c h =
    let bounds : (48 ≤ c) × (c ≤ 57) = digit_in_range c h in
    omega (arith, digit_value_digit c bounds)

all_digits : (t : List ℕ) → list_all is_ascii_digit t ≡ true → AllDigits 10 t
all_digits [] h = tt
all_digits (c ∷ cs) h =
    let parts : (is_ascii_digit c ≡ true) × (list_all is_ascii_digit cs ≡ true) = and_parts (is_ascii_digit c) (list_all is_ascii_digit cs) h in
    (digit_below c parts.0, all_digits cs parts.1)

no_plus : (c : ℕ) → 48 ≤ c → (c == 43) ≡ false
no_plus c h = grind (arith, nat_tests)

without_plus : (t : List ℕ) → list_all is_ascii_digit t ≡ true → without_leading_plus t ≡ t
without_plus [] h = refl
without_plus (c ∷ cs) h =
    let parts : (is_ascii_digit c ≡ true) × (list_all is_ascii_digit cs ≡ true) = and_parts (is_ascii_digit c) (list_all is_ascii_digit cs) h in
    let other : (c == 43) ≡ false = no_plus c (digit_in_range c parts.0).0 in
    ap (λ b. drop (cond b 1 0) (c ∷ cs)) other

-- digits alone are a numeral, with no plus in front
pub numeral : (t : List ℕ) → list_all is_ascii_digit t ≡ true → 0 < length t → IsNumeral 10 (without_leading_plus t) × (without_leading_plus t ≡ t)
numeral t h n = let same = without_plus t h in (subst (IsNumeral 10) (sym same) (n, all_digits t h), same)

-- ---- what is read is what would be written

digits_same : (text : List ℕ) → list_all is_ascii_digit text ≡ all_ascii_digits text
digits_same [] = refl
digits_same (c ∷ cs) = ap (λ (b : Bool). is_ascii_digit c && b) (digits_same cs)

own : IsNumeralModel (λ ds. all_ascii_digits ds ≡ true) (digits_value 10)
own = numerals_by_value _ tells_all_ascii_digits

-- a text without a needless zero
record IsDecimalForm (text : List ℕ) : Type 0 where
  digits : all_ascii_digits text ≡ true
  some : 0 < length text
  no_zero : get_or text 0 0 ≡ 48 → length text ≡ 1

or_cases : (a b : Bool) → (a || not b) ≡ true → b ≡ true → a ≡ true
or_cases true b h k = refl
or_cases false b h k = absurd (false≢true (sym (ap not k) ∙ h))

decimal_form : (text : List ℕ) → is_decimal text ≡ true → IsDecimalForm text
decimal_form text h =
    let first = and_parts _ _ h in
    let rest = and_parts _ _ first.1 in
    record {
      digits = sym (digits_same text) ∙ rest.0;
      some = ltb-true 0 (length text) first.0;
      no_zero = λ e. eqb-true (length text) 1 (or_cases _ _ rest.1 (eq-eqb (get_or text 0 0) 48 e));
    }

abbrev some_number : ℕ → Option ℕ
some_number n = Some n

pub number_written : (text : List ℕ) (n : ℕ) → number_in text ≡ Some n → text ≡ decimal n
number_written text n h =
    elim (cases_Bool (is_decimal text && ltb (digits_value 10 text) (2 ^ 64))) [
      | inl test ↦
          let parts = and_parts _ _ test in
          let is = decimal_form text parts.0 in
          let same : digits_value 10 text ≡ n = same_Some (digits_value 10 text) n (sym (rw test refl) ∙ h) in
          sym (decimal-digits_value own text is.digits is.some is.no_zero (ltb-true (digits_value 10 text) (2 ^ 64) parts.1)) ∙ ap decimal same
      | inr fails ↦ absurd (none-some n (sym (rw fails refl) ∙ h))
    ]

-- ---- and what is written is read

no_needless_zero : (n : ℕ) → n < 2 ^ 64 → (eqb (length (decimal n)) 1 || not (eqb (get_or (decimal n) 0 0) 48)) ≡ true
no_needless_zero n h =
    elim (cases_order n 0) [
      | inl none ↦ rw (none, decimal_digit 0 (omega arith)) refl
      | inr (inl less) ↦ absurd (omega arith)
      | inr (inr some) ↦ or_right _ _ (ap not (ne_eqb (get_or (decimal n) 0 0) 48 (omega (arith, first_decimal n some h))))
    ]

pub number_again : (n : ℕ) → n < 2 ^ 64 → number_in (decimal n) ≡ Some n
number_again n h =
    let value = digits_value-decimal own n h in
    let digits = and_from _ _ (lt-ltb 0 (length (decimal n)) (decimal_nonempty n h)) (and_from _ _ (digits_same (decimal n) ∙ digits_decimal own n h) (no_needless_zero n h)) in
    let small : ltb (digits_value 10 (decimal n)) (2 ^ 64) ≡ true = rw value (lt-ltb n (2 ^ 64) h) in
    rw (and_from _ _ digits small) (ap some_number value)

-- ---- no text writes a number that no u64 is

-- what is read is below 2 ^ 64
pub number_low : (text : List ℕ) (n : ℕ) → number_in text ≡ Some n → n < 2 ^ 64
number_low text n h =
    elim (cases_Bool (is_decimal text && ltb (digits_value 10 text) (2 ^ 64))) [
      | inl test ↦ subst (λ (m : ℕ). m < 2 ^ 64) (same_Some (digits_value 10 text) n (sym (rw test refl) ∙ h)) (ltb-true (digits_value 10 text) (2 ^ 64) (and_parts _ _ test).1)
      | inr fails ↦ absurd (none-some n (sym (rw fails refl) ∙ h))
    ]
