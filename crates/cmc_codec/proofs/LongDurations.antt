-- A duration of more than 999,999,999 hours is printed as a text that is not read.
use Rattle.std.proofs.Common.{◌≡◌, ℕ, ◌/◌, ◌%◌, ◌^◌, ◌<◌, ◌≤◌, ◌==◌, ◌&&◌, ◌⊎◌, inl, inr, Bool, true, false, cond, nat_lt, nat_le, List, [], ◌∷◌, ◌++◌, length, bytes_eq, codes, Some, None, refl, ap, arith, take_at, drop_at, length-append}
use Rattle.std.proofs.lemmas.Bool.Decides.{nat_tests}
use Rattle.std.proofs.lemmas.Fmt.{decimal_nonempty, length-decimal-le, digits_decimal, digits_value-decimal}
use Rattle.std.proofs.lemmas.Slice.Eq.{bytes_eq-Decides}
use Rattle.std.specs.Char.{is_ascii_digit}
use Rattle.std.specs.Fmt.{decimal}
use Rattle.cmc_time.specs.Durations.{hour_unit, minute_unit, second_unit, longest, duration_of, go_duration}
use Rattle.cmc_time.specs.DurationTexts.{part_at, sum_of, parts_seconds, duration_seconds}
use Rattle.cmc_time.proofs.Digits.{prefix_len-digits, digits_value_nine, own}

-- digits before a unit
takes : (unit : ℕ) (n : ℕ) (more : List ℕ) → is_ascii_digit unit ≡ false → n < 10 ^ 9 → part_at unit (decimal n ++ unit ∷ more) ≡ (n, more)
unfolding part_at
takes unit n more other small =
    let ds = decimal n in
    let narrow : n < 2 ^ 64 = omega arith in
    let digits = digits_decimal own n narrow in
    let some = decimal_nonempty n narrow in
    let few = length-decimal-le 9 n (omega arith) small narrow in
    let test : ((unit == unit) && nat_le 1 (length ds) && nat_le (length ds) 9) ≡ true = grind (arith, nat_tests, some, few) in
    rw (prefix_len-digits ds unit more digits other, take_at ds (unit ∷ more) _ refl, drop_at ds (unit ∷ more) _ refl, test, digits_value-decimal own n narrow)

skips : (unit other : ℕ) (n : ℕ) (more : List ℕ) → is_ascii_digit other ≡ false → (other == unit) ≡ false → n < 2 ^ 64 → part_at unit (decimal n ++ other ∷ more) ≡ (0, decimal n ++ other ∷ more)
unfolding part_at
skips unit other n more other_byte differ narrow =
    let ds = decimal n in
    rw (prefix_len-digits ds other more (digits_decimal own n narrow) other_byte, take_at ds (other ∷ more) _ refl, drop_at ds (other ∷ more) _ refl, differ)

wide : (n : ℕ) → 10 ^ 9 ≤ n → n < 2 ^ 64 → 9 < length (decimal n)
wide n large narrow =
    elim (le_or_lt (length (decimal n)) 9) [
      | inl few ↦ absurd (omega (arith, digits_value_nine (decimal n) (digits_decimal own n narrow) few, digits_value-decimal own n narrow))
      | inr more ↦ more
    ]
  where
    le_or_lt : (a b : ℕ) → (a ≤ b) ⊎ (b < a)
    le_or_lt a b = grind arith

too_wide_part : (n : ℕ) (more : List ℕ) → 10 ^ 9 ≤ n → n < 2 ^ 64 → part_at hour_unit (decimal n ++ hour_unit ∷ more) ≡ (0, decimal n ++ hour_unit ∷ more)
unfolding part_at
too_wide_part n more large narrow =
    let ds = decimal n in
    let digits = digits_decimal own n narrow in
    let over = wide n large narrow in
    let test : ((hour_unit == hour_unit) && nat_le 1 (length ds) && nat_le (length ds) 9) ≡ false = grind (arith, nat_tests, over) in
    rw (prefix_len-digits ds hour_unit more digits refl, take_at ds (hour_unit ∷ more) _ refl, drop_at ds (hour_unit ∷ more) _ refl, test)

nothing_read : (t : List ℕ) (n : ℕ) → 0 < length t → sum_of t 0 0 0 t ≡ None
nothing_read t n some =
    let test : (nat_lt 0 (length t) && (length t == 0) && nat_le (duration_of 0 0 0) longest) ≡ false = grind (arith, nat_tests, some) in
    rw test refl

-- too many hours for the digits of a part: nothing is read
too_wide : (n : ℕ) (more : List ℕ) → 10 ^ 9 ≤ n → n < 2 ^ 64 → parts_seconds (decimal n ++ hour_unit ∷ more) ≡ None
unfolding parts_seconds
too_wide n more large narrow =
    let some : 0 < length (decimal n ++ hour_unit ∷ more) = omega (arith, length-append (decimal n) (hour_unit ∷ more)) in
    rw (too_wide_part n more large narrow, skips minute_unit hour_unit n more refl refl narrow, skips second_unit hour_unit n more refl refl narrow) (nothing_read (decimal n ++ hour_unit ∷ more) n some)

too_long : (h m s : ℕ) → h < 10 ^ 9 → m < 60 → s < 60 → longest < duration_of h m s
    → parts_seconds (decimal h ++ hour_unit ∷ (decimal m ++ minute_unit ∷ (decimal s ++ second_unit ∷ []))) ≡ None
unfolding parts_seconds
too_long h m s hours minutes seconds long =
    let text = decimal h ++ hour_unit ∷ (decimal m ++ minute_unit ∷ (decimal s ++ second_unit ∷ [])) in
    let test : (nat_lt 0 (length text) && (length {A = ℕ} [] == 0) && nat_le (duration_of h m s) longest) ≡ false = grind (arith, nat_tests, long) in
    rw (takes hour_unit h (decimal m ++ minute_unit ∷ (decimal s ++ second_unit ∷ [])) refl hours, takes minute_unit m (decimal s ++ second_unit ∷ []) refl (omega arith), takes second_unit s [] refl (omega arith), test) refl

parts_unread : (n : ℕ) → longest < n → n < 2 ^ 64
    → parts_seconds (decimal (n / 3600) ++ hour_unit ∷ (decimal (n % 3600 / 60) ++ minute_unit ∷ (decimal (n % 60) ++ second_unit ∷ []))) ≡ None
parts_unread n long narrow =
    elim (less_or_more (n / 3600) (10 ^ 9)) [
      | inl small ↦ too_long (n / 3600) (n % 3600 / 60) (n % 60) small (omega arith) (omega arith) (omega arith)
      | inr large ↦ too_wide (n / 3600) _ large (omega arith)
    ]
  where
    less_or_more : (a b : ℕ) → (a < b) ⊎ (b ≤ a)
    less_or_more a b = grind arith

-- the text of such a duration is not read
pub unread : (n : ℕ) → longest < n → n < 2 ^ 64 → duration_seconds (go_duration n) ≡ None
unfolding duration_seconds go_duration
unread n long narrow =
    let text = decimal (n / 3600) ++ hour_unit ∷ (decimal (n % 3600 / 60) ++ minute_unit ∷ (decimal (n % 60) ++ second_unit ∷ [])) in
    let first : nat_lt n 60 ≡ false = grind (arith, nat_tests, long) in
    let second : nat_lt n 3600 ≡ false = grind (arith, nat_tests, long) in
    let longer : 1 < length text = omega (arith, length-append (decimal (n / 3600)) (hour_unit ∷ (decimal (n % 3600 / 60) ++ minute_unit ∷ (decimal (n % 60) ++ second_unit ∷ []))), decimal_nonempty (n / 3600) (omega arith)) in
    rw (first, second) (go text (bytes_eq text (codes "0")) refl longer (parts_unread n long narrow))
  where
    go : (t : List ℕ) (b : Bool) → bytes_eq t (codes "0") ≡ b → 1 < length t → parts_seconds t ≡ None → cond b (Some 0) (parts_seconds t) ≡ None
    go t false e longer none = none
    go t true e longer none = absurd (omega (arith, ap length ((bytes_eq-Decides t (48 ∷ [])).0 e)))
