-- A text of a duration is read as its seconds, and nothing else is read.
use Rattle.std.proofs.Common.{◌≡◌, ℕ, ◌/◌, ◌%◌, ◌^◌, ◌<◌, ◌≤◌, ◌==◌, ◌&&◌, inl, inr, Bool, true, false, cond, nat_lt, nat_le, List, [], ◌∷◌, ◌++◌, length, bytes_eq, codes, Some, None, refl, sym, ap, ◌∙◌, arith, append_assoc, append-nil, take_at, drop_at, length-append, take-append-drop, eqb-true}
use Rattle.std.proofs.lemmas.Bool.{and_parts}
use Rattle.std.proofs.lemmas.Bool.Decides.{nat_tests}
use Rattle.std.proofs.lemmas.Fmt.{decimal_nonempty, length-decimal-le, digits_decimal, digits_value-decimal}
use Rattle.std.proofs.lemmas.List.{nil_from_length}
use Rattle.std.proofs.lemmas.Option.{none-some, same_Some}
use Rattle.std.proofs.lemmas.Slice.Eq.{bytes_eq-Decides}
use Rattle.std.specs.Char.{is_ascii_digit}
use Rattle.std.specs.Fmt.{decimal}
use Rattle.std.specs.Str.{all_ascii_digits}
use Rattle.std.specs.Str.Parse.{digits_value}
use Rattle.cmc_time.specs.Durations.{hour_unit, minute_unit, second_unit, longest, duration_of, HasCount, IsDurationPart, HasParts, IsDuration, go_duration}
use Rattle.cmc_time.specs.DurationTexts.{part_from, part_at, sum_of, parts_seconds, duration_seconds}
use Rattle.cmc_time.proofs.Digits.{are_digits, prefix_len-digits, own}
use Rattle.cmc_time.proofs.Steps.{guard_some}
use borrow.Author.Tests.{ltb-true, ltb-false}

-- a part with this unit is read, with its count
part_takes : (unit : ℕ) (part : List ℕ) (count : ℕ) (more : List ℕ) → is_ascii_digit unit ≡ false → HasCount unit part count → part_at unit (part ++ more) ≡ (count, more)
unfolding part_at
part_takes unit part count more other_byte h =
    let ds = h.digits in
    let text : part ++ more ≡ ds ++ unit ∷ more = rw (h.written) (simp append_assoc) in
    let test : ((unit == unit) && nat_le 1 (length ds) && nat_le (length ds) 9) ≡ true = grind (arith, nat_tests, h.some, h.few) in
    rw (text, prefix_len-digits ds unit more h.are_digits other_byte, take_at ds (unit ∷ more) _ refl, drop_at ds (unit ∷ more) _ refl, test, h.counts)

-- a part with another unit is left as it is
part_skips : (unit other : ℕ) (part : List ℕ) (count : ℕ) (more : List ℕ) → is_ascii_digit other ≡ false → (other == unit) ≡ false → HasCount other part count → part_at unit (part ++ more) ≡ (0, part ++ more)
unfolding part_at
part_skips unit other part count more other_byte differ h =
    let ds = h.digits in
    let text : part ++ more ≡ ds ++ other ∷ more = rw (h.written) (simp append_assoc) in
    rw (text, prefix_len-digits ds other more h.are_digits other_byte, take_at ds (other ∷ more) _ refl, drop_at ds (other ∷ more) _ refl, differ)

part_step : (unit : ℕ) (part : List ℕ) (count : ℕ) (more : List ℕ) → is_ascii_digit unit ≡ false → IsDurationPart unit part count → part_at unit more ≡ (0, more) → part_at unit (part ++ more) ≡ (count, more)
part_step unit part count more other_byte (inl h) skips = rw (h.0, h.1) skips
part_step unit part count more other_byte (inr h) skips = part_takes unit part count more other_byte h

part_at-nil : (unit : ℕ) → part_at unit [] ≡ (0, [])
unfolding part_at
part_at-nil unit = refl

minutes_skip_seconds : (part : List ℕ) (count : ℕ) → IsDurationPart second_unit part count → part_at minute_unit part ≡ (0, part)
minutes_skip_seconds part count (inl h) = rw (h.0) (part_at-nil minute_unit)
minutes_skip_seconds part count (inr h) =
    let whole : part ++ [] ≡ part = simp append-nil in
    rw whole at (part_skips minute_unit second_unit part count [] refl refl h)

hours_skip_seconds : (part : List ℕ) (count : ℕ) → IsDurationPart second_unit part count → part_at hour_unit part ≡ (0, part)
hours_skip_seconds part count (inl h) = rw (h.0) (part_at-nil hour_unit)
hours_skip_seconds part count (inr h) =
    let whole : part ++ [] ≡ part = simp append-nil in
    rw whole at (part_skips hour_unit second_unit part count [] refl refl h)

hours_skip : (minute_part second_part : List ℕ) (minutes seconds : ℕ) → IsDurationPart minute_unit minute_part minutes → IsDurationPart second_unit second_part seconds → part_at hour_unit (minute_part ++ second_part) ≡ (0, minute_part ++ second_part)
hours_skip minute_part second_part minutes seconds (inl h) s = rw (h.0) (hours_skip_seconds second_part seconds s)
hours_skip minute_part second_part minutes seconds (inr h) s = part_skips hour_unit minute_unit minute_part minutes second_part refl refl h

parts_again : (text : List ℕ) (total : ℕ) → HasParts text total → parts_seconds text ≡ Some total
unfolding parts_seconds
parts_again text total h =
    let whole : h.second_part ++ [] ≡ h.second_part = simp append-nil in
    let first = part_step hour_unit h.hour_part h.hours (h.minute_part ++ h.second_part) refl h.hour_is (hours_skip h.minute_part h.second_part h.minutes h.seconds h.minute_is h.second_is) in
    let second = part_step minute_unit h.minute_part h.minutes h.second_part refl h.minute_is (minutes_skip_seconds h.second_part h.seconds h.second_is) in
    let third : part_at second_unit h.second_part ≡ (h.seconds, []) = rw whole at (part_step second_unit h.second_part h.seconds [] refl h.second_is (part_at-nil second_unit)) in
    let some = h.some in
    let within : duration_of h.hours h.minutes h.seconds ≤ longest = omega (arith, h.lasts, h.within) in
    let test : (nat_lt 0 (length text) && (length {A = ℕ} [] == 0) && nat_le (duration_of h.hours h.minutes h.seconds) longest) ≡ true = grind (arith, nat_tests) in
    let split : parts_seconds text ≡ sum_of text h.hours h.minutes h.seconds [] = rw (h.written, first, second, third) refl in
    split ∙ rw (test, h.lasts)

-- what was read of a part, and the text around it
from_found : (unit : ℕ) (text digits rest : List ℕ) → all_ascii_digits digits ≡ true → text ≡ digits ++ rest → (part : List ℕ) × IsDurationPart unit part (part_from unit text digits rest).0 × (text ≡ part ++ (part_from unit text digits rest).1)
from_found unit text digits [] are e = ([], inl (refl, refl), refl)
from_found unit text digits (first ∷ rest) are e = go _ refl
  where
    go : (t : Bool) → ((first == unit) && nat_le 1 (length digits) && nat_le (length digits) 9) ≡ t → (part : List ℕ) × IsDurationPart unit part (cond {A = ℕ × List ℕ} t (digits_value 10 digits, rest) (0, text)).0 × (text ≡ part ++ (cond {A = ℕ × List ℕ} t (digits_value 10 digits, rest) (0, text)).1)
    go false test = ([], inl (refl, refl), refl)
    go true test =
        let (unit_some, few) = and_parts ((first == unit) && nat_le 1 (length digits)) (nat_le (length digits) 9) test in
        let (is_unit, some) = and_parts (first == unit) (nat_le 1 (length digits)) unit_some in
        let same = eqb-true first unit is_unit in
        let counted : HasCount unit (digits ++ unit ∷ []) (digits_value 10 digits) = record {
          digits = digits;
          are_digits = are;
          some = grind (arith, nat_tests);
          few = grind (arith, nat_tests);
          written = refl;
          counts = refl;
        } in
        (digits ++ unit ∷ [], inr counted, e ∙ rw same (simp append_assoc))

part_found : (unit : ℕ) (text : List ℕ) → (part : List ℕ) × IsDurationPart unit part (part_at unit text).0 × (text ≡ part ++ (part_at unit text).1)
unfolding part_at
part_found unit text = from_found unit text _ _ (are_digits text) (sym (take-append-drop _ text))

parts_found : (text : List ℕ) (total : ℕ) → parts_seconds text ≡ Some total → HasParts text total
unfolding parts_seconds
parts_found text total e =
    let hours = part_at hour_unit text in
    let minutes = part_at minute_unit hours.1 in
    let seconds = part_at second_unit minutes.1 in
    let first = part_found hour_unit text in
    let second = part_found minute_unit hours.1 in
    let third = part_found second_unit minutes.1 in
    let passed = guard_some _ (duration_of hours.0 minutes.0 seconds.0) total e in
    let (ends, fits) = and_parts (nat_lt 0 (length text) && (length seconds.1 == 0)) (nat_le (duration_of hours.0 minutes.0 seconds.0) longest) passed.0 in
    let (some, empty) = and_parts (nat_lt 0 (length text)) (length seconds.1 == 0) ends in
    let end = nil_from_length seconds.1 (eqb-true _ _ empty) in
    let whole : third.0 ++ [] ≡ third.0 = simp append-nil in
    let last : minutes.1 ≡ third.0 = third.2 ∙ ap (λ t. third.0 ++ t) end ∙ whole in
    record {
      hour_part = first.0;
      minute_part = second.0;
      second_part = third.0;
      hours = hours.0;
      minutes = minutes.0;
      seconds = seconds.0;
      hour_is = first.1;
      minute_is = second.1;
      second_is = third.1;
      written = first.2 ∙ ap (λ t. first.0 ++ t) (second.2 ∙ ap (λ t. second.0 ++ t) last);
      some = grind (arith, nat_tests);
      lasts = passed.1;
      within = grind (arith, nat_tests, passed.1);
    }

zero_has_no_parts : parts_seconds (48 ∷ []) ≡ None
unfolding parts_seconds part_at
zero_has_no_parts = refl

pub duration_again : (text : List ℕ) (total : ℕ) → IsDuration text total → duration_seconds text ≡ Some total
unfolding duration_seconds
duration_again text total (inl h) = rw (h.0, h.1)
duration_again text total (inr h) = go (bytes_eq text (codes "0")) refl (parts_again text total h)
  where
    go : (t : Bool) → bytes_eq text (codes "0") ≡ t → parts_seconds text ≡ Some total → cond t (Some 0) (parts_seconds text) ≡ Some total
    go false e read = read
    go true e read =
        let is_zero = (bytes_eq-Decides text (48 ∷ [])).0 e in
        absurd (none-some total (sym zero_has_no_parts ∙ ap parts_seconds (sym is_zero) ∙ read))

pub duration_found : (text : List ℕ) (total : ℕ) → duration_seconds text ≡ Some total → IsDuration text total
unfolding duration_seconds
duration_found text total e = go (bytes_eq text (codes "0")) refl e
  where
    go : (t : Bool) → bytes_eq text (codes "0") ≡ t → cond t (Some 0) (parts_seconds text) ≡ Some total → IsDuration text total
    go false is read = inr (parts_found text total read)
    go true is read = inl ((bytes_eq-Decides text (48 ∷ [])).0 is, sym (same_Some 0 total read))

-- a count as Go prints it
decimal_count : (unit n : ℕ) → n < 10 ^ 9 → HasCount unit (decimal n ++ unit ∷ []) n
decimal_count unit n small =
    let narrow : n < 2 ^ 64 = omega arith in
    record {
      digits = decimal n;
      are_digits = digits_decimal own n narrow;
      some = decimal_nonempty n narrow;
      few = length-decimal-le 9 n (omega arith) small narrow;
      written = refl;
      counts = digits_value-decimal own n narrow;
    }

in_seconds : (total : ℕ) → total < 60 → HasParts (decimal total ++ codes "s") total
in_seconds total small = record {
  hour_part = [];
  minute_part = [];
  second_part = decimal total ++ 115 ∷ [];
  hours = 0;
  minutes = 0;
  seconds = total;
  hour_is = inl (refl, refl);
  minute_is = inl (refl, refl);
  second_is = inr (decimal_count second_unit total (omega arith));
  written = refl;
  some = omega (arith, length-append (decimal total) (115 ∷ []));
  lasts = omega arith;
  within = omega arith;
}

in_minutes : (total : ℕ) → 60 ≤ total → total < 3600 → HasParts (decimal (total / 60) ++ (codes "m" ++ (decimal (total % 60) ++ codes "s"))) total
in_minutes total low small = record {
  hour_part = [];
  minute_part = decimal (total / 60) ++ 109 ∷ [];
  second_part = decimal (total % 60) ++ 115 ∷ [];
  hours = 0;
  minutes = total / 60;
  seconds = total % 60;
  hour_is = inl (refl, refl);
  minute_is = inr (decimal_count minute_unit (total / 60) (omega arith));
  second_is = inr (decimal_count second_unit (total % 60) (omega arith));
  written = simp append_assoc;
  some = omega (arith, decimal_nonempty (total / 60) (omega arith), length-append (decimal (total / 60)) (109 ∷ (decimal (total % 60) ++ 115 ∷ [])));
  lasts = omega arith;
  within = omega arith;
}

in_hours : (total : ℕ) → total ≤ longest → HasParts (decimal (total / 3600) ++ (codes "h" ++ (decimal (total % 3600 / 60) ++ (codes "m" ++ (decimal (total % 60) ++ codes "s"))))) total
in_hours total within = record {
  hour_part = decimal (total / 3600) ++ 104 ∷ [];
  minute_part = decimal (total % 3600 / 60) ++ 109 ∷ [];
  second_part = decimal (total % 60) ++ 115 ∷ [];
  hours = total / 3600;
  minutes = total % 3600 / 60;
  seconds = total % 60;
  hour_is = inr (decimal_count hour_unit (total / 3600) (omega arith));
  minute_is = inr (decimal_count minute_unit (total % 3600 / 60) (omega arith));
  second_is = inr (decimal_count second_unit (total % 60) (omega arith));
  written = simp append_assoc;
  some = omega (arith, length-append (decimal (total / 3600)) (104 ∷ (decimal (total % 3600 / 60) ++ (109 ∷ (decimal (total % 60) ++ 115 ∷ [])))));
  lasts = omega arith;
  within = within;
}

-- what Go prints is a text of the duration
pub go_duration_is : (total : ℕ) → total ≤ longest → IsDuration (go_duration total) total
unfolding go_duration
go_duration_is total within = inr (go (nat_lt total 60) (nat_lt total 3600) refl refl)
  where
    go : (seconds minutes : Bool) → nat_lt total 60 ≡ seconds → nat_lt total 3600 ≡ minutes → HasParts (cond {A = List ℕ} seconds (decimal total ++ codes "s") (cond {A = List ℕ} minutes (decimal (total / 60) ++ (codes "m" ++ (decimal (total % 60) ++ codes "s"))) (decimal (total / 3600) ++ (codes "h" ++ (decimal (total % 3600 / 60) ++ (codes "m" ++ (decimal (total % 60) ++ codes "s"))))))) total
    go true minutes short e = in_seconds total (ltb-true total 60 short)
    go false true long e = in_minutes total (ltb-false total 60 long) (ltb-true total 3600 e)
    go false false long e = in_hours total within
