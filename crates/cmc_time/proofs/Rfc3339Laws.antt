-- A text of RFC 3339 is read as the second that it writes, and nothing else is read.
use Rattle.std.proofs.Common.{◌≡◌, ℕ, true, List, ◌++◌, Some, ℤ, pos, ap, ◌∙◌, arith, codes}
use Rattle.std.proofs.lemmas.Bool.Decides.{nat_tests}
use Rattle.jiff_core.proofs.CalendarLemmas.{days_in_month_bounds}
use Rattle.cmc_time.specs.Moment.{IsMoment, seconds_of}
use Rattle.cmc_time.specs.Texts.{four_digits, HasTwoDigits}
use Rattle.cmc_time.specs.Rfc3339.{IsRfc3339, rfc3339, rfc3339_text}
use Rattle.cmc_time.specs.TimeTexts.{four_digits_at, moment_of_year_at, is_moment, second_at, rfc3339_seconds}
use Rattle.cmc_time.specs.declared.moment.Moment.{Moment}
use Rattle.cmc_time.proofs.Steps.{bind_some, guard_some}
use Rattle.cmc_time.proofs.Inverse.{moment_of-seconds_of}
use Rattle.cmc_time.proofs.Texts.{four_digits_again, four_digits_found, moment_again, moment_found}

pub is_moment_again : (m : Moment) → IsMoment m → is_moment m ≡ true
is_moment_again m h = grind (arith, nat_tests, h.date.year_low, h.date.year_high, h.date.month_low, h.date.month_high, h.date.day_low, h.date.day_high, h.hour, h.minute, h.second)

pub is_moment_found : (m : Moment) → is_moment m ≡ true → IsMoment m
is_moment_found m e = record {
  date = record {
    year_low = grind (arith, nat_tests);
    year_high = grind (arith, nat_tests);
    month_low = grind (arith, nat_tests);
    month_high = grind (arith, nat_tests);
    day_low = grind (arith, nat_tests);
    day_high = grind (arith, nat_tests);
  };
  hour = grind (arith, nat_tests);
  minute = grind (arith, nat_tests);
  second = grind (arith, nat_tests);
}

pub second_again : (m : Moment) → IsMoment m → second_at m ≡ Some (seconds_of m)
second_again m h = rw (is_moment_again m h)

pub second_found : (m : Moment) (at : ℤ) → second_at m ≡ Some at → IsMoment m × (seconds_of m ≡ at)
second_found m at e =
    let passed = guard_some (is_moment m) _ at e in
    (is_moment_found m passed.0, passed.1)

pub HasTwoDigits-IsMoment : (m : Moment) → IsMoment m → HasTwoDigits m
HasTwoDigits-IsMoment m h = record {
  month = omega (arith, h.date.month_high);
  day = omega (arith, h.date.day_high, days_in_month_bounds (pos m.year) m.month);
  hour = omega (arith, h.hour);
  minute = omega (arith, h.minute);
  second = omega (arith, h.second);
}

pub rfc3339_again : (text : List ℕ) (at : ℤ) → IsRfc3339 text at → rfc3339_seconds text ≡ Some at
unfolding rfc3339_seconds
rfc3339_again text at h =
    let m = h.moment in
    rw (
      h.written,
      four_digits_again m.year _ (omega (arith, h.is_real.date.year_high)),
      moment_again (codes "-") (codes "T") (codes ":") m (HasTwoDigits-IsMoment m h.is_real),
      second_again m h.is_real,
      h.lies_at,
    )

pub rfc3339_found : (text : List ℕ) (at : ℤ) → rfc3339_seconds text ≡ Some at → IsRfc3339 text at
unfolding rfc3339_seconds
rfc3339_found text at e =
    let year = bind_some (four_digits_at text) _ at e in
    let moment = bind_some (moment_of_year_at year.0.0 (codes "-") (codes "T") (codes ":") year.0.1) _ at year.2 in
    let m = moment.0 in
    let real = second_found m at moment.2 in
    let digits = four_digits_found text year.0.0 year.0.1 year.1 in
    let rest = moment_found year.0.0 (codes "-") (codes "T") (codes ":") year.0.1 m moment.1 in
    record {
      moment = m;
      is_real = real.0;
      written = rw (rest.0) (digits.1 ∙ ap (λ t. four_digits year.0.0 ++ t) rest.1);
      lies_at = real.1;
    }

-- the text of the moment that lies there
pub rfc3339_is : (m : Moment) (at : ℤ) → IsMoment m → seconds_of m ≡ at → rfc3339 at ≡ rfc3339_text m
unfolding rfc3339
rfc3339_is m at real lies_at = rw (← lies_at, moment_of-seconds_of m real)
