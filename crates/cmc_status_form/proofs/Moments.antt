-- A moment that RFC 3339 writes is read as it is printed, and only such a one is read.
use Rattle.std.proofs.Common.{◌≡◌, ℕ, ◌<◌, ◌≤◌, List, true, ℤ, pos, Option, Some, None, Ok, refl, subst, arith}
use Rattle.std.proofs.lemmas.Int.{ints}
use Rattle.jiff_core.specs.Calendar.{day_count, IsCivilDate}
use Rattle.jiff_core.proofs.MarchLemmas.{day_count-early}
use Rattle.jiff_core.proofs.SignedLemmas.{signed_arith}
use Rattle.jiff_core.proofs.CalendarLemmas.{days_from_civil-day_count, day_count-lt_year, day_count-next_year, day_count-last_of_year, day_count_bounds}
use Rattle.serde_json.specs.Data.{Data}
use Rattle.cmc_time.specs.Moment.{IsMoment, IsPrintable, seconds_of, moment_of}
use Rattle.cmc_time.specs.TimeTexts.{rfc3339_seconds}
use Rattle.cmc_time.specs.Rfc3339.{rfc3339, rfc3339_text}
use Rattle.cmc_time.specs.declared.moment.Moment.{Moment}
use Rattle.cmc_time.proofs.Exists.{moment_of_is}
use Rattle.cmc_time.proofs.Inverse.{civil_date}
use Rattle.cmc_time.proofs.Rfc3339Laws.{rfc3339_again, rfc3339_found}
use Rattle.cmc_cursor.specs.Readers.{found, text_at}
use Rattle.cmc_cursor.proofs.Always.{Always, so, failed, next}
use Rattle.cmc_print.specs.Words.{has_rfc3339, moment_text}
use Rattle.cmc_print.specs.Printed.{moment_tree}
use Rattle.cmc_status_form.specs.ConditionForm.{moment_at}

in_years : (at : ℤ) → IsPrintable at → has_rfc3339 at ≡ true
in_years at h = grind (arith, ints, h.0, h.1)

read_again : (at : ℤ) → IsPrintable at → rfc3339_seconds (rfc3339 at) ≡ Some at
unfolding rfc3339
read_again at h =
    let is = moment_of_is at h in
    rfc3339_again (rfc3339_text (moment_of at)) at (record { moment = moment_of at; is_real = is.0; written = refl; lies_at = is.1 })

pub moment_again : (at : ℤ) → IsPrintable at → moment_at (moment_tree at) ≡ Ok at
unfolding moment_text
moment_again at h = rw (in_years at h, read_again at h) refl

-- ---- what is read

-- 0001-01-01 is the day after the last of the year before
day_count-year_1 : day_count (pos 1) 1 1 ≡ 3_652_791
day_count-year_1 = day_count-early (pos 1) 10000 1 1 refl (omega arith) (omega arith) (omega arith)

-- no day of the years 1 to 9999 comes before it
from_year_1 : (y m d : ℕ) → 1 ≤ y → IsCivilDate (pos y) m d → 3_652_791 ≤ day_count (pos y) m d
from_year_1 y m d low h =
    let last : IsCivilDate (pos 0) 12 31 = ((omega (arith, signed_arith), omega (arith, signed_arith)), (omega arith, omega arith), (omega arith, omega arith)) in
    let before : day_count (pos 0) 12 31 < day_count (pos y) m d = day_count-lt_year (pos 0) 12 31 (pos y) m d last h.2.0 (omega (arith, signed_arith)) in
    omega (arith, day_count-year_1, day_count-last_of_year (pos 0), day_count-next_year (pos 0) (pos 1) (omega (arith, signed_arith)) refl)

pub is_printable : (m : Moment) → IsMoment m → IsPrintable (seconds_of m)
unfolding seconds_of
is_printable m h =
    let civil = civil_date m.year m.month m.day h.date in
    let low = from_year_1 m.year m.month m.day h.date.year_low civil in
    let high = day_count_bounds (pos m.year) m.month m.day civil in
    (omega (arith, signed_arith, low, days_from_civil-day_count (pos m.year) m.month m.day), omega (arith, signed_arith, high, h.hour, h.minute, h.second, days_from_civil-day_count (pos m.year) m.month m.day))

found_printable : (t : List ℕ) (o : Option ℤ) → rfc3339_seconds t ≡ o → Always IsPrintable (found o)
found_printable t None e = failed _
found_printable t (Some at) e =
    let written = rfc3339_found t at e in
    so (subst IsPrintable written.lies_at (is_printable written.moment written.is_real))

pub moment_so : (d : Data) → Always IsPrintable (moment_at d)
moment_so d = next IsPrintable (text_at d) _ (λ t. found_printable t (rfc3339_seconds t) refl)
