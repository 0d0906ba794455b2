-- The times of a certificate lie in the years 1950 to 9999.
use Rattle.std.proofs.Common.{◌≡◌, ℕ, List, ◌<◌, ◌≤◌, refl, arith, inl, inr, ℤ, pos, subst}
use Rattle.std.proofs.lemmas.Bool.{cases_order}
use Rattle.jiff_core.specs.Calendar.{day_count}
use Rattle.jiff_core.proofs.SignedLemmas.{signed_arith}
use Rattle.jiff_core.proofs.MarchLemmas.{day_count-early}
use Rattle.jiff_core.proofs.CalendarLemmas.{days_from_civil-day_count, day_count-day_of_year, day_count-lt_year, day_count_bounds}
use Rattle.cmc_time.specs.declared.moment.Moment.{Moment}
use Rattle.cmc_time.specs.Moment.{IsMoment, IsRealDate, second_of_day, seconds_of}
use Rattle.cmc_time.specs.Asn1.{IsAsn1Time, IsCertificateTime}
use Rattle.cmc_time.proofs.Inverse.{civil_date}

day_count-1950 : day_count (pos 1950) 1 1 ≡ 4_364_648
day_count-1950 = day_count-early (pos 1950) 11949 1 1 refl (omega arith) (omega arith) (omega arith)

no_earlier : (y m d : ℕ) → IsRealDate y m d → 1950 ≤ y → 4_364_648 ≤ day_count (pos y) m d
no_earlier y m d h low =
    elim (cases_order 1950 y) [
      | inl same ↦
          let P : ℕ → Type 0 = λ year. IsRealDate year m d → 4_364_648 ≤ day_count (pos year) m d in
          subst P same (λ real. omega (arith, real.day_low, day_count-1950, day_count-day_of_year (pos 1950) m d real.day_low)) h
      | inr (inl less) ↦ omega (arith, day_count-1950, day_count-lt_year (pos 1950) 1 1 (pos y) m d (civil_date 1950 1 1 first) h.day_low (omega (arith, signed_arith)))
      | inr (inr more) ↦ absurd (omega arith)
    ]
  where
    first : IsRealDate 1950 1 1
    first = record { year_low = omega arith; year_high = omega arith; month_low = omega arith; month_high = omega arith; day_low = omega arith; day_high = omega arith }

moment_time : (m : Moment) → IsMoment m → 1950 ≤ m.year → IsCertificateTime (seconds_of m)
unfolding seconds_of
moment_time m h low =
    let small : second_of_day m < 86400 = omega (arith, h.hour, h.minute, h.second) in
    let least = no_earlier m.year m.month m.day h.date low in
    let bounds = day_count_bounds (pos m.year) m.month m.day (civil_date m.year m.month m.day h.date) in
    let number = days_from_civil-day_count (pos m.year) m.month m.day in
    (omega (arith, signed_arith), omega (arith, signed_arith, bounds.1))

pub certificate_time : (tag : ℕ) (text : List ℕ) (at : ℤ) → IsAsn1Time tag text at → IsCertificateTime at
certificate_time tag text at (inl h) = subst IsCertificateTime h.1.lies_at (moment_time h.1.moment h.1.is_real h.1.low)
certificate_time tag text at (inr h) = subst IsCertificateTime h.1.lies_at (moment_time h.1.moment h.1.is_real (omega (arith, h.1.low)))
