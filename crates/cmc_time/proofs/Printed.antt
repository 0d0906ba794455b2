-- What is printed of a time is a text of it.
use Rattle.std.proofs.Common.{◌≡◌, ◌≤◌, inl, inr, ℕ, Bool, true, false, cond, nat_lt, List, ℤ, pos, neg_ℤ, ◌≤ℤ◌, refl, arith}
use Rattle.std.proofs.lemmas.Bool.{cases_order}
use Rattle.jiff_core.specs.Calendar.{day_count}
use Rattle.jiff_core.proofs.MarchLemmas.{day_count-early}
use Rattle.jiff_core.proofs.SignedLemmas.{signed_arith}
use Rattle.jiff_core.proofs.CalendarLemmas.{days_from_civil-day_count, day_count-lt_year}
use Rattle.cmc_time.specs.Moment.{IsMoment, moment_of, seconds_of}
use Rattle.cmc_time.specs.Asn1.{IsAsn1Time, IsCertificateTime, asn1_tag, asn1_text, utc_time_tag, generalized_time_tag, utc_time_text, generalized_time_text}
use Rattle.cmc_time.proofs.Exists.{moment_of_is}
use Rattle.cmc_time.proofs.Inverse.{civil_date}
use Rattle.cmc_time.specs.declared.moment.Moment.{Moment}
use borrow.Author.Tests.{ltb-true, ltb-false}

day_count-year_1950 : day_count (pos 1950) 1 1 ≡ 4_364_648
day_count-year_1950 = day_count-early (pos 1950) 11949 1 1 refl (omega arith) (omega arith) (omega arith)

-- a moment that lies in 1950 or later is of 1950 or later
from_1950 : (m : Moment) → IsMoment m → neg_ℤ (pos 631_152_000) ≤ℤ seconds_of m → 1950 ≤ m.year
unfolding seconds_of
from_1950 m h low = elim (cases_order m.year 1950) [
  | inl same ↦ omega arith
  | inr (inl before) ↦ absurd (omega (
    arith,
    signed_arith,
    h.hour,
    h.minute,
    h.second,
    day_count-year_1950,
    days_from_civil-day_count (pos m.year) m.month m.day,
    day_count-lt_year (pos m.year) m.month m.day (pos 1950) 1 1 (civil_date m.year m.month m.day h.date) (omega arith) (omega (arith, signed_arith)),
  ))
  | inr (inr after) ↦ omega arith
]

pub asn1_is_text : (at : ℤ) → IsCertificateTime at → IsAsn1Time (asn1_tag at) (asn1_text at) at
unfolding asn1_tag asn1_text
asn1_is_text at h = go (nat_lt (moment_of at).year 2050) refl
  where
    go : (t : Bool) → nat_lt (moment_of at).year 2050 ≡ t → IsAsn1Time (cond {A = ℕ} t utc_time_tag generalized_time_tag) (cond {A = List ℕ} t (utc_time_text (moment_of at)) (generalized_time_text (moment_of at))) at
    go true early =
        let found = moment_of_is at (omega (arith, signed_arith), h.1) in
        let low = from_1950 (moment_of at) found.0 (rw (found.1) (h.0)) in
        inl (refl, record { moment = moment_of at; is_real = found.0; low = low; high = omega (arith, ltb-true (moment_of at).year 2050 early); written = refl; lies_at = found.1 })
    go false late =
        let found = moment_of_is at (omega (arith, signed_arith), h.1) in
        inr (refl, record { moment = moment_of at; is_real = found.0; low = ltb-false (moment_of at).year 2050 late; written = refl; lies_at = found.1 })
