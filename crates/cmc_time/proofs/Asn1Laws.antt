-- The body of a time of a certificate is read as the second that it writes, and nothing else is read.
use Rattle.std.proofs.Common.{◌≡◌, ℕ, ◌%◌, ◌<◌, ◌≤◌, ◌==◌, inl, inr, Option, Bool, true, false, cond, nat_lt, List, [], ◌++◌, Some, None, ℤ, refl, ap, ◌∙◌, arith, eqb-true}
use Rattle.std.proofs.lemmas.Bool.Decides.{nat_tests}
use Rattle.std.proofs.lemmas.Option.{none-some}
use Rattle.cmc_time.specs.Texts.{two_digits, four_digits}
use Rattle.cmc_time.specs.Asn1.{IsUtcTime, IsGeneralizedTime, IsAsn1Time}
use Rattle.cmc_time.specs.TimeTexts.{two_digits_at, four_digits_at, moment_of_year_at, second_at, full_year, utc_time_seconds, generalized_time_seconds, asn1_seconds}
use Rattle.cmc_time.proofs.Steps.{bind_some}
use Rattle.cmc_time.proofs.Texts.{two_digits_again, two_digits_found, four_digits_again, four_digits_found, moment_again, moment_found}
use Rattle.cmc_time.proofs.Rfc3339Laws.{second_again, second_found, HasTwoDigits-IsMoment}

-- the two digits of a year of 1950 to 2049 mean that year
full_year-short : (year : ℕ) → 1950 ≤ year → year ≤ 2049 → full_year (year % 100) ≡ year
full_year-short year low high = grind (arith, nat_tests)

full_year_parts : (short : ℕ) → short < 100 → (1950 ≤ full_year short) × (full_year short ≤ 2049) × (full_year short % 100 ≡ short)
full_year_parts short small = grind (arith, nat_tests)

utc_time_again : (text : List ℕ) (at : ℤ) → IsUtcTime text at → utc_time_seconds text ≡ Some at
unfolding utc_time_seconds
utc_time_again text at h =
    let m = h.moment in
    rw (
      h.written,
      two_digits_again (m.year % 100) _ (omega arith),
      full_year-short m.year h.low h.high,
      moment_again [] [] [] m (HasTwoDigits-IsMoment m h.is_real),
      second_again m h.is_real,
      h.lies_at,
    )

utc_time_found : (text : List ℕ) (at : ℤ) → utc_time_seconds text ≡ Some at → IsUtcTime text at
unfolding utc_time_seconds
utc_time_found text at e =
    let year = bind_some (two_digits_at text) _ at e in
    let moment = bind_some (moment_of_year_at (full_year year.0.0) [] [] [] year.0.1) _ at year.2 in
    let m = moment.0 in
    let real = second_found m at moment.2 in
    let digits = two_digits_found text year.0 year.1 in
    let rest = moment_found (full_year year.0.0) [] [] [] year.0.1 m moment.1 in
    let parts = full_year_parts year.0.0 digits.0 in
    let short : m.year % 100 ≡ year.0.0 = ap (λ (y : ℕ). y % 100) rest.0 ∙ parts.2 in
    record {
      moment = m;
      is_real = real.0;
      low = rw (rest.0) (parts.0);
      high = rw (rest.0) (parts.1);
      written = rw short (digits.1 ∙ ap (λ t. two_digits year.0.0 ++ t) rest.1);
      lies_at = real.1;
    }

generalized_time_again : (text : List ℕ) (at : ℤ) → IsGeneralizedTime text at → generalized_time_seconds text ≡ Some at
unfolding generalized_time_seconds
generalized_time_again text at h =
    let m = h.moment in
    let late : nat_lt m.year 2050 ≡ false = grind (arith, nat_tests, h.low) in
    rw (
      h.written,
      four_digits_again m.year _ (omega (arith, h.is_real.date.year_high)),
      moment_again [] [] [] m (HasTwoDigits-IsMoment m h.is_real),
      late,
      second_again m h.is_real,
      h.lies_at,
    )

-- a test that guards against the value was not passed
unless_some : {A : Type 0} (b : Bool) (o : Option A) (y : A) → cond b None o ≡ Some y → (b ≡ false) × (o ≡ Some y)
unless_some true o y e = absurd (none-some y e)
unless_some false o y e = (refl, e)

generalized_time_found : (text : List ℕ) (at : ℤ) → generalized_time_seconds text ≡ Some at → IsGeneralizedTime text at
unfolding generalized_time_seconds
generalized_time_found text at e =
    let year = bind_some (four_digits_at text) _ at e in
    let moment = bind_some (moment_of_year_at year.0.0 [] [] [] year.0.1) _ at year.2 in
    let m = moment.0 in
    let late = unless_some (nat_lt m.year 2050) (second_at m) at moment.2 in
    let real = second_found m at late.1 in
    let digits = four_digits_found text year.0.0 year.0.1 year.1 in
    let rest = moment_found year.0.0 [] [] [] year.0.1 m moment.1 in
    record {
      moment = m;
      is_real = real.0;
      low = grind (arith, nat_tests, late.0);
      written = rw (rest.0) (digits.1 ∙ ap (λ t. four_digits year.0.0 ++ t) rest.1);
      lies_at = real.1;
    }

pub asn1_again : (tag : ℕ) (text : List ℕ) (at : ℤ) → IsAsn1Time tag text at → asn1_seconds tag text ≡ Some at
unfolding asn1_seconds
asn1_again tag text at (inl h) = rw (h.0) (utc_time_again text at h.1)
asn1_again tag text at (inr h) = rw (h.0) (generalized_time_again text at h.1)

pub asn1_found : (tag : ℕ) (text : List ℕ) (at : ℤ) → asn1_seconds tag text ≡ Some at → IsAsn1Time tag text at
unfolding asn1_seconds
asn1_found tag text at e = go (tag == 0x17) (tag == 0x18) refl refl e
  where
    go : (utc general : Bool) → (tag == 0x17) ≡ utc → (tag == 0x18) ≡ general → cond utc (utc_time_seconds text) (cond general (generalized_time_seconds text) None) ≡ Some at → IsAsn1Time tag text at
    go true general is_utc is_general read = inl (eqb-true _ _ is_utc, utc_time_found text at read)
    go false true is_utc is_general read = inr (eqb-true _ _ is_general, generalized_time_found text at read)
    go false false is_utc is_general read = absurd (none-some at read)
