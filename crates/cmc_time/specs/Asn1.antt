-- The two times of X.509 certificates (RFC 5280, 4.1.2.5): UTCTime for the years 1950 to 2049, GeneralizedTime
-- from 2050 on.
use Rattle.std.specs.Prelude.{◌≡◌, ◌++◌, ◌%◌, ◌≤◌, ◌⊎◌, nat_lt, if◌then◌else◌, List, [], ℕ, ℤ, pos, neg_ℤ, ◌≤ℤ◌}
use Rattle.cmc_time.specs.declared.moment.Moment.{Moment}
use Rattle.cmc_time.specs.Moment.{IsMoment, seconds_of, moment_of}
use Rattle.cmc_time.specs.Texts.{two_digits, four_digits, after_year}

-- the identifier octets of UTCTime and GeneralizedTime (X.690: universal 23 and 24)
abbrev pub utc_time_tag : ℕ
utc_time_tag = 0x17

abbrev pub generalized_time_tag : ℕ
generalized_time_tag = 0x18

-- `YYMMDDHHMMSSZ`
abbrev pub utc_time_text : Moment → List ℕ
utc_time_text m = two_digits (m.year % 100) ++ after_year [] [] [] m

-- `YYYYMMDDHHMMSSZ`
abbrev pub generalized_time_text : Moment → List ℕ
generalized_time_text m = four_digits m.year ++ after_year [] [] [] m

-- the text writes a real moment of 1950 to 2049, which lies at that second
pub record IsUtcTime (text : List ℕ) (at : ℤ) : Type 0 where
  pub moment : Moment
  pub is_real : IsMoment moment
  pub low : 1950 ≤ moment.year
  pub high : moment.year ≤ 2049
  pub written : text ≡ utc_time_text moment
  pub lies_at : seconds_of moment ≡ at

-- the same of 2050 or later
pub record IsGeneralizedTime (text : List ℕ) (at : ℤ) : Type 0 where
  pub moment : Moment
  pub is_real : IsMoment moment
  pub low : 2050 ≤ moment.year
  pub written : text ≡ generalized_time_text moment
  pub lies_at : seconds_of moment ≡ at

-- the body of a value with this tag is a time of a certificate
abbrev pub IsAsn1Time : ℕ → List ℕ → ℤ → Type 0
IsAsn1Time tag text at =
    ((tag ≡ utc_time_tag) × IsUtcTime text at) ⊎ ((tag ≡ generalized_time_tag) × IsGeneralizedTime text at)

-- from 1950-01-01T00:00:00Z to 9999-12-31T23:59:59Z
abbrev pub IsCertificateTime : ℤ → Type 0
IsCertificateTime at = (neg_ℤ (pos 631_152_000) ≤ℤ at) × (at ≤ℤ pos 253_402_300_799)

-- the tag and the body of a moment of those years
abbrev pub tag_of : Moment → ℕ
tag_of m = if nat_lt m.year 2050 then utc_time_tag else generalized_time_tag

abbrev pub asn1_time_text : Moment → List ℕ
asn1_time_text m = if nat_lt m.year 2050 then utc_time_text m else generalized_time_text m

-- and of the time at which it lies
unfoldable pub asn1_tag : ℤ → ℕ
asn1_tag at = tag_of (moment_of at)

unfoldable pub asn1_text : ℤ → List ℕ
asn1_text at = asn1_time_text (moment_of at)
