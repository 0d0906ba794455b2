-- Times of certificates (RFC 5280, 4.1.2.5), as the values that they are.
use Rattle.std.specs.Prelude.{ℕ, ℤ, List, Option, Some}
use Rattle.cmc_der.specs.Values.{BeginsWith}
use Rattle.cmc_time.specs.Asn1.{IsAsn1Time}
use Rattle.cmc_time.specs.TimeTexts.{asn1_seconds}
use Rattle.cmc_x509.specs.Options.{◌>>=◌, value_at}

-- the octets begin with a UTCTime or a GeneralizedTime of this moment
abbrev pub BeginsWithTime : List ℕ → ℤ → List ℕ → Type 0
BeginsWithTime octets at rest = (tag : ℕ) × (text : List ℕ) × BeginsWith octets tag text rest × IsAsn1Time tag text at

-- ---- reading it from the left

unfoldable pub time_at : List ℕ → Option (ℤ × List ℕ)
time_at bs = do
  x ← value_at bs
  at ← asn1_seconds x.0 x.1
  Some (at, x.2)
