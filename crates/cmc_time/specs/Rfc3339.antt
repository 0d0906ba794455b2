-- Times as RFC 3339 writes them in UTC, to the second: `2030-01-01T00:00:00Z`.
use Rattle.std.specs.Prelude.{◌≡◌, ◌++◌, List, ℕ, ℤ, codes}
use Rattle.cmc_time.specs.declared.moment.Moment.{Moment}
use Rattle.cmc_time.specs.Moment.{IsMoment, seconds_of, moment_of}
use Rattle.cmc_time.specs.Texts.{four_digits, after_year}

-- `YYYY-MM-DDTHH:MM:SSZ`
abbrev pub rfc3339_text : Moment → List ℕ
rfc3339_text m = four_digits m.year ++ after_year (codes "-") (codes "T") (codes ":") m

-- the text of a time in the years 1 to 9999
unfoldable pub rfc3339 : ℤ → List ℕ
rfc3339 at = rfc3339_text (moment_of at)

-- the text writes a real moment of those years, which lies at that second
pub record IsRfc3339 (text : List ℕ) (at : ℤ) : Type 0 where
  pub moment : Moment
  pub is_real : IsMoment moment
  pub written : text ≡ rfc3339_text moment
  pub lies_at : seconds_of moment ≡ at
