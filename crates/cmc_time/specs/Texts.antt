-- The digits of dates and times (RFC 3339 and X.680 have the same).
use Rattle.std.specs.Prelude.{ℕ, ◌+◌, ◌/◌, ◌%◌, ◌<◌, List, [], ◌∷◌, ◌++◌, codes}
use Rattle.cmc_time.specs.declared.moment.Moment.{Moment}

-- a number below 100, in two digits
abbrev pub two_digits : ℕ → List ℕ
two_digits n = (48 + n / 10) ∷ (48 + n % 10) ∷ []

-- a number below 10000, in four digits
abbrev pub four_digits : ℕ → List ℕ
four_digits n = two_digits (n / 100) ++ two_digits (n % 100)

-- what follows the year, up to a final `Z`: the month and the day, each after the first mark, the hour
-- after the second, and the minute and the second, each after the third
abbrev pub after_year : List ℕ → List ℕ → List ℕ → Moment → List ℕ
after_year date middle time m =
    date ++ (two_digits m.month ++ (date ++ (two_digits m.day ++ (middle ++ (two_digits m.hour
    ++ (time ++ (two_digits m.minute ++ (time ++ (two_digits m.second ++ codes "Z")))))))))

-- the numbers after the year have at most two digits
pub record HasTwoDigits (m : Moment) : Type 0 where
  pub month : m.month < 100
  pub day : m.day < 100
  pub hour : m.hour < 100
  pub minute : m.minute < 100
  pub second : m.second < 100
