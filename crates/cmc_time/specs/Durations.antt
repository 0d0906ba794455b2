-- Durations in whole seconds, written as Go's time.Duration writes them: `2160h0m0s`, `5m0s`, `30s`, `0s`.
use Rattle.std.specs.Prelude.{◌≡◌, ℕ, ◌+◌, ◌*◌, ◌/◌, ◌%◌, ◌<◌, ◌≤◌, ◌⊎◌, true, nat_lt, List, [], ◌∷◌, ◌++◌, length, codes, if◌then◌else◌}
use Rattle.std.specs.Str.{all_ascii_digits}
use Rattle.std.specs.Str.Parse.{digits_value}
use Rattle.std.specs.Fmt.{decimal}

-- the units of a duration's parts
abbrev pub hour_unit : ℕ
hour_unit = 104

abbrev pub minute_unit : ℕ
minute_unit = 109

abbrev pub second_unit : ℕ
second_unit = 115

-- the longest duration that has a text that is read: 999,999,999 hours
abbrev pub longest : ℕ
longest = 3_599_999_996_400

-- the seconds of hours, minutes and seconds
abbrev pub duration_of : ℕ → ℕ → ℕ → ℕ
duration_of hours minutes seconds = hours * 3600 + minutes * 60 + seconds

-- one to nine digits and the unit, counting what the digits write; or nothing, counting 0
pub record HasCount (unit : ℕ) (part : List ℕ) (count : ℕ) : Type 0 where
  pub digits : List ℕ
  pub are_digits : all_ascii_digits digits ≡ true
  pub some : 0 < length digits
  pub few : length digits ≤ 9
  pub written : part ≡ digits ++ unit ∷ []
  pub counts : digits_value 10 digits ≡ count

abbrev pub IsDurationPart : ℕ → List ℕ → ℕ → Type 0
IsDurationPart unit part count = ((part ≡ []) × (count ≡ 0)) ⊎ HasCount unit part count

-- hours, minutes and seconds in this order, one of them at least
pub record HasParts (text : List ℕ) (total : ℕ) : Type 0 where
  pub hour_part : List ℕ
  pub minute_part : List ℕ
  pub second_part : List ℕ
  pub hours : ℕ
  pub minutes : ℕ
  pub seconds : ℕ
  pub hour_is : IsDurationPart hour_unit hour_part hours
  pub minute_is : IsDurationPart minute_unit minute_part minutes
  pub second_is : IsDurationPart second_unit second_part seconds
  pub written : text ≡ hour_part ++ (minute_part ++ second_part)
  pub some : 0 < length text
  pub lasts : duration_of hours minutes seconds ≡ total
  pub within : total ≤ longest

-- the text writes a duration of that many seconds: `0`, or such parts
abbrev pub IsDuration : List ℕ → ℕ → Type 0
IsDuration text total = ((text ≡ codes "0") × (total ≡ 0)) ⊎ HasParts text total

-- the text that Go's time.Duration has: leading units that are zero are left out, later ones are not
unfoldable pub go_duration : ℕ → List ℕ
go_duration total =
    if nat_lt total 60 then decimal total ++ codes "s"
    else (if nat_lt total 3600 then decimal (total / 60) ++ (codes "m" ++ (decimal (total % 60) ++ codes "s"))
    else decimal (total / 3600) ++ (codes "h" ++ (decimal (total % 3600 / 60) ++ (codes "m"
    ++ (decimal (total % 60) ++ codes "s")))))
