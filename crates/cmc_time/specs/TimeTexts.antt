-- What the private functions of `reading` compute. `proofs/` shows that they read the texts, and nothing else.
use Rattle.std.specs.Prelude.{Bool, ℕ, ◌+◌, ◌-◌, ◌*◌, ◌&&◌, ◌==◌, nat_lt, nat_le, List, [], ◌∷◌, length, take, drop, Option, Some, None, option_map, option_and_then, bytes_eq, codes, if◌then◌else◌, pos, ℤ}
use Rattle.std.specs.Char.{is_ascii_digit}
use Rattle.std.specs.Borrow.{Bor}
use Rattle.jiff_core.specs.Calendar.{days_in_month}
use Rattle.cmc_time.specs.declared.moment.Moment.{Moment}
use Rattle.cmc_time.specs.Moment.{seconds_of}

-- what a function read, with the text after the reference
abbrev pub read_view : {A : Type 0} → Option (A × Bor (List ℕ)) → Option (A × List ℕ)
read_view r = option_map (λ p. (p.0, p.1.now)) r

infixl 10 ◌>>=◌
abbrev ◌>>=◌ : {A B : Type 0} → Option A → (A → Option B) → Option B
o >>= f = option_and_then f o

-- what follows this mark at the front
unfoldable pub mark_at : List ℕ → List ℕ → Option (List ℕ)
mark_at mark text = if bytes_eq (take (length mark) text) mark then Some (drop (length mark) text)
    else None

-- two digits at the front
unfoldable pub two_digits_at : List ℕ → Option (ℕ × List ℕ)
two_digits_at [] = None
two_digits_at (high ∷ []) = None
two_digits_at (high ∷ low ∷ rest) =
    if is_ascii_digit high && is_ascii_digit low
    then Some ((high - 48) * 10 + (low - 48), rest)
    else None

-- four digits at the front
unfoldable pub four_digits_at : List ℕ → Option (ℕ × List ℕ)
four_digits_at text = do
  century ← two_digits_at text
  year ← two_digits_at century.1
  Some (century.0 * 100 + year.0, year.1)

-- a mark and two digits after it
unfoldable pub marked_at : List ℕ → List ℕ → Option (ℕ × List ℕ)
marked_at mark text = mark_at mark text >>= two_digits_at

-- the moment of this year whose other numbers are there between the marks
unfoldable pub moment_of_year_at : ℕ → List ℕ → List ℕ → List ℕ → List ℕ → Option Moment
moment_of_year_at year date middle time text = do
  month ← marked_at date text
  day ← marked_at date month.1
  hour ← marked_at middle day.1
  minute ← marked_at time hour.1
  second ← marked_at time minute.1
  if bytes_eq second.1 (codes "Z")
      then Some (record {
        year = year;
        month = month.0;
        day = day.0;
        hour = hour.0;
        minute
            = minute.0;
        second = second.0;
      })
      else None

-- the calendar has the day, in the years 1 to 9999
abbrev pub is_date : ℕ → ℕ → ℕ → Bool
is_date year month day =
    (nat_le 1 year && nat_le year 9999 && nat_le 1 month && nat_le month 12)
    && nat_le 1 day && nat_le day (days_in_month (pos year) month)

-- and the clock has the time
abbrev pub is_moment : Moment → Bool
is_moment m =
    is_date m.year m.month m.day && nat_lt m.hour 24 && nat_lt m.minute 60 && nat_lt m.second 60

-- the second at which a real moment lies
abbrev pub second_at : Moment → Option ℤ
second_at m = if is_moment m then Some (seconds_of m) else None

-- the second that a text of RFC 3339 writes
unfoldable pub rfc3339_seconds : List ℕ → Option ℤ
rfc3339_seconds text = do
  year ← four_digits_at text
  moment ← moment_of_year_at year.0 (codes "-") (codes "T") (codes ":") year.1
  second_at moment

-- the year that the two digits of a UTCTime mean: 1950 to 2049
abbrev pub full_year : ℕ → ℕ
full_year short = (if nat_lt short 50 then 2000 else 1900) + short

-- the second that the body of a UTCTime writes
unfoldable pub utc_time_seconds : List ℕ → Option ℤ
utc_time_seconds text = do
  year ← two_digits_at text
  moment ← moment_of_year_at (full_year year.0) [] [] [] year.1
  second_at moment

-- the second that the body of a GeneralizedTime writes, from 2050 on
unfoldable pub generalized_time_seconds : List ℕ → Option ℤ
generalized_time_seconds text = do
  year ← four_digits_at text
  moment ← moment_of_year_at year.0 [] [] [] year.1
  if nat_lt moment.year 2050 then None else second_at moment

-- by the tag of the value
unfoldable pub asn1_seconds : ℕ → List ℕ → Option ℤ
asn1_seconds tag text =
    if tag == 0x17 then utc_time_seconds text
    else (if tag == 0x18 then generalized_time_seconds text else None)
