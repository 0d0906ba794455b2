-- What the private functions of `duration` compute. `proofs/` shows that they read the texts of durations, and
-- nothing else.
use Rattle.std.specs.Prelude.{ℕ, ◌&&◌, ◌==◌, nat_lt, nat_le, List, [], ◌∷◌, length, take, drop, Option, Some, None, bytes_eq, codes, if◌then◌else◌}
use Rattle.std.specs.Char.{is_ascii_digit}
use Rattle.std.specs.Str.Parse.{digits_value}
use Rattle.std.specs.List.{prefix_len}
use Rattle.std.specs.Borrow.{Bor}
use Rattle.cmc_time.specs.Durations.{hour_unit, minute_unit, second_unit, longest, duration_of}

-- how many digits stand at the front
abbrev pub digits_len : List ℕ → ℕ
digits_len text = prefix_len is_ascii_digit text

-- the count and what follows, where the unit follows one to nine digits; or 0 and the text as it is
abbrev pub part_from : ℕ → List ℕ → List ℕ → List ℕ → ℕ × List ℕ
part_from unit text digits [] = (0, text)
part_from unit text digits (first ∷ rest) =
    if (first == unit) && nat_le 1 (length digits) && nat_le (length digits) 9
    then (digits_value 10 digits, rest)
    else (0, text)

unfoldable pub part_at : ℕ → List ℕ → ℕ × List ℕ
part_at unit text = part_from unit text (take (digits_len text) text) (drop (digits_len text) text)

abbrev pub part_view : ℕ × Bor (List ℕ) → ℕ × List ℕ
part_view p = (p.0, p.1.now)

-- the sum of the parts, where the text is not empty, is read to its end and is not too long a time
abbrev pub sum_of : List ℕ → ℕ → ℕ → ℕ → List ℕ → Option ℕ
sum_of text hours minutes seconds rest =
    if nat_lt 0 (length text) && (length rest == 0)
    && nat_le (duration_of hours minutes seconds) longest
    then Some (duration_of hours minutes seconds)
    else None

unfoldable pub parts_seconds : List ℕ → Option ℕ
parts_seconds text =
    let hours = part_at hour_unit text in
    let minutes = part_at minute_unit hours.1 in
    let seconds = part_at second_unit minutes.1 in
    sum_of text hours.0 minutes.0 seconds.0 seconds.1

-- the seconds that a text writes
unfoldable pub duration_seconds : List ℕ → Option ℕ
duration_seconds text = if bytes_eq text (codes "0") then Some 0 else parts_seconds text
