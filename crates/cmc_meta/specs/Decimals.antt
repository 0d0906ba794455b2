-- Numbers as texts, as resource versions and revisions are written.
use Rattle.std.specs.Prelude.{ℕ, ◌^◌, Bool, not, ◌&&◌, ◌||◌, ◌==◌, nat_lt, length, slice_index, List, Option, Some, None, if◌then◌else◌}
use Rattle.std.specs.Char.{is_ascii_digit}
use Rattle.std.specs.List.{list_all}
use Rattle.std.specs.Str.Parse.{digits_value}

-- decimal digits, with no zero before others
abbrev pub is_decimal : List ℕ → Bool
is_decimal text =
    nat_lt 0 (length text)
    && (list_all is_ascii_digit text && ((length text == 1) || not (slice_index text 0 == 48)))

-- the number below 2 ^ 64 that the text writes, without sign or leading zero, if it writes one
abbrev pub number_in : List ℕ → Option ℕ
number_in text = if is_decimal text && nat_lt (digits_value 10 text) (2 ^ 64) then Some (digits_value 10 text) else None
