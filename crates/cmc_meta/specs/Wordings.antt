-- What the texts are that name the subject of a certificate.
use Rattle.std.specs.Prelude.{ℕ, List, Bool, not, ◌&&◌, nat_le, length}
use Rattle.std.specs.Char.{is_control}
use Rattle.std.specs.List.{list_all, list_any}
use Rattle.std.specs.Str.{chars}

-- a printable character of ASCII, the blank included
abbrev pub is_printable : ℕ → Bool
is_printable c = nat_le 0x20 c && nat_le c 0x7E

-- 1 to 253 printable characters of ASCII
abbrev pub is_printable_name : List ℕ → Bool
is_printable_name t = nat_le 1 (length t) && (nat_le (length t) 253 && list_all is_printable t)

-- a text without a control character
abbrev pub is_clean : List ℕ → Bool
is_clean t = not (list_any is_control (chars t))
