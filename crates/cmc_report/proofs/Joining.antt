-- The bytes of strings, one string after another.
use Rattle.std.proofs.Common.{◌≡◌, List, [], ◌∷◌, ◌++◌, map, String, string_bytes, refl, ap}
use Rattle.std.specs.List.{flat_map}
use Rattle.std.specs.declared.alloc.Global.{Global}
use Rattle.cmc_report.specs.Text.{joined}

pub joined_strings : (ss : List (String Global)) → flat_map string_bytes ss ≡ joined (map string_bytes ss)
joined_strings [] = refl
joined_strings (s ∷ ss) = ap (λ l. string_bytes s ++ l) (joined_strings ss)
