-- Lines one after another.
use Rattle.std.specs.Prelude.{ℕ, List, String, string_bytes}
use Rattle.std.specs.List.{flat_map}
use Rattle.std.specs.declared.alloc.Global.{Global}

-- The bytes of the texts, one text after another.
abbrev pub joined : List (String Global) → List ℕ
joined lines = flat_map string_bytes lines
