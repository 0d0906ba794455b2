-- The line of the scenario, by what stands in it.
use Rattle.std.specs.Prelude.{◌≡◌, ℕ, List, ◌++◌, codes}

-- The text stands in the line between the member's name and the last bracket.
abbrev pub IsInsideOf : List ℕ → List ℕ → Type 0
IsInsideOf line text = line ≡ codes "{\"scenario\":" ++ (text ++ codes "}")

abbrev pub IsInside : List ℕ → Type 0
IsInside line = (text : List ℕ) × IsInsideOf line text
