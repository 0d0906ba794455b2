-- Lists of texts as sets: neither their order nor how often a text is there counts.
use Rattle.std.specs.Prelude.{ℕ, ◌↔◌, Bool, ◌&&◌, List, Contains}
use Rattle.std.specs.Str.{bytes_eq}
use Rattle.std.specs.List.{list_any, list_all}

-- both have the same texts
abbrev pub IsSameSet : List (List ℕ) → List (List ℕ) → Type 0
IsSameSet left right = (text : List ℕ) → Contains left text ↔ Contains right text

-- ---- the same as tests

-- the text is one of these
abbrev pub is_among : List (List ℕ) → List ℕ → Bool
is_among texts text = list_any (λ other. bytes_eq other text) texts

-- each of the texts is one of these
abbrev pub is_within : List (List ℕ) → List (List ℕ) → Bool
is_within texts others = list_all (is_among others) texts

abbrev pub is_same_set : List (List ℕ) → List (List ℕ) → Bool
is_same_set left right = is_within left right && is_within right left
