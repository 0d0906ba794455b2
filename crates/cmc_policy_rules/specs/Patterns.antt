-- Which texts a pattern matches.
use Rattle.std.specs.Prelude.{◌≡◌, ℕ, ◌==◌, ◌&&◌, Bool, true, false, List, [], ◌∷◌, ◌++◌}
use Rattle.std.specs.List.{All, list_any}

-- the byte `*`
abbrev pub star : ℕ
star = 42

-- the text is some bytes, and then the rest
abbrev pub EndsWith : List ℕ → List ℕ → Type 0
EndsWith text rest = (front : List ℕ) × (text ≡ front ++ rest)

-- a star stands for any bytes before the rest, and each other byte for itself
abbrev pub StandsFor : (is_star : Bool) → ℕ → List ℕ → List ℕ → Type 0
StandsFor true byte text rest = EndsWith text rest
StandsFor false byte text rest = text ≡ byte ∷ rest

-- the text is what the bytes of the pattern stand for, one after the other
abbrev pub MatchesPattern : List ℕ → List ℕ → Type 0
MatchesPattern [] text = text ≡ []
MatchesPattern (byte ∷ pattern) text = (rest : List ℕ) × StandsFor (byte == star) byte text rest × MatchesPattern pattern rest

-- the same as a test: what the rest of a pattern matches is handed on, and of a text that a star begins any end may be
-- the rest
abbrev pub ends_of : List ℕ → List (List ℕ)
ends_of [] = [] ∷ []
ends_of (byte ∷ text) = (byte ∷ text) ∷ ends_of text

abbrev pub is_begun : (is_star : Bool) → ℕ → (List ℕ → Bool) → List ℕ → Bool
is_begun true byte behind text = list_any behind (ends_of text)
is_begun false byte behind [] = false
is_begun false byte behind (first ∷ text) = (first == byte) && behind text

abbrev pub is_empty : {A : Type 0} → List A → Bool
is_empty [] = true
is_empty (x ∷ xs) = false

unfoldable pub is_match : List ℕ → List ℕ → Bool
is_match [] text = is_empty text
is_match (byte ∷ pattern) text = is_begun (byte == star) byte (is_match pattern) text

-- bytes without a star
abbrev pub IsStarless : List ℕ → Type 0
IsStarless bytes = All (λ byte. (byte == star) ≡ false) bytes

-- the pattern is a piece without a star, a star, and what comes after it
pub record IsCutAtStar (pattern piece behind : List ℕ) : Type 0 where
  pub whole : pattern ≡ piece ++ (star ∷ behind)
  pub starless : IsStarless piece

-- the piece stands in the text before the rest, and nowhere further to the left
pub record IsFirstPlace (text piece rest : List ℕ) : Type 0 where
  pub here : EndsWith text (piece ++ rest)
  pub leftmost : (after : List ℕ) → EndsWith text (piece ++ after) → EndsWith rest after

-- the piece stands nowhere in the text
abbrev pub OccursNowhere : List ℕ → List ℕ → Type 0
OccursNowhere text piece = (rest : List ℕ) → EndsWith text (piece ++ rest) → ⊥
