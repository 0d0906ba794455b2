-- Where lists of moves lead.
use Rattle.std.specs.Prelude.{◌≡◌, ◌++◌, ℕ, List, [], ◌∷◌, take}
use Rattle.cmc_objects.specs.declared.entry.Entry.{Entry}
use Rattle.cmc_model.specs.Histories.{Setting}
use Rattle.cmc_pass.specs.GivenValues.{order_of, value_of}
use Rattle.cmc_pass.specs.Values.{IsValue}
use Rattle.cmc_moves.specs.declared.moves.Move.{Move}
use Rattle.cmc_moves.specs.declared.moves.Move.TheVariants.{Give}
use Rattle.cmc_moves.specs.declared.moves.Stepped.{Stepped}
use Rattle.cmc_moves.specs.Answers.{Answers, Leaves}

-- what a pass is given is right for its question: the type of what is given keeps that
abbrev pub IsRight : Move → Type 0
IsRight (Give pass named given) = IsValue (order_of given) (value_of given)
IsRight other = Unit {0}

-- the move is answered so of the history, and leaves the other one
pub record IsStep (s : Setting) (h : List Entry) (move : Move) (k : List Entry) : Type 0 where
  pub right : IsRight move
  pub answer : Stepped
  pub answers : Answers s h move answer
  pub leaves : Leaves s h move answer k

-- the moves, one after another, lead from the one history to the other
abbrev pub Lead : Setting → List Move → List Entry → List Entry → Type 0
Lead s [] h k = k ≡ h
Lead s (move ∷ moves) h k = (g : List Entry) × IsStep s h move g × Lead s moves g k

-- some of the moves, from the first on, lead from the one history to the other
abbrev pub LeadsSome : Setting → List Move → List Entry → List Entry → Type 0
LeadsSome s moves h k = (n : ℕ) × Lead s (take n moves) h k

-- below further entries stands the old history
abbrev pub Extends : List Entry → List Entry → Type 0
Extends h k = (es : List Entry) × (k ≡ es ++ h)
