use Rattle.std.proofs.Common.{ℕ, List, ◌++◌, length}
use Rattle.cmc_policy_rules.specs.Patterns.{EndsWith}
use Rattle.cmc_policy_rules.proofs.matching.find.Given as goal

-- what is left is an end of the text, and has each place of the piece
abbrev pub invariant-loop-rest : goal.invariant-loop-rest
invariant-loop-rest l = record {
  is_end : EndsWith l.text l.left;
  has_each : (after : List ℕ) → EndsWith l.text (l.piece ++ after) → EndsWith l.left (l.piece ++ after);
}

abbrev pub decreases-loop-rest : goal.decreases-loop-rest
decreases-loop-rest l = length l.left
