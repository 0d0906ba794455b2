use Rattle.std.proofs.Common.{◌↔◌, ◌∷◌, length}
use Rattle.cmc_policy_rules.specs.Patterns.{star, MatchesPattern}
use Rattle.cmc_policy_rules.proofs.matching.matches_behind_star.Given as goal

-- what is left to match decides
abbrev pub invariant-loop-piece : goal.invariant-loop-piece
invariant-loop-piece l = MatchesPattern (star ∷ l.left) l.rest ↔ MatchesPattern (star ∷ l.pattern) l.text

abbrev pub decreases-loop-piece : goal.decreases-loop-piece
decreases-loop-piece l = length l.left
