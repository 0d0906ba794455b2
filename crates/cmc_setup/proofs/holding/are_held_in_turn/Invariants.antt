use Rattle.std.proofs.Common.{drop}
use Rattle.cmc_setup.specs.HeldInformers.{held_of}
use Rattle.cmc_setup.proofs.Grips.{IsInTurnSoFar}
use Rattle.cmc_setup.proofs.holding.are_held_in_turn.Given as goal

abbrev pub invariant-loop-step : goal.invariant-loop-step
invariant-loop-step l = IsInTurnSoFar (held_of l.holding) (drop l.step-index l.steps) l.steps
