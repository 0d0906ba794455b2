use Rattle.std.proofs.Common.{drop}
use Rattle.cmc_setup.specs.Flags.{flag_of}
use Rattle.cmc_setup.proofs.Orderly.{IsOrderlySoFar}
use Rattle.cmc_setup.proofs.running.are_orderly.Given as goal

abbrev pub invariant-loop-step : goal.invariant-loop-step
invariant-loop-step l = IsOrderlySoFar (flag_of l.running) (drop l.step-index l.steps) l.roles l.steps
