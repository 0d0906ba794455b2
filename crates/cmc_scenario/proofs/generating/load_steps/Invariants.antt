use Rattle.std.proofs.Common.{◌≡◌}
use Rattle.cmc_scenario.specs.Loads.{loads}
use Rattle.cmc_scenario.proofs.generating.load_steps.Given as goal

abbrev pub invariant-loop-place : goal.invariant-loop-place
invariant-loop-place l = l.steps ≡ loads l.place
