use Rattle.std.proofs.Common.{◌≡◌, ◌*◌, ◌≤◌, take}
use Rattle.cmc_setup.specs.Setups.{seconds_ticked}
use Rattle.cmc_setup.proofs.fitting.seconds_in_all.Given as goal

abbrev pub invariant-loop-step : goal.invariant-loop-step
invariant-loop-step l = record { value : l.sum ≡ seconds_ticked (take l.step-index l.steps); most : l.sum ≤ 1000000000 * l.step-index }
