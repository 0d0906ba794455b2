use Rattle.std.proofs.Common.{◌≡◌, ◌++◌, take}
use Rattle.cmc_cursor.proofs.paths.below.Given as goal

abbrev pub invariant-loop-step : goal.invariant-loop-step
invariant-loop-step l = l.longer ≡ l.initial.longer ++ take l.step-index l.path
