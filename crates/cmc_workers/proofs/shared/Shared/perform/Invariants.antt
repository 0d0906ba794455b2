use Rattle.std.proofs.Common.{◌≡◌}
use Rattle.cmc_workers.proofs.shared.Shared.perform.Given as goal

abbrev pub invariant-loop-step : goal.invariant-loop-step
invariant-loop-step l = l.self.world.scenario ≡ l.fn.self.world.scenario
