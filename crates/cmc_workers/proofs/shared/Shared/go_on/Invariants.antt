use Rattle.std.proofs.Common.{◌≡◌}
use Rattle.cmc_workers.proofs.shared.Shared.go_on.Given as goal

abbrev pub invariant-loop-move : goal.invariant-loop-move
invariant-loop-move l = l.self.world.scenario ≡ l.fn.self.world.scenario
