use Rattle.std.proofs.Common.{◌≡◌}
use Rattle.cmc_workers.proofs.shared.Shared.tell_wanted.Given as goal

abbrev pub invariant-loop-delivery : goal.invariant-loop-delivery
invariant-loop-delivery l = l.self.world.scenario ≡ l.fn.self.world.scenario
