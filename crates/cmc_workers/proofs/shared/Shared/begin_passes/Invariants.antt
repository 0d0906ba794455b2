use Rattle.std.proofs.Common.{◌≡◌}
use Rattle.cmc_workers.proofs.shared.Shared.begin_passes.Given as goal

abbrev pub invariant-loop-pass : goal.invariant-loop-pass
invariant-loop-pass l = l.self.world.scenario ≡ l.fn.self.world.scenario
