use Rattle.std.proofs.Common.{◌≡◌}
use Rattle.cmc_workers.proofs.rounds.first_among.Given as goal

abbrev pub invariant-loop-place : goal.invariant-loop-place
invariant-loop-place l = l.world ≡ l.fn.world
