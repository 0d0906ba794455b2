use Rattle.cmc_world.specs.Turns.{IsDriving}
use Rattle.cmc_world.proofs.run.drain.Given as goal

abbrev pub invariant-loop-turn : goal.invariant-loop-turn
invariant-loop-turn g l = IsDriving l.fn.world l.world l._turn
