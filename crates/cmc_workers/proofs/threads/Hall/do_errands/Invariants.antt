use Rattle.cmc_workers.specs.Drives.{CanBeDone}
use Rattle.cmc_workers.proofs.threads.Hall.do_errands.Given as goal

abbrev pub invariant-loop-round : goal.invariant-loop-round
invariant-loop-round g l = CanBeDone l.errand.task
