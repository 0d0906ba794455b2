use Rattle.std.proofs.Common.{drop}
use Rattle.cmc_collect_run.proofs.Loop.{IsRunSoFar}
use Rattle.cmc_collect_run.proofs.running.make_steps.Given as goal

abbrev pub invariant-loop-step : goal.invariant-loop-step
invariant-loop-step l = IsRunSoFar l.fn.now l.fn.steps l.fn.collection (drop l.step-index l.fn.steps) l.moment l.collection
