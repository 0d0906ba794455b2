use Rattle.std.proofs.Common.{◌∙◌, rules}
use Rattle.std.specs.Int.{w64}
use Rattle.std.proofs.lemmas.Int.{to_z-of_z}
use Rattle.cmc_collect_run.proofs.Loop.{one_more}
use Rattle.cmc_collect_run.proofs.running.make_steps.Goals as goal

pub loop-step-preserved : goal.loop-step-preserved
loop-step-preserved c =
    one_more _ _ _ _ c.loop-step.step-index _ c.loop-step.moment _ c.loop-step.collection c.make_step.new.collection c.loop-step-test.true c.step-item.is
    (to_z-of_z w64 c.in-Some.next (search rules) ∙ (rw c.loop-step.moment-is at c.in-Some.ensures.1))
    (rw (c.loop-step.moment-is, c.if-not-branch.false) at c.in_ok-make_step.ensures) (rw c.loop-step.moment-is at c.loop-step.invariant)
