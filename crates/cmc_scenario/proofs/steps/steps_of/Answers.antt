use Rattle.cmc_scenario.proofs.OneMore.{at_first, one_more}
use Rattle.cmc_scenario.proofs.steps.steps_of.Goals as goal

pub loop-place-init : goal.loop-place-init
loop-place-init c = rw (c.new-steps.ensures) (at_first _ _ _ c.first-stage.ensures)

pub loop-place-preserved : goal.loop-place-preserved
loop-place-preserved c = rw (c.in_ok-push-in-Ok.ensures.ok) (one_more _ _ _ _ _ _ _ _ c.loop-place-test.true c.index-items-place.is c.in-Ok.ensures c.loop-place.invariant)
