use Rattle.cmc_status_form.proofs.OneMore.{one_more}
use Rattle.cmc_status_form.proofs.conditions.conditions_of.Goals as goal

pub loop-place-preserved : goal.loop-place-preserved
loop-place-preserved c = rw (c.in_ok-renew-in-Ok.ensures.ok, c.rank-least.ensures.value) (one_more _ _ _ _ _ _ _ c.loop-place-test.true c.index-items-place.is c.in-Ok.ensures c.loop-place.invariant)
