use Rattle.cmc_summary_form.proofs.OneMore.{one_more}
use Rattle.cmc_summary_form.proofs.waits.waits_of.Goals as goal

pub loop-place-preserved : goal.loop-place-preserved
loop-place-preserved c = rw (c.in_ok-push-in-Ok.ensures.ok) (one_more _ _ _ _ _ _ _ c.loop-place-test.true c.index-items-place.is c.as_slice.ensures c.in-Ok.ensures c.loop-place.invariant)
