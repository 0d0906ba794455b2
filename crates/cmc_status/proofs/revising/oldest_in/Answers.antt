use Rattle.std.proofs.Common.{refl}
use Rattle.cmc_status.proofs.History.{one_more, none_left}
use Rattle.cmc_status.proofs.revising.oldest_in.Goals as goal

pub loop-request-init : goal.loop-request-init
loop-request-init c = refl

pub loop-request-preserved : goal.loop-request-preserved
loop-request-preserved c =
    one_more c.args.requests.now c.loop-request.request-index c.request-item.result _ _ _ c.loop-request-test.true c.request-item.is c.oldest_with-oldest.ensures c.loop-request.invariant

pub returns : goal.returns
returns c = none_left c.args.requests.now c.loop-request.request-index _ c.loop-request-test.false c.loop-request.invariant
