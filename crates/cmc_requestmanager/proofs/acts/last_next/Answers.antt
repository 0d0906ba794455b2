use Rattle.std.proofs.Common.{refl}
use Rattle.cmc_requestmanager.proofs.Last.{one_more, none_left}
use Rattle.cmc_requestmanager.proofs.acts.last_next.Goals as goal

pub loop-request-init : goal.loop-request-init
loop-request-init c = refl

pub loop-request-preserved : goal.loop-request-preserved
loop-request-preserved c =
    one_more c.args.certificate.now c.args.requests.now c.loop-request.request-index c.request-item.result _ _ _ c.loop-request-test.true c.request-item.is c.last_with-last.ensures c.loop-request.invariant

pub returns : goal.returns
returns c = none_left c.args.certificate.now c.args.requests.now c.loop-request.request-index _ _ c.loop-request-test.false c.loop-request.invariant
