use Rattle.cmc_objects.specs.declared.request.CertificateRequest.{CertificateRequest}
use Rattle.cmc_held.proofs.OneRun.{next_same}
use Rattle.cmc_held.proofs.one_run.same_requests.Goals as goal

pub loop-i-preserved : goal.loop-i-preserved
loop-i-preserved c = (
  next_same (λ (o : CertificateRequest). o.meta.version) c.args.left.now c.args.right.now c.loop-i.i c.index-left-i.result c.index-right-i.result c.deref.result.now c.deref-in-loop-i.result.now c.requires c.loop-i-test.true
      c.if-left-right.false c.loop-i.invariant.0 c.index-left-i.is c.index-right-i.is c.deref.ensures c.deref-in-loop-i.ensures c.if-deref.false,
  c.if-left-right.false,
)
