use Rattle.cmc_audit_steps.proofs.Going.{goes_on}
use Rattle.cmc_audit_steps.proofs.Places.{plain_deliver}
use Rattle.cmc_audit_steps.proofs.placed.delivered.Goals as goal

pub returns : goal.returns
returns c =
    goes_on _ _ c.args.ledger.now c.tell.new.self (plain_deliver c.args.role c.args.kind c.args.to)
    (λ s h is. (c.may_deliver.ensures s h is).0 c.if-not-may_deliver.false) c.tell.ensures.delivered
