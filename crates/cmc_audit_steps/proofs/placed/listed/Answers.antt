use Rattle.cmc_audit_steps.proofs.Going.{goes_on}
use Rattle.cmc_audit_steps.proofs.Places.{plain_list}
use Rattle.cmc_audit_steps.proofs.placed.listed.Goals as goal

pub returns : goal.returns
returns c =
    goes_on _ _ c.args.ledger.now c.tell.new.self (plain_list c.args.role c.args.kind c.args.to)
    (λ s h is. (c.may_list.ensures s h is).0 c.if-not-may_list.false) c.tell.ensures.listed
