use Rattle.cmc_audit_steps.proofs.Going.{goes_on}
use Rattle.cmc_audit_steps.proofs.Places.{plain_end}
use Rattle.cmc_audit_steps.proofs.placed.ended.Goals as goal

pub returns : goal.returns
returns c = λ cause.
    goes_on _ _ c.args.ledger.now c.end.new.self (plain_end c.args.pass cause)
    (λ s h is. (c.is_open.ensures.means s h is).0 c.if-not-is_open.false) (λ s h is. c.end.ensures.follows s h cause is)
