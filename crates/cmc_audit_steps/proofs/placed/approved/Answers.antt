use Rattle.std.proofs.Common.{true}
use Rattle.cmc_audit_steps.proofs.Going.{goes_on}
use Rattle.cmc_audit_steps.proofs.Places.{plain_judge}
use Rattle.cmc_audit_steps.proofs.placed.approved.Goals as goal

pub returns : goal.returns
returns c =
    goes_on _ _ c.args.ledger.now c.approve.new.self (plain_judge c.args.pass true)
    (λ s h is. (c.is_open.ensures.means s h is).0 c.if-not-is_open.false) (λ s h is. c.in_ok-approve.ensures.follows s h (c.is_open.ensures.begun c.if-not-is_open.false) is)
