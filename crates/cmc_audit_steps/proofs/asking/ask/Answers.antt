use Rattle.std.proofs.Common.{sym, ◌∙◌}
use Rattle.cmc_audit_steps.proofs.Asks.{asks_ill, asks_on}
use Rattle.cmc_audit_steps.proofs.asking.ask.Goals as goal

pub returns-then-not-may_order : goal.returns-then-not-may_order
returns-then-not-may_order c =
    asks_ill c.args.ledger.now c.args.pass c.args.order.now (λ s h is. (c.is_open.ensures.means s h is).0 c.if-not-is_open.false)
    (λ may. let on = c.may_order.ensures.1 may in let off = c.if-not-may_order.true in cc (on, off))

pub returns : goal.returns
returns c =
    asks_on c.args.ledger.now c.ask.new.self c.args.pass c.args.order.now (c.is_of_request.ensures.0 c.if-not-is_of_request.false) (λ s h is. (c.is_open.ensures.means s h is).0 c.if-not-is_open.false)
    (c.may_order.ensures.0 c.if-not-may_order.false)
    (λ s h order same is. c.ask.ensures.follows s h order (same ∙ sym c.in_ok-asked.ensures) (c.is_open.ensures.begun c.if-not-is_open.false) is)
