use Rattle.std.proofs.Common.{sym, subst, Option, ◌∙◌}
use Rattle.cmc_audit_clauses.specs.declared.clause.Clause.{Clause}
use Rattle.cmc_audit_steps.specs.Failures.{CallFails}
use Rattle.cmc_audit_steps.proofs.Calls.{called_on, called_some, misreplied, none_of}
use Rattle.cmc_audit_steps.proofs.calling.make.Goals as goal

pub returns-then-not-shows : goal.returns-then-not-shows
returns-then-not-shows c =
    misreplied c.args.ledger.now c.answer.new.ledger c.args.who c.args.call.now c.in_ok-reply.field-0.reply c.args.printed.now (λ s h is. (c.may_call.ensures.means s h is).0 c.if-not-may_call.false)
    c.in_ok-reply.ensures.reply (λ same. let on = c.shows.ensures.1 same in let off = c.if-not-shows.true in cc (on, off))

pub returns-then-is_some : goal.returns-then-is_some
returns-then-is_some c =
    called_some c.args.ledger.now c.answer.new.ledger c.answer.new.ledger c.args.who c.args.call.now c.in_ok-reply.field-0.reply c.args.printed.now c.in_ok-reply.field-0.key c.in_ok-reply.field-0.object c.in_ok-failed.failed
    (sym c.is_some.ensures ∙ c.if-is_some.true) (λ s h is. (c.may_call.ensures.means s h is).0 c.if-not-may_call.false) c.in_ok-reply.ensures.reply (c.shows.ensures.0 c.if-not-shows.false) c.in_ok-reply.ensures.served
    c.in_ok-failed.ensures

pub returns : goal.returns
returns c =
    called_on c.args.ledger.now c.answer.new.ledger c.take_in.new.self c.args.who c.args.call.now c.in_ok-reply.field-0.reply c.args.printed.now c.in_ok-reply.field-0.key c.in_ok-reply.field-0.object
    (λ s h is. (c.may_call.ensures.means s h is).0 c.if-not-may_call.false) c.in_ok-reply.ensures.reply (c.shows.ensures.0 c.if-not-shows.false) c.in_ok-reply.ensures.served
    (subst (λ (failed : Option Clause). CallFails c.answer.new.ledger.journal c.answer.new.ledger.passes c.args.who c.args.call.now c.in_ok-reply.field-0.key c.in_ok-reply.field-0.object failed) (none_of c.in_ok-failed.failed (sym c.is_some.ensures ∙ c.if-is_some.false)) c.in_ok-failed.ensures)
    (λ s h is. c.in_ok-take_in.ensures.follows s h c.args.ledger.now c.in_ok-reply.ensures.served (c.may_call.ensures.begun c.if-not-may_call.false) is)
