use Rattle.cmc_audit_ledger.proofs.Events.{judged_on}
use Rattle.cmc_audit_ledger.proofs.ledger.Ledger.approve.Goals as goal

pub returns-clause-follows : goal.returns-clause-follows
returns-clause-follows c = λ s h low is. judged_on s h c.args.self.now c.note_yes.new.self c.args.pass low c.in_ok-note_yes.ensures.begun c.in_ok-note_yes.ensures.rows is
