use Rattle.cmc_objects.specs.declared.entry.Entry.TheVariants as entries
use Rattle.std.proofs.Common.{sym, subst, ◌∷◌, false}
use Rattle.cmc_audit_ledger.specs.declared.ledger.Ledger.{Ledger}
use Rattle.cmc_audit_ledger.specs.Ledgers.{IsLedgerOf}
use Rattle.cmc_audit_ledger.proofs.Events.{made, signed, answered, refused}
use Rattle.cmc_audit_steps.proofs.Going.{goes_on}
use Rattle.cmc_audit_steps.proofs.Places.{plain_answer, plain_judge, plain_made, plain_signed}
use Rattle.cmc_audit_steps.proofs.placed.given.Goals as goal

pub returns-clause-made : goal.returns-clause-made
returns-clause-made c = λ key.
    goes_on _ _ c.args.ledger.now c.count.new.self (plain_made c.args.pass key) (λ s h is. (c.is_open.ensures.means s h is).0 c.if-not-is_open.false)
    (λ s h is. subst (λ (l : Ledger). IsLedgerOf s (entries.Made c.args.pass key ∷ h) l) (sym c.count.ensures) (made s h c.args.ledger.now c.args.pass key is))

pub returns-clause-signed : goal.returns-clause-signed
returns-clause-signed c = λ signature.
    goes_on _ _ c.args.ledger.now c.count.new.self (plain_signed c.args.pass signature) (λ s h is. (c.is_open.ensures.means s h is).0 c.if-not-is_open.false)
    (λ s h is. subst (λ (l : Ledger). IsLedgerOf s (entries.Signed c.args.pass signature ∷ h) l) (sym c.count.ensures) (signed s h c.args.ledger.now c.args.pass signature is))

pub returns-clause-answered : goal.returns-clause-answered
returns-clause-answered c = λ answer.
    goes_on _ _ c.args.ledger.now c.count.new.self (plain_answer c.args.pass answer) (λ s h is. (c.is_open.ensures.means s h is).0 c.if-not-is_open.false)
    (λ s h is. subst (λ (l : Ledger). IsLedgerOf s (entries.Answered c.args.pass answer ∷ h) l) (sym c.count.ensures) (answered s h c.args.ledger.now c.args.pass answer is))

pub returns-clause-judged : goal.returns-clause-judged
returns-clause-judged c =
    goes_on _ _ c.args.ledger.now c.count.new.self (plain_judge c.args.pass false) (λ s h is. (c.is_open.ensures.means s h is).0 c.if-not-is_open.false)
    (λ s h is. subst (λ (l : Ledger). IsLedgerOf s (entries.Judged c.args.pass false ∷ h) l) (sym c.count.ensures) (refused s h c.args.ledger.now c.args.pass is))
