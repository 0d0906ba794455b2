use Rattle.cmc_objects.specs.declared.entry.Entry.TheVariants as entries
use Rattle.std.proofs.Common.{sym, subst, ◌∷◌}
use Rattle.cmc_audit_ledger.specs.declared.ledger.Ledger.{Ledger}
use Rattle.cmc_audit_ledger.specs.Ledgers.{IsLedgerOf}
use Rattle.cmc_audit_ledger.proofs.Events.{scripted}
use Rattle.cmc_audit_steps.proofs.Going.{goes_on}
use Rattle.cmc_audit_steps.proofs.Places.{plain_script}
use Rattle.cmc_audit_steps.proofs.placed.scripted.Goals as goal

pub returns : goal.returns
returns c = λ step.
    goes_on _ _ c.args.ledger.now c.count.new.self (plain_script step) (λ s h is. tt)
    (λ s h is. subst (λ (l : Ledger). IsLedgerOf s (entries.Script step ∷ h) l) (sym c.count.ensures) (scripted s h c.args.ledger.now step is))
