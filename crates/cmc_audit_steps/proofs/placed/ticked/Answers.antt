use Rattle.std.proofs.Common.{ℤ, ◌∷◌, rules, subst, w64}
use Rattle.std.proofs.lemmas.Int.{to_z-of_z}
use Rattle.cmc_audit_clauses.specs.Clauses.{IsPlaced}
use Rattle.cmc_objects.specs.declared.entry.Entry.TheVariants as entries
use Rattle.cmc_audit_ledger.specs.Ledgers.{IsLedgerOf}
use Rattle.cmc_audit_steps.proofs.Going.{goes_on}
use Rattle.cmc_audit_steps.proofs.Places.{plain_tick}
use Rattle.cmc_audit_steps.proofs.placed.ticked.Goals as goal

pub returns : goal.returns
returns c =
    goes_on _ _ c.args.ledger.now c.tick.new.self (plain_tick c.args.now)
    (λ s h is. subst (λ (x : ℤ). IsPlaced s h (entries.Tick x)) (to_z-of_z w64 c.args.now (search rules)) ((c.may_tick.ensures.means s h is).0 c.if-not-may_tick.false))
    (λ s h is. subst (λ (x : ℤ). IsLedgerOf s (entries.Tick x ∷ h) c.tick.new.self) (to_z-of_z w64 c.args.now (search rules)) (c.tick.ensures.follows s h is))
