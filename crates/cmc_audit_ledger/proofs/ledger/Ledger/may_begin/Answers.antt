use Rattle.std.proofs.Common.{◌≡◌, ℤ, Bool, true, false, not, refl, subst, rules, w64}
use Rattle.std.proofs.lemmas.Int.{to_z-of_z}
use Rattle.cmc_audit_ledger.specs.Positions.{IsNext}
use Rattle.cmc_audit_ledger.proofs.Permits.{begins, free_of}
use Rattle.cmc_audit_ledger.proofs.ledger.Ledger.may_begin.Goals as goal

turned : (b : Bool) → not b ≡ true → b ≡ true → ⊥
turned true off on = cc off
turned false off on = cc on

not_on : (b : Bool) → (b ≡ true → ⊥) → not b ≡ true
not_on true off = absurd (off refl)
not_on false off = refl

pub returns-clause-means : goal.returns-clause-means
returns-clause-means c = λ s h is. (
  λ free. begins s h c.args.self.now c.args.pass c.args.role c.args.key.now c.args.at c.args.now is (subst (λ (at : ℤ). IsNext c.args.self.now c.args.pass c.args.role c.args.key.now c.args.at at) (to_z-of_z w64 c.args.now (search rules)) (c.is_first.ensures.0 c.if-not-is_first.false)) (λ on. turned c.in_ok-is_on.field-0 free (c.in_ok-is_on.ensures.1 on)),
  λ b. not_on c.in_ok-is_on.field-0 (λ on. free_of s h c.args.self.now c.args.pass c.args.role c.args.key.now c.args.at c.args.now is b (c.in_ok-is_on.ensures.0 on)),
)
