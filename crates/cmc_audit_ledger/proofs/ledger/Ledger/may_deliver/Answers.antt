use Rattle.cmc_audit_ledger.proofs.Permits.{delivery, told_of, within_of}
use Rattle.cmc_audit_ledger.proofs.ledger.Ledger.may_deliver.Goals as goal

pub returns-then-is_told_of : goal.returns-then-is_told_of
returns-then-is_told_of c = λ s h is. (
  λ on. delivery s h c.args.self.now c.args.role c.args.kind c.args.to is (c.is_told_of.ensures.0 c.if-is_told_of.true) (c.is_within.ensures.0 on),
  λ d. c.is_within.ensures.1 (within_of s h c.args.self.now c.args.role c.args.kind c.args.to is d),
)

pub returns-else-is_told_of : goal.returns-else-is_told_of
returns-else-is_told_of c = λ s h is. (
  λ on. absurd (let off = c.if-is_told_of.false in cc (on, off)),
  λ d. absurd (let on = c.is_told_of.ensures.1 (told_of s h c.args.self.now c.args.role c.args.kind is d.running d.informed) in let off = c.if-is_told_of.false in cc (on, off)),
)
