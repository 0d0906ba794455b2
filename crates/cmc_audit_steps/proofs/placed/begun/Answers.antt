use Rattle.std.proofs.Common.{ℤ, ◌+◌, ap, sym, ◌∙◌, rules, subst, w64}
use Rattle.std.proofs.lemmas.Int.{to_z-of_z}
use Rattle.cmc_rules.specs.Legality.{IsBegin}
use Rattle.cmc_audit_steps.proofs.Going.{goes_on}
use Rattle.cmc_audit_steps.proofs.Places.{plain_begin}
use Rattle.cmc_audit_steps.proofs.placed.begun.Goals as goal

pub returns : goal.returns
returns c =
    goes_on _ _ c.args.ledger.now c.begin.new.self (plain_begin c.args.pass c.args.role c.args.key.now c.args.at c.args.now)
    (λ s h is. subst (λ (x : ℤ). IsBegin s h c.args.pass c.args.role c.args.key.now c.args.at x) (to_z-of_z w64 c.args.now (search rules)) ((c.in_ok-may_begin.ensures.means s h is).0 c.if-not-branch.false))
    (λ s h is.
    let began = (c.in_ok-may_begin.ensures.means s h is).0 c.if-not-branch.false in
    let present = sym (to_z-of_z w64 c.args.now (search rules)) ∙ began.present ∙ sym is.moment in
    c.in_ok-begin.ensures.follows s h c.args.pass c.args.at c.args.now (began.numbered ∙ ap (λ n. n + 1) (sym is.begun)) present is)
