use Rattle.std.proofs.Common.{◌≡◌, ℤ, ap, subst, rules, w64, ◌∙◌}
use Rattle.std.proofs.lemmas.Int.{to_z-of_z}
use Rattle.std.specs.Prelude.{codes, IfOk}
use Rattle.cmc_meta.specs.declared.conditions.Condition.{Condition}
use Rattle.cmc_meta.specs.declared.conditions.ConditionKind.TheVariants.{Denied}
use Rattle.cmc_rules.specs.UserWrites as spec
use Rattle.cmc_moves.proofs.user_writes.deny_call.Goals as goal

pub returns : goal.returns
returns c =
    subst (λ (x : Condition). IfOk c.judge_call.result (λ y. y ≡ spec.judge_call x c.args.request.now))
    (c.in_ok-condition.ensures ∙ ap (λ (m : ℤ). spec.verdict Denied (codes "denied by the script") m) (to_z-of_z w64 c.args.moment (search rules))) c.judge_call.ensures
