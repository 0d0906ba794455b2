use Rattle.std.proofs.Common.{◌≡◌, ◌∙◌, ◌<◌, ap, sym, subst, length, Some}
use Rattle.std.specs.Prelude.{◌==◌, if◌then◌else◌, option_map}
use Rattle.cmc_objects.specs.declared.orders.Order.{Order}
use Rattle.cmc_pass.specs.GivenValues.{order_of, value_of}
use Rattle.cmc_pass.specs.declared.value.Value.{Value}
use Rattle.cmc_rules.specs.declared.progress.Stage.TheVariants.{Given}
use Rattle.cmc_rules.specs.Passes.{open_pass, with_stage}
use Rattle.cmc_held.specs.Open.{pass_at}
use Rattle.cmc_moves.specs.Answers.{kept_of}
use Rattle.cmc_kernel.specs.Kept.{Seen, on}
use Rattle.cmc_kernel.proofs.Asking.{kept_given, staged_given}
use Rattle.cmc_kernel.proofs.Leading.{given_may}
use Rattle.cmc_kernel.proofs.kernel.Kernel.take.Goals as goal

pub invariant_of-self-2 : goal.invariant_of-self-2
invariant_of-self-2 c =
    let kept = subst (λ (v : Seen). kept_of (on open_pass v c.args.pass) ≡ Some (order_of c.args.given)) (sym c.self.view_is) c.requires.kept in
    let may = given_may _ (order_of c.args.given) (value_of c.args.given) kept c.in_ok-taking.ensures.right in
    let order_is = c.into_parts-order.ensures.order ∙ c.in_ok-taking.ensures.order in
    let value_is = c.into_parts-order.ensures.value ∙ c.in_ok-taking.ensures.value in
    rw (c.push.ensures.entries, c.in_ok-reserve.ensures.same, c.into_parts-order.ensures.entry, c.in_ok-taking.ensures.entry)
    (kept_given _ _ _ c.args.pass (value_of c.args.given) (λ n. pass_at c.advance.new.self n) c.self.invariant may.0 may.1
    (subst (λ (v : Seen). length v.history < v.scenario.events) (sym c.self.view_is) c.requires.room)
    (staged_given _ _ _ c.args.pass (order_of c.args.given) (value_of c.args.given) (λ n. pass_at c.advance.new.self n) c.self.invariant kept
    (λ n.
    c.advance.ensures n
    ∙ ap (λ (o : Order). if n == c.args.pass then option_map (with_stage (Given o c.into_parts-order.result.1)) (pass_at c.self.inside.passes n) else pass_at c.self.inside.passes n) order_is
    ∙ ap (λ (v : Value). if n == c.args.pass then option_map (with_stage (Given (order_of c.args.given) v)) (pass_at c.self.inside.passes n) else pass_at c.self.inside.passes n) value_is)))
