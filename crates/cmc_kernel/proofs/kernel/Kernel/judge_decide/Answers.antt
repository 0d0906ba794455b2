use Rattle.std.proofs.Common.{◌≡◌, ◌∙◌, ap, sym, subst, IfOk}
use Rattle.std.specs.Option.{option_copied}
use Rattle.cmc_rules.specs.Origins.{origin_at}
use Rattle.cmc_moves.specs.PassActions.{IsTaken, IsTaking}
use Rattle.cmc_moves.specs.Answers.{outdated}
use Rattle.cmc_kernel.specs.Kept.{Seen, setting_of, on}
use Rattle.cmc_moves.proofs.Decisions.{present_taken}
use Rattle.cmc_kernel.proofs.kernel.Kernel.judge_decide.Goals as goal

pub returns-in-Some-get : goal.returns-in-Some-get
returns-in-Some-get c =
    let s = setting_of c.self.inside.scenario in
    let h = c.self.inside.history.entries in
    let held = c.self.invariant.held in
    let late = subst (λ (v : Seen). c.outdated_origin.result ≡ on outdated v c.args.named c.get.result) (sym c.self.view_is) c.outdated_origin.ensures in
    let present = ap (outdated s h c.args.named) (ap (origin_at c.args.pass) (sym held.origins) ∙ sym c.get.ensures) ∙ sym late ∙ c.in_default.is in
    subst (λ (v : Seen). IfOk c.judge_decided.result (λ j. on IsTaken v c.args.pass c.args.named c.args.decided.now j)) c.self.view_is
    (present_taken s h c.args.pass c.args.named c.in-Some-get.open.now c.args.decided.now c.judge_decided.result present (sym (held.opened c.args.pass) ∙ sym c.get-2.ensures ∙ ap option_copied c.in-Some-get.is)
    (subst (λ (v : Seen). IfOk c.judge_decided.result (λ j. on IsTaking v c.args.pass c.args.decided.now j)) (sym c.self.view_is) c.judge_decided.ensures))
