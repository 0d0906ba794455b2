use Rattle.std.proofs.Common.{◌≡◌, ℤ, List, Option, ap, rules, subst, sym, w64, ◌∙◌}
use Rattle.std.specs.List.{All, list_all}
use Rattle.std.specs.Prelude.{IfOk, true}
use Rattle.std.proofs.lemmas.Int.{to_z-of_z}
use Rattle.cmc_objects.specs.declared.entry.Step.{Step}
use Rattle.cmc_objects.specs.Requests.{is_run_time}
use Rattle.cmc_rules.specs.declared.effect.Effect.{Effect}
use Rattle.cmc_setup.specs.Forms.{is_step_form}
use Rattle.cmc_setup.specs.Setups.{IsSetup, IsTickForm}
use Rattle.cmc_moves.specs.Answers as spec
use Rattle.cmc_kernel.specs.Kept.{Seen, setting_of, on}
use Rattle.cmc_kernel.specs.Scripted.{effect_in}
use Rattle.cmc_safety.proofs.Moments.{moment_in_run}
use Rattle.cmc_kernel.proofs.Stepping.{effect_kept}
use Rattle.cmc_kernel.proofs.kernel.Kernel.next_effect.Goals as goal

pub effect_in-requires-clause-moment : goal.effect_in-requires-clause-moment
effect_in-requires-clause-moment c =
    let run = moment_in_run (setting_of c.self.inside.scenario) c.self.inside.history.entries c.self.invariant.held.formed c.self.invariant.held.run.follows in
    let same = to_z-of_z w64 c.self.inside.moment (search rules) in
    subst (λ (m : ℤ). is_run_time m ≡ true) (sym (same ∙ c.self.invariant.held.moment)) run

pub effect_in-requires-clause-forms : goal.effect_in-requires-clause-forms
effect_in-requires-clause-forms c = ap (list_all is_step_form) c.script_of.ensures.value ∙ c.script_of.ensures.setup.steps

pub effect_in-requires-clause-ticks : goal.effect_in-requires-clause-ticks
effect_in-requires-clause-ticks c = subst (λ (l : List Step). All IsTickForm l) (sym c.script_of.ensures.value) c.script_of.ensures.setup.ticks

pub returns-clause-effect : goal.returns-clause-effect
returns-clause-effect c =
    let u = c.self.inside.scenario in
    let h = c.self.inside.history.entries in
    let state = c.self.inside.store.state in
    let same = to_z-of_z w64 c.self.inside.moment (search rules) in
    let kept = effect_kept (setting_of u) h _ c.script_of.result.now c.self.invariant c.script_of.ensures.value in
    let is = ap (λ (m : ℤ). effect_in state.objects state.accepted m c.script_of.result.now c.self.inside.made) same ∙ kept in
    subst (λ (v : Seen). IfOk c.effect_in.result (λ e. e ≡ on spec.next_effect v)) c.self.view_is
    (subst (λ (x : Option Effect). IfOk c.effect_in.result (λ e. e ≡ x)) is c.effect_in.ensures)

pub returns-clause-setup : goal.returns-clause-setup
returns-clause-setup c = subst (λ (v : Seen). IsSetup v.scenario) c.self.view_is c.script_of.ensures.setup
