use Rattle.std.proofs.Common.{◌≡◌, ◌+◌, List, ◌∷◌, Some, ap, refl, subst, sym, ◌∙◌}
use Rattle.cmc_objects.specs.declared.entry.Entry.{Entry}
use Rattle.cmc_objects.specs.declared.entry.Entry.TheVariants as entries
use Rattle.cmc_rules.specs.declared.effect.Effect.TheVariants as effects
use Rattle.cmc_held.specs.Open.{pass_at}
use Rattle.cmc_held.specs.RoleStates.{role_state_of}
use Rattle.cmc_moves.specs.declared.moves.Stepped.TheVariants as answers
use Rattle.cmc_moves.specs.Answers as spec
use Rattle.cmc_kernel.specs.Kept.{Seen, setting_of, on}
use Rattle.cmc_kernel.proofs.Stepping.{stop_kept}
use Rattle.cmc_kernel.proofs.kernel.Kernel.make_stop.Goals as goal

pub invariant_of-self-2 : goal.invariant_of-self-2
invariant_of-self-2 c =
    let u = c.self.inside.scenario in
    let h = c.self.inside.history.entries in
    let made = c.self.inside.made + 1 in
    let may = subst (λ (v : Seen). on spec.AnswersScript v answers.Done) (sym c.self.view_is) c.requires.may in
    let due = subst (λ (v : Seen). on spec.next_effect v ≡ Some (effects.Stop c.args.role)) (sym c.self.view_is) c.requires.effect in
    stop_kept (setting_of u) h c.push-2.new.self.entries _ made c.args.role (λ r. role_state_of c.note_stop.new.role_states r) (λ n. pass_at c.stop.new.self n) c.self.invariant may due refl
    c.note_stop.ensures c.stop.ensures
    (c.push-2.ensures.entries ∙ ap (λ (l : List Entry). entries.Stop c.args.role ∷ l) (c.push.ensures.entries ∙ ap (λ (l : List Entry). entries.Script made ∷ l) c.reserve.ensures.same))
