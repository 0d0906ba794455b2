use Rattle.std.proofs.Common.{◌≡◌, ◌+◌, List, ◌∷◌, Some, ap, length, refl, subst, sym, ◌∙◌}
use Rattle.cmc_objects.specs.declared.entry.Entry.{Entry}
use Rattle.cmc_objects.specs.declared.entry.Entry.TheVariants as entries
use Rattle.cmc_objects.specs.declared.entry.Positions.{Positions}
use Rattle.cmc_rules.specs.declared.effect.Effect.TheVariants as effects
use Rattle.cmc_setup.specs.Setups.{IsSetup}
use Rattle.cmc_held.specs.Remembered.{past_at}
use Rattle.cmc_held.specs.RoleStates.{role_state_of}
use Rattle.cmc_moves.specs.declared.moves.Stepped.TheVariants as answers
use Rattle.cmc_moves.specs.Answers as spec
use Rattle.cmc_kernel.specs.Kept.{Seen, setting_of, on}
use Rattle.std.specs.Prelude.{if◌then◌else◌}
use Rattle.cmc_model.specs.Histories.{role_eq}
use Rattle.cmc_caches.specs.Posted.{told_of}
use Rattle.cmc_held.specs.Dues.{shown_positions}
use Rattle.cmc_kernel.proofs.RolePositions.{shown_low}
use Rattle.cmc_kernel.proofs.Stepping.{incarnation_fits, start_kept, start_low}
use Rattle.cmc_kernel.proofs.kernel.Kernel.make_start.Goals as goal

pub note_start-requires : goal.note_start-requires
note_start-requires c =
    let setup = subst (λ (v : Seen). IsSetup v.scenario) (sym c.self.view_is) c.requires.setup in
    incarnation_fits c.self.inside.scenario c.self.inside.history.entries _ c.args.role setup c.self.invariant

pub start-requires-clause-certificates : goal.start-requires-clause-certificates
start-requires-clause-certificates c =
    let may = subst (λ (v : Seen). on spec.AnswersScript v answers.Done) (sym c.self.view_is) c.requires.may in
    let due = subst (λ (v : Seen). on spec.next_effect v ≡ Some (effects.Start c.args.role c.args.at)) (sym c.self.view_is) c.requires.effect in
    (shown_low c.args.role c.args.at (length c.self.inside.caches.writes) c.all_at.result c.shown_positions-told.result c.shown_positions-told.ensures c.all_at.ensures (start_low _ _ _ c.args.role c.args.at c.self.invariant may due)).0

pub start-requires-clause-requests : goal.start-requires-clause-requests
start-requires-clause-requests c =
    let may = subst (λ (v : Seen). on spec.AnswersScript v answers.Done) (sym c.self.view_is) c.requires.may in
    let due = subst (λ (v : Seen). on spec.next_effect v ≡ Some (effects.Start c.args.role c.args.at)) (sym c.self.view_is) c.requires.effect in
    (shown_low c.args.role c.args.at (length c.self.inside.caches.writes) c.all_at.result c.shown_positions-told.result c.shown_positions-told.ensures c.all_at.ensures (start_low _ _ _ c.args.role c.args.at c.self.invariant may due)).1

pub start-requires-clause-secrets : goal.start-requires-clause-secrets
start-requires-clause-secrets c =
    let may = subst (λ (v : Seen). on spec.AnswersScript v answers.Done) (sym c.self.view_is) c.requires.may in
    let due = subst (λ (v : Seen). on spec.next_effect v ≡ Some (effects.Start c.args.role c.args.at)) (sym c.self.view_is) c.requires.effect in
    (shown_low c.args.role c.args.at (length c.self.inside.caches.writes) c.all_at.result c.shown_positions-told.result c.shown_positions-told.ensures c.all_at.ensures (start_low _ _ _ c.args.role c.args.at c.self.invariant may due)).2

pub invariant_of-self-2 : goal.invariant_of-self-2
invariant_of-self-2 c =
    let u = c.self.inside.scenario in
    let h = c.self.inside.history.entries in
    let made = c.self.inside.made + 1 in
    let may = subst (λ (v : Seen). on spec.AnswersScript v answers.Done) (sym c.self.view_is) c.requires.may in
    let due = subst (λ (v : Seen). on spec.next_effect v ≡ Some (effects.Start c.args.role c.args.at)) (sym c.self.view_is) c.requires.effect in
    rw (c.in_ok-start.ensures.writes)
    (start_kept (setting_of u) h c.push-2.new.self.entries _ made c.args.role c.args.at (λ r. role_state_of c.note_start.new.role_states r) (λ r. told_of c.start.new.self.told r) (λ r key. past_at c.start-2.new.self r key) c.self.invariant may due refl
    c.note_start.ensures
    (λ r. c.in_ok-start.ensures.ok r ∙ ap (λ (p : Positions). if role_eq c.args.role r then p else told_of c.self.inside.caches.told r) (c.shown_positions-told.ensures ∙ ap (shown_positions c.args.role) c.all_at.ensures))
    c.start-2.ensures.past
    (c.push-2.ensures.entries ∙ ap (λ (l : List Entry). entries.Start c.args.role c.args.at ∷ l) (c.push.ensures.entries ∙ ap (λ (l : List Entry). entries.Script made ∷ l) c.reserve.ensures.same)))
