use Rattle.std.proofs.Common.{◌≡◌, ℤ, ◌+◌, List, ◌∷◌, Some, ap, refl, rules, subst, sym, to_z, of_z, w64, ◌∙◌}
use Rattle.std.proofs.lemmas.Int.{to_z-of_z}
use Rattle.cmc_objects.specs.declared.entry.Entry.{Entry}
use Rattle.cmc_objects.specs.declared.entry.Entry.TheVariants as entries
use Rattle.cmc_rules.specs.declared.effect.Effect.TheVariants as effects
use Rattle.cmc_moves.specs.declared.moves.Stepped.TheVariants as answers
use Rattle.cmc_moves.specs.Answers as spec
use Rattle.cmc_kernel.specs.Kept.{Seen, setting_of, on}
use Rattle.cmc_kernel.proofs.Stepping.{tick_kept}
use Rattle.cmc_kernel.proofs.kernel.Kernel.make_tick.Goals as goal

pub invariant_of-self-2 : goal.invariant_of-self-2
invariant_of-self-2 c =
    let u = c.self.inside.scenario in
    let h = c.self.inside.history.entries in
    let made = c.self.inside.made + 1 in
    let at = to_z w64 (of_z w64 c.args.now) in
    let back = to_z-of_z w64 c.args.now (search rules) in
    let may = subst (λ (v : Seen). on spec.AnswersScript v answers.Done) (sym c.self.view_is) c.requires.may in
    let due = subst (λ (v : Seen). on spec.next_effect v ≡ Some (effects.Tick c.args.now)) (sym c.self.view_is) c.requires.effect in
    tick_kept (setting_of u) h c.push-2.new.self.entries _ made at c.self.invariant may (due ∙ ap (λ (n : ℤ). Some (effects.Tick n)) (sym back)) refl
    (c.push-2.ensures.entries ∙ ap (λ (l : List Entry). entries.Tick at ∷ l) (c.push.ensures.entries ∙ ap (λ (l : List Entry). entries.Script made ∷ l) c.reserve.ensures.same))
