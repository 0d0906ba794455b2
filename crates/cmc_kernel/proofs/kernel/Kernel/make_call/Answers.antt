use Rattle.std.proofs.Common.{◌≡◌, ◌+◌, List, ◌∷◌, Some, ap, refl, rules, subst, sym, to_z, of_z, w64, ◌∙◌}
use Rattle.std.proofs.lemmas.Int.{to_z-of_z}
use Rattle.cmc_objects.specs.declared.entry.Entry.{Entry}
use Rattle.cmc_objects.specs.declared.entry.Entry.TheVariants as entries
use Rattle.cmc_objects.specs.declared.entry.Who.TheVariants as who
use Rattle.cmc_rules.specs.declared.effect.Effect.TheVariants as effects
use Rattle.cmc_setup.specs.Setups.{IsSetup}
use Rattle.cmc_moves.specs.declared.moves.Stepped.TheVariants as answers
use Rattle.cmc_moves.specs.Answers as spec
use Rattle.cmc_kernel.specs.Kept.{Seen, setting_of, on}
use Rattle.cmc_kernel.proofs.Stepping.{call_kept, calls_fit}
use Rattle.cmc_kernel.proofs.kernel.Kernel.make_call.Goals as goal

pub call-requires : goal.call-requires
call-requires c =
    let setup = subst (λ (v : Seen). IsSetup v.scenario) (sym c.self.view_is) c.requires.setup in
    record { room = calls_fit c.self.inside.scenario c.self.inside.history.entries _ setup c.self.invariant }

pub invariant_of-self-2 : goal.invariant_of-self-2
invariant_of-self-2 c =
    let u = c.self.inside.scenario in
    let h = c.self.inside.history.entries in
    let made = c.self.inside.made + 1 in
    let reply = c.in_ok-reply.field-0.reply in
    let may = subst (λ (v : Seen). on spec.AnswersScript v answers.Done) (sym c.self.view_is) c.requires.may in
    let due = subst (λ (v : Seen). on spec.next_effect v ≡ Some (effects.Call c.args.call)) (sym c.self.view_is) c.requires.effect in
    rw (c.log_write.ensures.told, c.reserve-2.ensures.told)
    (call_kept (setting_of u) h c.push-2.new.self.entries _ made c.args.call reply (to_z w64 (of_z w64 c.self.inside.moment)) c.call.new.self c.reserve-2.new.self.writes c.log_write.new.caches.writes c.in_ok-reply.field-0.key c.in_ok-reply.field-0.object
    c.self.invariant may due refl (to_z-of_z w64 c.self.inside.moment (search rules)) c.reserve-2.ensures.writes
    c.in_ok-reply.ensures.reply c.in_ok-reply.ensures.after c.in_ok-reply.ensures.key c.in_ok-reply.ensures.object c.log_write.ensures.writes
    (c.push-2.ensures.entries ∙ ap (λ (l : List Entry). entries.Call who.User c.args.call reply ∷ l) (c.push.ensures.entries ∙ ap (λ (l : List Entry). entries.Script made ∷ l) c.reserve.ensures.same)))
