use Rattle.std.proofs.Common.{◌∙◌, ◌<◌, ◌≤◌, ◌+◌, ◌&&◌, ap, refl, sym, subst, length, arith, rules, w64, to_z, of_z, List, Option, ℕ}
use Rattle.std.proofs.lemmas.Int.{to_z-of_z}
use Rattle.cmc_meta.specs.declared.key.Kind.{Kind}
use Rattle.cmc_meta.specs.Keys.{key_eq}
use Rattle.cmc_objects.specs.declared.entry.Entry.{Entry}
use Rattle.cmc_store.specs.Kept.{Kept}
use Rattle.cmc_model.specs.declared.write.Write.{Write}
use Rattle.cmc_rules.specs.declared.progress.Past.{Past}
use Rattle.cmc_model.specs.Histories.{role_eq}
use Rattle.cmc_model.specs.Writes.{last_under}
use Rattle.cmc_rules.specs.Passes.{open_pass, stage_by}
use Rattle.cmc_rules.specs.Causes.{MayCall}
use Rattle.cmc_held.specs.Open.{pass_at}
use Rattle.cmc_held.specs.Remembered.{past_at}
use Rattle.cmc_held.specs.RoleStates.{role_state_of}
use Rattle.cmc_kernel.specs.Advances.{IsCalling}
use Rattle.cmc_kernel.specs.Kept.{Seen, on}
use Rattle.cmc_kernel.specs.Notes.{logged, own_write_counted, noted}
use Rattle.cmc_kernel.proofs.Calls.{kept_call, calls_fit, counts_fit, log_fits}
use Rattle.cmc_kernel.proofs.Spare.{kept_spare}
use Rattle.cmc_kernel.proofs.kernel.Kernel.call.Goals as goal

pub invariant_of-self : goal.invariant_of-self
invariant_of-self c = rw (c.reserve.ensures.same) c.self.invariant

pub invariant_of-self-in_err-reserve-2 : goal.invariant_of-self-in_err-reserve-2
invariant_of-self-in_err-reserve-2 c = rw (c.in_ok-reserve.ensures.same, c.in_err-reserve-2.ensures.writes, c.in_err-reserve-2.ensures.told) c.self.invariant

pub invariant_of-self-in_err-ready : goal.invariant_of-self-in_err-ready
invariant_of-self-in_err-ready c =
    rw (c.in_ok-reserve-2.ensures.writes, c.in_ok-reserve-2.ensures.told)
    (kept_spare _ _ c.reserve.new.self.entries _ c.self.inside.store.faults c.self.inside.store.state c.self.inside.origins.origins (λ n. pass_at c.self.inside.passes n) (λ r k. past_at c.ready.new.self r k)
    c.self.invariant c.in_ok-reserve.ensures.same refl refl refl (λ n. refl) (λ r k. c.in_err-ready.ensures.same r k))

pub invariant_of-self-in_err-replied : goal.invariant_of-self-in_err-replied
invariant_of-self-in_err-replied c =
    rw (c.in_ok-reserve-2.ensures.writes, c.in_ok-reserve-2.ensures.told)
    (kept_spare _ _ c.reserve.new.self.entries _ c.call.new.self.faults c.call.new.self.state c.self.inside.origins.origins (λ n. pass_at c.self.inside.passes n) (λ r k. past_at c.ready.new.self r k)
    c.self.invariant c.in_ok-reserve.ensures.same (ap (λ (k : Kept). k.faults) c.in_err-replied.ensures.err) (ap (λ (k : Kept). k.state) c.in_err-replied.ensures.err)
    refl (λ n. refl) (λ r k. c.in_ok-ready.ensures.same r k))

pub call-requires : goal.call-requires
call-requires c = record { room = calls_fit _ _ _ c.self.invariant (subst (λ (v : Seen). length v.history ≤ 250000) (sym c.self.view_is) c.is_short.ensures) }

pub overflow_add-entry : goal.overflow_add-entry
overflow_add-entry c =
    let short = subst (λ (v : Seen). length v.history ≤ 250000) (sym c.self.view_is) c.is_short.ensures in
    let same = c.len-entry.ensures ∙ ap (λ (l : List Entry). length l) c.in_ok-reserve.ensures.same in
    omega (arith, short, same)

pub overflow_add-version : goal.overflow_add-version
overflow_add-version c =
    let short = subst (λ (v : Seen). length v.history ≤ 250000) (sym c.self.view_is) c.is_short.ensures in
    let low = log_fits _ _ _ c.accepted-version.result c.self.invariant short (c.accepted-version.ensures ∙ ap (λ (l : List Write). length l) (c.log.ensures.writes ∙ c.in_ok-reserve-2.ensures.writes)) in
    omega (arith, low)

pub note_write-requires-clause-room : goal.note_write-requires-clause-room
note_write-requires-clause-room c = counts_fit _ _ _ c.in_ok-calling.calling.role c.self.invariant (subst (λ (v : Seen). length v.history ≤ 250000) (sym c.self.view_is) c.is_short.ensures)

pub invariant_of-self-2 : goal.invariant_of-self-2
invariant_of-self-2 c =
    rw (c.push.ensures.entries, c.in_ok-reserve.ensures.same, c.into_call.ensures, c.log_write.ensures.told, c.in_ok-reserve-2.ensures.told)
    (kept_call _ _ _ c.args.pass c.in_ok-calling.calling.call c.in_ok-calling.calling c.in_ok-replied.replied.reply c.in_ok-replied.replied.key c.in_ok-replied.replied.object c.stage_of-stage.result (to_z w64 (of_z w64 c.self.inside.moment)) (c.accepted-version.result + 1) (c.len-entry.result + 1)
    c.call.new.self.faults c.call.new.self.state c.log_write.new.caches.writes (λ r. role_state_of c.note_write.new.role_states r) (λ n. pass_at c.advance.new.self n) (λ r k. past_at c.note_write.new.memories r k)
    c.self.invariant
    (subst (λ (v : Seen). on IsCalling v c.args.pass c.in_ok-calling.calling.call c.in_ok-calling.calling) (sym c.self.view_is) c.in_ok-calling.ensures.calling)
    (subst (λ (v : Seen). on MayCall v (on open_pass v c.args.pass) c.in_ok-calling.calling.call) (sym c.self.view_is) (rw c.in_ok-calling.ensures.call c.requires.may))
    (subst (λ (v : Seen). length v.history < v.scenario.events) (sym c.self.view_is) c.requires.room)
    (to_z-of_z w64 c.self.inside.moment (search rules))
    c.in_ok-replied.ensures.reply
    (ap (λ (k : Kept). k.faults) c.in_ok-replied.ensures.after)
    (ap (λ (k : Kept). k.state) c.in_ok-replied.ensures.after)
    c.in_ok-replied.ensures.key
    c.in_ok-replied.ensures.object
    (ap (λ (n : ℕ). n + 1) (c.len-entry.ensures ∙ ap (λ (l : List Entry). length l) c.in_ok-reserve.ensures.same))
    (λ p is. c.stage_of-stage.ensures p is ∙ ap (λ (l : List Write). stage_by p.seen.certificate c.in_ok-calling.calling.stand_in p.stage (c.len-entry.result + 1) c.in_ok-calling.calling.named.kind (last_under c.in_ok-calling.calling.named l) c.in_ok-replied.replied.reply) c.in_ok-reserve-2.ensures.writes)
    (ap (λ (n : ℕ). n + 1) (c.accepted-version.ensures ∙ ap (λ (l : List Write). length l) (c.log.ensures.writes ∙ c.in_ok-reserve-2.ensures.writes)))
    (c.log_write.ensures.writes ∙ ap (λ (l : List Write). logged c.in_ok-replied.replied.key c.in_ok-replied.replied.object l) c.in_ok-reserve-2.ensures.writes)
    (λ r. c.note_write.ensures.counted r ∙ ap (λ (x : Option Kind). own_write_counted x (role_eq c.in_ok-calling.calling.role r) (role_state_of c.self.inside.role_states c.in_ok-calling.calling.role) (role_state_of c.self.inside.role_states r)) c.kind_written-written.ensures)
    c.advance.ensures
    (λ r k. c.note_write.ensures.noted r k ∙ ap (λ (p : Past). noted c.kind_written-written.result (c.accepted-version.result + 1) (role_eq c.in_ok-calling.calling.role r && key_eq c.in_ok-calling.calling.key k) p) (c.in_ok-ready.ensures.same r k) ∙ ap (λ (x : Option Kind). noted x (c.accepted-version.result + 1) (role_eq c.in_ok-calling.calling.role r && key_eq c.in_ok-calling.calling.key k) (past_at c.self.inside.memories r k)) c.kind_written-written.ensures))
