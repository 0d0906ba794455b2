-- What the next step of the script has happen, and that a world stays what its history says as the step is made.
use Rattle.std.proofs.Common.{◌≡◌, ℕ, ℤ, ◌+◌, ◌-◌, ◌<◌, ◌≤◌, ◌^◌, List, ◌∷◌, length, Option, Some, None, refl, sym, ap, subst, ◌∙◌, arith}
use Rattle.std.specs.Prelude.{option_and_then, slice_get, if◌then◌else◌}
use Rattle.std.proofs.lemmas.Option.{slice_get-get_or}
use Rattle.cmc_meta.specs.declared.key.Key.{Key}
use Rattle.cmc_objects.specs.declared.role.Role.{Role}
use Rattle.cmc_objects.specs.declared.call.Call.{Call}
use Rattle.cmc_objects.specs.declared.object.Object.{Object}
use Rattle.cmc_objects.specs.declared.call.Reply.{Reply}
use Rattle.cmc_objects.specs.declared.entry.Step.{Step}
use Rattle.cmc_objects.specs.declared.entry.Step.TheVariants as steps
use Rattle.cmc_objects.specs.declared.entry.Who.TheVariants.{User}
use Rattle.cmc_objects.specs.declared.entry.Entry.{Entry}
use Rattle.cmc_objects.specs.declared.entry.Positions.{Positions}
use Rattle.cmc_objects.specs.declared.entry.Entry.TheVariants.{Script, Call as Called, Stop, Start, Tick}
use Rattle.cmc_rules.specs.declared.effect.Effect.{Effect}
use Rattle.cmc_rules.specs.declared.effect.Effect.TheVariants as effects
use Rattle.cmc_model.specs.declared.write.Write.{Write}
use Rattle.cmc_rules.specs.declared.progress.OpenPass.{OpenPass}
use Rattle.cmc_rules.specs.declared.progress.Past.{Past}
use Rattle.cmc_model.specs.Replies.{State, IsReply, is_accepted, key_written, object_written, settled, state_after}
use Rattle.cmc_model.specs.Histories.{Setting, moment, state, objects, accepted, role_eq}
use Rattle.cmc_model.specs.Writes.{write_of}
use Rattle.cmc_rules.specs.Passes.{unless_of}
use Rattle.cmc_rules.specs.Memory.{no_past}
use Rattle.cmc_rules.specs.Scripts.{scripted, step_at}
use Rattle.cmc_rules.specs.UserSteps.{call_of, call_or, effect_of, owed, IsNextStep}
use Rattle.cmc_model.proofs.Writes.{writes_count}
use Rattle.cmc_rules.proofs.Positions.{calls_short}
use Rattle.cmc_setup.specs.Setups.{Setup, IsSetup}
use Rattle.cmc_store.specs.Kept.{Kept}
use Rattle.cmc_held.specs.declared.role_states.RoleState.{RoleState}
use Rattle.cmc_moves.specs.declared.moves.Stepped.TheVariants.{Done}
use Rattle.cmc_moves.specs.Answers.{AnswersScript, entries_of, next_effect}
use Rattle.cmc_held.specs.Dues.{shown_positions}
use Rattle.cmc_kernel.specs.Changes.{each_at, stopping, starting, scripted_standing}
use Rattle.cmc_kernel.specs.Kept.{setting_of, Holdings, IsHoldingsOf, IsKept}
use Rattle.cmc_kernel.specs.Notes.{logged}
use Rattle.cmc_kernel.specs.Scripted.{effect_in, role_state_after}
use Rattle.cmc_kernel.proofs.Counts.{incarnation_short, logged_called}
use Rattle.cmc_kernel.proofs.Events.{held_scripted, kept_users, kept_ticked, kept_stopped, kept_started}
use Rattle.cmc_moves.proofs.Tables.{MayStep, may_step}

-- ---- what a scenario's type keeps

-- one more call can be counted
pub calls_fit : (u : Setup) (h : List Entry) (w : Holdings) → IsSetup u → IsKept (setting_of u) h w → w.state.calls < 2 ^ 64 - 1
calls_fit u h w setup k = omega (arith, ap (λ (st : State). st.calls) k.held.state, calls_short (setting_of u) h, k.held.run.short, setup.most_events)

-- a role can begin once more
pub incarnation_fits : (u : Setup) (h : List Entry) (w : Holdings) (role : Role) → IsSetup u → IsKept (setting_of u) h w → (w.role_state role).incarnation < 2 ^ 64 - 1
incarnation_fits u h w role setup k =
    omega (arith, ap (λ (t : RoleState). t.incarnation) (k.held.role_state role), incarnation_short (setting_of u) h role, k.held.run.short, setup.most_events)

-- ---- what the next step has happen

-- what a world's parts say that the next step has happen is what the history says
pub effect_kept : (s : Setting) (h : List Entry) (w : Holdings) (script : List Step) → IsKept s h w → script ≡ s.script
    → effect_in w.state.objects w.state.accepted w.moment script w.made ≡ next_effect s h
effect_kept s h w script k same =
    let place : scripted h ≡ scripted h + 1 - 1 = omega arith in
    ap (λ (st : State). effect_in st.objects st.accepted w.moment script w.made) k.held.state
    ∙ ap (λ m. effect_in (objects s h) (accepted s h) m script w.made) k.held.moment
    ∙ ap (λ l. effect_in (objects s h) (accepted s h) (moment s h) l w.made) same
    ∙ ap (λ n. effect_in (objects s h) (accepted s h) (moment s h) s.script n) (k.held.made ∙ place)

-- ---- the step's entry

-- the step that comes next
pub record IsNext (s : Setting) (h : List Entry) (effect : Option Effect) (step : Step) : Type 0 where
  pub is : step_at s.script (scripted h + 1) ≡ Some step
  pub has : effect_of s h step ≡ effect

next_is : (s : Setting) (h : List Entry) (o : Option Step) (effect : Option Effect) → step_at s.script (scripted h + 1) ≡ o → scripted h < length s.script → option_and_then (effect_of s h) o ≡ effect
    → (step : Step) × IsNext s h effect step
next_is s h None effect is left e =
    let stands = slice_get-get_or s.script (scripted h + 1 - 1) steps.Settle (omega (arith, left)) in
    absurd (cc (is, stands))
next_is s h (Some step) effect is left e = (step, record { is = is; has = e })

next_step : (s : Setting) (h : List Entry) → owed s h ≡ None → MayStep s h → IsNextStep s h (scripted h + 1)
next_step s h settled may = record { settled = settled; numbered = refl; stands = omega (arith, may.left); ready = may.ready }

-- a step that has something happen holds nothing back
unheld : (s : Setting) (h : List Entry) (step : Step) (effect : Effect) (r : Role) (t : RoleState) → effect_of s h step ≡ Some effect → t ≡ scripted_standing step r t
unfolding call_of
unheld s h (steps.Hold role kind) effect r t has = absurd (cc has)
unheld s h (steps.Release role kind) effect r t has = absurd (cc has)
unheld s h other effect r t has = refl

-- the entry of a step that has something happen
step_made : (s : Setting) (h : List Entry) (w : Holdings) (made : ℕ) (effect : Effect)
    → IsKept s h w → AnswersScript s h Done → next_effect s h ≡ Some effect → made ≡ w.made + 1
    → IsHoldingsOf s (Script (scripted h + 1) ∷ h) (record w { made = made }) × (length h + 1 < s.events)
step_made s h w made effect k may due counted =
    let can = may_step s h may in
    let room : length h + 2 ≤ s.events = subst (λ (o : Option Effect). length h + entries_of o ≤ s.events) due can.room in
    let next = next_is s h (step_at s.script (scripted h + 1)) (Some effect) refl can.left due in
    (held_scripted s h w next.0 made w.role_state k (next_step s h k.settled can) next.1.is (omega (arith, room)) counted (λ r. unheld s h next.0 effect r (w.role_state r) next.1.has), omega (arith, room))

-- the step's entry has the next number
numbered : (s : Setting) (h k : List Entry) (w : Holdings) (made : ℕ) (e : Entry) → IsHoldingsOf s h w → made ≡ w.made + 1 → k ≡ e ∷ Script made ∷ h → k ≡ e ∷ Script (scripted h + 1) ∷ h
numbered s h k w made e held counted grown = grown ∙ ap (λ n. e ∷ Script n ∷ h) (counted ∙ ap (λ n. n + 1) held.made)

-- ---- the world after each kind of step

-- a step that has nothing happen
pub quiet_kept : (s : Setting) (h k : List Entry) (w : Holdings) (made : ℕ) (script : List Step) (t : Role → RoleState)
    → IsKept s h w → AnswersScript s h Done → next_effect s h ≡ None → made ≡ w.made + 1
    → script ≡ s.script → ((r : Role) → t r ≡ role_state_after (slice_get script w.made) r (w.role_state r))
    → k ≡ Script made ∷ h → IsKept s k (record w { made = made; role_state = t })
quiet_kept s h k w made script t kept may due counted same put grown =
    let can = may_step s h may in
    let room : length h + 1 ≤ s.events = subst (λ (o : Option Effect). length h + entries_of o ≤ s.events) due can.room in
    let next = next_is s h (step_at s.script (scripted h + 1)) None refl can.left due in
    let place : scripted h ≡ scripted h + 1 - 1 = omega arith in
    let found : slice_get script w.made ≡ Some next.0 = ap (λ l. slice_get l w.made) same ∙ ap (λ n. slice_get s.script n) (kept.held.made ∙ place) ∙ next.1.is in
    let held = held_scripted s h w next.0 made t kept (next_step s h kept.settled can) next.1.is (omega (arith, room)) counted (λ r. put r ∙ ap (λ o. role_state_after o r (w.role_state r)) found) in
    let new : IsKept s (Script (scripted h + 1) ∷ h) (record w { made = made; role_state = t }) = record { held = held; settled = due } in
    subst (λ l. IsKept s l (record w { made = made; role_state = t })) (sym (grown ∙ ap (λ n. Script n ∷ h) (counted ∙ ap (λ n. n + 1) kept.held.made))) new

-- a tick
pub tick_kept : (s : Setting) (h k : List Entry) (w : Holdings) (made : ℕ) (at : ℤ)
    → IsKept s h w → AnswersScript s h Done → next_effect s h ≡ Some (effects.Tick at) → made ≡ w.made + 1
    → k ≡ Tick at ∷ Script made ∷ h → IsKept s k (record w { made = made; moment = at })
tick_kept s h k w made at kept may due counted grown =
    let stepped = step_made s h w made (effects.Tick at) kept may due counted in
    subst (λ l. IsKept s l (record w { made = made; moment = at })) (sym (numbered s h k w made (Tick at) kept.held counted grown))
    (kept_ticked s (Script (scripted h + 1) ∷ h) (record w { made = made }) at stepped.0 due (omega (arith, stepped.1)))

-- a stop
pub stop_kept : (s : Setting) (h k : List Entry) (w : Holdings) (made : ℕ) (role : Role) (t : Role → RoleState) (opened : ℕ → Option OpenPass)
    → IsKept s h w → AnswersScript s h Done → next_effect s h ≡ Some (effects.Stop role) → made ≡ w.made + 1
    → ((r : Role) → t r ≡ (if role_eq role r then stopping (w.role_state role) else w.role_state r))
    → ((n : ℕ) → opened n ≡ unless_of role (w.opened n))
    → k ≡ Stop role ∷ Script made ∷ h → IsKept s k (record w { made = made; role_state = t; opened = opened })
stop_kept s h k w made role t opened kept may due counted put closed grown =
    let stepped = step_made s h w made (effects.Stop role) kept may due counted in
    subst (λ l. IsKept s l (record w { made = made; role_state = t; opened = opened })) (sym (numbered s h k w made (Stop role) kept.held counted grown))
    (kept_stopped s (Script (scripted h + 1) ∷ h) (record w { made = made }) role t opened stepped.0 due (omega (arith, stepped.1)) put closed)

-- a call is no start
no_start : (call : Option Call) (role : Role) (at : ℕ) → call_or call None ≡ Some (effects.Start role at) → ⊥
no_start None role at is = cc is
no_start (Some call) role at is = cc is

-- a start tells of no more than was written
pub low_start : (s : Setting) (h : List Entry) (step : Step) (role : Role) (at : ℕ) → effect_of s h step ≡ Some (effects.Start role at) → at ≤ accepted s h
unfolding call_of
low_start s h (steps.Start other behind) role at has = let is : accepted s h - behind ≡ at = cc has in omega (arith, is)
low_start s h (steps.Apply object version) role at has = absurd (cc has)
low_start s h (steps.Delete key version) role at has = absurd (cc has)
low_start s h (steps.Tick seconds) role at has = absurd (cc has)
low_start s h (steps.Stop other) role at has = absurd (cc has)
low_start s h (steps.Hold other kind) role at has = absurd (cc has)
low_start s h (steps.Release other kind) role at has = absurd (cc has)
low_start s h (steps.Until other kind writes) role at has = absurd (cc has)
low_start s h steps.Settle role at has = absurd (cc has)
low_start s h other role at has = absurd (no_start (call_of (moment s h) (objects s h) other) role at has)

-- what a start tells of was written
pub start_low : (s : Setting) (h : List Entry) (w : Holdings) (role : Role) (at : ℕ) → IsKept s h w → AnswersScript s h Done → next_effect s h ≡ Some (effects.Start role at) → at ≤ length w.log
start_low s h w role at kept may due =
    let next = next_is s h (step_at s.script (scripted h + 1)) (Some (effects.Start role at)) refl (may_step s h may).left due in
    let low : at ≤ accepted s h = low_start s h next.0 role at next.1.has in
    let count : length w.log ≡ accepted s h = ap length kept.held.log ∙ writes_count s h in
    omega (arith, low, count)

-- a start
pub start_kept : (s : Setting) (h k : List Entry) (w : Holdings) (made : ℕ) (role : Role) (at : ℕ) (t : Role → RoleState) (c : Role → Positions) (pasts : Role → Key → Past)
    → IsKept s h w → AnswersScript s h Done → next_effect s h ≡ Some (effects.Start role at) → made ≡ w.made + 1
    → ((r : Role) → t r ≡ (if role_eq role r then starting at (w.role_state role) else w.role_state r))
    → ((r : Role) → c r ≡ (if role_eq role r then shown_positions role (each_at at) else w.told r))
    → ((r : Role) (key : Key) → pasts r key ≡ (if role_eq role r then no_past else w.past r key))
    → k ≡ Start role at ∷ Script made ∷ h → IsKept s k (record w { made = made; role_state = t; told = c; past = pasts })
start_kept s h k w made role at t c pasts kept may due counted put told forgot grown =
    let stepped = step_made s h w made (effects.Start role at) kept may due counted in
    let next = next_is s h (step_at s.script (scripted h + 1)) (Some (effects.Start role at)) refl (may_step s h may).left due in
    subst (λ l. IsKept s l (record w { made = made; role_state = t; told = c; past = pasts })) (sym (numbered s h k w made (Start role at) kept.held counted grown))
    (kept_started s (Script (scripted h + 1) ∷ h) (record w { made = made }) role at t c pasts stepped.0 due (low_start s h next.0 role at next.1.has) (omega (arith, stepped.1)) put told forgot)

logged_kept : (s : Setting) (h : List Entry) (w : Holdings) (call : Call) (reply : Reply) (now : ℤ) (log grown : List Write) (key : Option Key) (object : Option Object)
    → IsHoldingsOf s h w → now ≡ w.moment → log ≡ w.log → key ≡ key_written call reply → object ≡ object_written now w.state call reply → grown ≡ logged key object log
    → grown ≡ (if is_accepted reply then write_of (moment s h) (state s h) (settled call reply) ∷ w.log else w.log)
logged_kept s h w call reply now log grown key object held same_now same_log told stored put =
    put ∙ ap (λ q. logged q object log) told ∙ ap (λ o. logged (key_written call reply) o log) stored
    ∙ logged_called now w.state call reply log
    ∙ ap (λ m. if is_accepted reply then write_of m w.state (settled call reply) ∷ log else log) (same_now ∙ held.moment)
    ∙ ap (λ st. if is_accepted reply then write_of (moment s h) st (settled call reply) ∷ log else log) held.state
    ∙ ap (λ (l : List Write). if is_accepted reply then write_of (moment s h) (state s h) (settled call reply) ∷ l else l) same_log

-- a call of a user, that the store answered and the log took
pub call_kept : (s : Setting) (h k : List Entry) (w : Holdings) (made : ℕ) (call : Call) (reply : Reply) (now : ℤ) (store : Kept) (log grown : List Write) (key : Option Key) (object : Option Object)
    → IsKept s h w → AnswersScript s h Done → next_effect s h ≡ Some (effects.Call call) → made ≡ w.made + 1
    → now ≡ w.moment → log ≡ w.log
    → IsReply w.faults w.state call reply → store ≡ record { faults = w.faults; state = state_after now w.state call reply }
    → key ≡ key_written call reply → object ≡ object_written now w.state call reply → grown ≡ logged key object log
    → k ≡ Called User call reply ∷ Script made ∷ h → IsKept s k (record w { made = made; faults = store.faults; state = store.state; log = grown })
call_kept s h k w made call reply now store log grown key object kept may due counted same_now same_log right after told stored put longer =
    let stepped = step_made s h w made (effects.Call call) kept may due counted in
    let here : IsReply s.faults (state s h) call reply = subst (λ f. IsReply f (state s h) call reply) kept.held.faults (subst (λ st. IsReply w.faults st call reply) kept.held.state right) in
    let served : store.state ≡ state_after (moment s h) (state s h) call reply =
    ap (λ (x : Kept). x.state) after
    ∙ ap (λ m. state_after m w.state call reply) (same_now ∙ kept.held.moment)
    ∙ ap (λ st. state_after (moment s h) st call reply) kept.held.state in
    let all = kept_users s (Script (scripted h + 1) ∷ h) (record w { made = made }) call reply store.state grown stepped.0 due here (omega (arith, stepped.1)) served (logged_kept s h w call reply now log grown key object kept.held same_now same_log told stored put) in
    subst (λ l. IsKept s l (record w { made = made; faults = store.faults; state = store.state; log = grown })) (sym (numbered s h k w made (Called User call reply) kept.held counted longer))
    (subst (λ f. IsKept s (Called User call reply ∷ Script (scripted h + 1) ∷ h) (record w { made = made; faults = f; state = store.state; log = grown })) (sym (ap (λ (x : Kept). x.faults) after)) all)
