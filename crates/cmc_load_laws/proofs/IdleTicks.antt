-- In a plain run of a load time goes by only while no issuance under way has a request that is issued.
use Rattle.std.proofs.Common.{◌≡◌, ◌<◌, ◌+◌, ◌-◌, ℕ, List, [], ◌∷◌, zero, suc, length, Option, Some, None, Bool, true, false, refl, sym, ap, subst, ◌∙◌, inl, inr, arith}
use Rattle.std.specs.List.{slice_get}
use Rattle.std.specs.Prelude.{IfSome, nat_le, if◌then◌else◌}
use Rattle.cmc_meta.specs.declared.key.Kind.{Kind}
use Rattle.cmc_objects.specs.declared.request.CertificateRequest.{CertificateRequest}
use Rattle.cmc_objects.specs.declared.object.Object.TheVariants.{Cert, Request}
use Rattle.cmc_objects.specs.declared.call.Call.{Call}
use Rattle.cmc_objects.specs.declared.call.Reply.{Reply}
use Rattle.cmc_objects.specs.declared.entry.Entry.{Entry}
use Rattle.cmc_objects.specs.declared.entry.Entry.TheVariants as entries
use Rattle.cmc_objects.specs.declared.entry.Who.TheVariants.{User}
use Rattle.cmc_objects.specs.declared.entry.Step.{Step}
use Rattle.cmc_objects.specs.declared.entry.Step.TheVariants as steps
use Rattle.cmc_objects.specs.declared.role.Role.{Role}
use Rattle.cmc_pass.specs.declared.value.Value.{Value}
use Rattle.cmc_pass.specs.declared.value.Value.TheVariants as values
use Rattle.cmc_model.specs.Objects.{Objects}
use Rattle.cmc_model.specs.Replies.{is_accepted, key_of_call, put_at, settled, stored}
use Rattle.cmc_model.specs.Histories.{Setting, moment, state, objects, accepted, runs}
use Rattle.cmc_model.proofs.Accepting.{accepted_found}
use Rattle.cmc_rules.specs.declared.effect.Effect.{Effect}
use Rattle.cmc_rules.specs.declared.effect.Effect.TheVariants as effects
use Rattle.cmc_rules.specs.Legality.{IsLegal}
use Rattle.cmc_rules.specs.Positions.{position}
use Rattle.cmc_rules.specs.Rest.{IsAtRest}
use Rattle.cmc_rules.specs.Runs.{IsRun}
use Rattle.cmc_rules.specs.Scripts.{scripted, step_at}
use Rattle.cmc_rules.specs.UserSteps.{Follows, IsReady}
use Rattle.cmc_rules.proofs.Versions.{stands_is_version}
use Rattle.cmc_kernel.specs.Plain.{HasNoScript}
use Rattle.cmc_moves.specs.Answers.{GrowsBy, IsOfPass, next_effect, value_entry}
use Rattle.cmc_moves.specs.declared.moves.Move.{Move}
use Rattle.cmc_moves.specs.declared.moves.Move.TheVariants as moves
use Rattle.cmc_waits.proofs.EachNamed.{still}
use Rattle.cmc_world.specs.Histories.{IsOfCourse, IsPlain, IsPlainStep, LeadsPlainly}
use Rattle.cmc_world.proofs.Determined.{is_run}
use Rattle.cmc_safety.specs.Formed.{IsFormed}
use Rattle.cmc_safety.proofs.Course.{AreSound}
use Rattle.cmc_safety.proofs.InProgress.{IsPlayed, played_below}
use Rattle.cmc_load_laws.specs.Loads.{IsLoad}
use Rattle.cmc_load_laws.proofs.AnsweredVersions.{each_answered}
use Rattle.cmc_load_laws.proofs.AppliedOwners.{owner_stood}
use Rattle.cmc_load_laws.proofs.AppliedStores.{stores_certificate}
use Rattle.cmc_load_laws.proofs.FreshRequests.{HaveFresh, IsReadyFor, next_same}
use Rattle.cmc_load_laws.proofs.GoodVersions.{each_good}
use Rattle.cmc_load_laws.proofs.LoadHistories.{parted_at, played}
use Rattle.cmc_load_laws.proofs.LoadScripts.{IsLoadStep, apply_is_called, each_load_step}
use Rattle.cmc_load_laws.proofs.LoadVersions.{each_is_of}
use Rattle.cmc_load_laws.proofs.OwnedPairs.{over_put}
use Rattle.cmc_load_laws.proofs.PickedCounts.{over_call}
use Rattle.cmc_load_laws.proofs.RestingIssuing.{none_issued}
use Rattle.cmc_load_laws.proofs.RunningRoles.{none_stopped}
use Rattle.cmc_load_laws.proofs.SeenHistories.{plain_more}
use Rattle.cmc_load_laws.proofs.UsualVersions.{apply_settled, each_like_applied, usual_like}

abbrev pub HaveNoneIssued : Objects → Type 0
HaveNoneIssued m = HaveFresh (λ r. ⊥) m

-- at each tick it is so
abbrev pub HaveIdleTicks : Setting → List Entry → Type 0
HaveIdleTicks s [] = Unit {0}
HaveIdleTicks s (entries.Tick now ∷ h) = HaveNoneIssued (objects s h) × HaveIdleTicks s h
HaveIdleTicks s (e ∷ h) = HaveIdleTicks s h

-- ---- at rest

pub resting : AreSound → (s : Setting) (h : List Entry) → IsFormed s → IsLoad s → ((role : Role) → runs s [] role ≡ true) → IsRun s h → IsAtRest s h → HaveNoneIssued (objects s h)
resting sound s h formed load all run rest kc kq c r at there owned ready =
    let o = played s h run in
    let like = each_like_applied sound s h load.steps o in
    none_issued s h run.legal (still s h run rest (none_stopped s h load.steps run.follows all)) (λ key d stands. usual_like s d load (like key (Cert d) (stands_is_version s h key (Cert d) stands))) (each_good sound s h load o)
    (each_answered sound s h formed load run.short o) (parted_at sound s h load.free o) (each_is_of sound s h load.free o) kc kq c r at there owned ready

-- ---- over what a step brings about

pub over_user : (F : CertificateRequest → Type 0) → AreSound → (s : Setting) (h : List Entry) (call : Call) (reply : Reply) → IsLoad s → IsPlayed s (entries.Call User call reply ∷ h) → is_accepted reply ≡ true → HaveFresh F (objects s h)
    → HaveFresh F (put_at (objects s h) (key_of_call (settled call reply)) (stored (accepted s h + 1) (moment s h) (objects s h) (settled call reply)))
unfolding IsLegal Follows
over_user F sound s h call reply load o ok fresh =
    let below = played_below s (entries.Call User call reply) h o in
    let applies = apply_settled s call reply (apply_is_called s h call load.steps o.follows.0) in
    let d = stores_certificate s h (accepted s h + 1) (moment s h) (settled call reply) below.legal applies (accepted_found s.faults (state s h) call reply o.legal.0.0 ok) in
    over_put (λ c r. IsReadyFor c r → F r) (objects s h) (key_of_call (settled call reply)) (stored (accepted s h + 1) (moment s h) (objects s h) (settled call reply)) fresh
    (λ kq c r is there owned ready.
    let w = owner_stood sound s h call reply load o ok kq c r is there owned in
    fresh (key_of_call (settled call reply)) kq w.before r w.was there w.owned (record { issuing = sym w.issuing ∙ ready.issuing; next = sym (next_same c w.before r w.revision) ∙ ready.next; says = ready.says }))
    (λ kc c r at is owned ready. absurd (let e : Some (Cert d.0) ≡ Some (Request r) = sym d.1 ∙ is in cc e))

-- where none is so, and it was so at each tick, it is so afterwards
record StaysIdle (s : Setting) (k : List Entry) : Type 0 where
  none : HaveNoneIssued (objects s k)
  ticks : HaveIdleTicks s k

idle_on : (s : Setting) (g k : List Entry) → k ≡ g → StaysIdle s g → StaysIdle s k
idle_on s g k same idle = subst (StaysIdle s) (sym same) idle

after_call : AreSound → (s : Setting) (g : List Entry) (call : Call) (reply : Reply) → IsLoad s → IsPlayed s (entries.Call User call reply ∷ g) → StaysIdle s g → StaysIdle s (entries.Call User call reply ∷ g)
after_call sound s g call reply load o idle =
    record { none = over_call HaveNoneIssued s g User call reply idle.none (λ ok. over_user (λ r. ⊥) sound s g call reply load o ok idle.none); ticks = idle.ticks }

after_effect : AreSound → (s : Setting) (g k : List Entry) (effect : Option Effect) → IsLoad s → IsPlayed s k → GrowsBy s g effect k → StaysIdle s g → StaysIdle s k
after_effect sound s g k None load o same idle = idle_on s g k same idle
after_effect sound s g k (Some (effects.Call call)) load o (e, (reply, right, is), same) idle =
    let all : k ≡ entries.Call User call reply ∷ g = same ∙ ap (λ (x : Entry). x ∷ g) is in
    idle_on s (entries.Call User call reply ∷ g) k all (after_call sound s g call reply load (subst (IsPlayed s) all o) idle)
after_effect sound s g k (Some (effects.Tick now)) load o (e, is, same) idle = idle_on s (entries.Tick now ∷ g) k (same ∙ ap (λ (x : Entry). x ∷ g) is) (record { none = idle.none; ticks = (idle.none, idle.ticks) })
after_effect sound s g k (Some (effects.Stop role)) load o (e, is, same) idle = idle_on s (entries.Stop role ∷ g) k (same ∙ ap (λ (x : Entry). x ∷ g) is) (record { none = idle.none; ticks = idle.ticks })
after_effect sound s g k (Some (effects.Start role at)) load o (e, is, same) idle = idle_on s (entries.Start role at ∷ g) k (same ∙ ap (λ (x : Entry). x ∷ g) is) (record { none = idle.none; ticks = idle.ticks })

-- ---- the step that comes next

-- it applies something, or lets time go by
abbrev IsFree : Option Step → Type 0
IsFree (Some (steps.Apply object version)) = Unit {0}
IsFree (Some (steps.Tick seconds)) = Unit {0}
IsFree other = ⊥

abbrev IsQuietNow : Setting → List Entry → Type 0
IsQuietNow s h = IsFree (step_at s.script (scripted h + 1)) → HaveNoneIssued (objects s h)

free_left : (script : List Step) (i : ℕ) → IsFree (slice_get script i) → i < length script
free_left [] i free = absurd free
free_left (step ∷ script) zero free = omega arith
free_left (step ∷ script) (suc i) free = omega (arith, free_left script i free)

free_ready : (s : Setting) (h : List Entry) (step : Option Step) → IsFree step → IsReady s h step
free_ready s h None free = absurd free
free_ready s h (Some (steps.Apply object version)) free = tt
free_ready s h (Some (steps.Tick seconds)) free = tt
free_ready s h (Some steps.Settle) free = absurd free
free_ready s h (Some (steps.Delete key version)) free = absurd free
free_ready s h (Some (steps.Approve certificate revision)) free = absurd free
free_ready s h (Some (steps.Deny certificate revision)) free = absurd free
free_ready s h (Some (steps.Answer certificate revision row)) free = absurd free
free_ready s h (Some (steps.Renew certificate)) free = absurd free
free_ready s h (Some (steps.Stop role)) free = absurd free
free_ready s h (Some (steps.Start role behind)) free = absurd free
free_ready s h (Some (steps.Hold role kind)) free = absurd free
free_ready s h (Some (steps.Release role kind)) free = absurd free
free_ready s h (Some (steps.Until role kind writes)) free = absurd free

-- where no step was ready, none is free
none_free : (s : Setting) (h k : List Entry) → HasNoScript s h → scripted k ≡ scripted h → IsQuietNow s k
none_free s h k none same free =
    let here : IsFree (step_at s.script (scripted h + 1)) = subst (λ (n : ℕ). IsFree (step_at s.script (n + 1))) same free in
    absurd (none (record { left = omega (arith, free_left s.script (scripted h + 1 - 1) here); ready = free_ready s h (step_at s.script (scripted h + 1)) here }))

before_step : (s : Setting) (h : List Entry) (step : Option Step) → step_at s.script (scripted h + 1) ≡ step → IfSome step IsLoadStep → IsReady s h step → (IsAtRest s h → HaveNoneIssued (objects s h)) → IsQuietNow s h → HaveNoneIssued (objects s h)
before_step s h None there is ready rests quiet = absurd ready
before_step s h (Some (steps.Apply object version)) there is ready rests quiet = quiet (subst IsFree (sym there) tt)
before_step s h (Some (steps.Tick seconds)) there is ready rests quiet = quiet (subst IsFree (sym there) tt)
before_step s h (Some steps.Settle) there is ready rests quiet = rests ready
before_step s h (Some (steps.Delete key version)) there is ready rests quiet = absurd (cc is)
before_step s h (Some (steps.Approve certificate revision)) there is ready rests quiet = absurd (cc is)
before_step s h (Some (steps.Deny certificate revision)) there is ready rests quiet = absurd (cc is)
before_step s h (Some (steps.Answer certificate revision row)) there is ready rests quiet = absurd (cc is)
before_step s h (Some (steps.Renew certificate)) there is ready rests quiet = absurd (cc is)
before_step s h (Some (steps.Stop role)) there is ready rests quiet = absurd (cc is)
before_step s h (Some (steps.Start role behind)) there is ready rests quiet = absurd (cc is)
before_step s h (Some (steps.Hold role kind)) there is ready rests quiet = absurd (cc is)
before_step s h (Some (steps.Release role kind)) there is ready rests quiet = absurd (cc is)
before_step s h (Some (steps.Until role kind writes)) there is ready rests quiet = absurd (cc is)

-- ---- one move more

record IsIdleThere (s : Setting) (h : List Entry) : Type 0 where
  quiet : IsQuietNow s h
  ticks : HaveIdleTicks s h

-- an entry that is no step of the script and lets no time go by
abbrev IsOther : Setting → List Entry → Entry → Type 0
IsOther s h e = (scripted (e ∷ h) ≡ scripted h) × (HaveIdleTicks s h → HaveIdleTicks s (e ∷ h))

other_value : (s : Setting) (h : List Entry) (n : ℕ) (value : Value) → IsOther s h (value_entry n value)
other_value s h n (values.Made key) = (refl, λ ticks. ticks)
other_value s h n (values.Signed signature) = (refl, λ ticks. ticks)
other_value s h n (values.Answered answer) = (refl, λ ticks. ticks)
other_value s h n (values.Judged approved) = (refl, λ ticks. ticks)

other_pass : (s : Setting) (h : List Entry) (n : ℕ) (e : Entry) → IsOfPass s h n e → IsOther s h e
other_pass s h n e (inl (call, may, (reply, right, is))) = subst (IsOther s h) (sym is) (refl, λ ticks. ticks)
other_pass s h n e (inr (cause, may, is)) = subst (IsOther s h) (sym is) (refl, λ ticks. ticks)

other_course : (s : Setting) (h : List Entry) (n : ℕ) (e : Entry) → IsOfCourse s h n e → IsOther s h e
other_course s h n e (inl of) = other_pass s h n e of
other_course s h n e (inr (inl (order, may, is))) = subst (IsOther s h) (sym is) (refl, λ ticks. ticks)
other_course s h n e (inr (inr (value, may, is))) = subst (IsOther s h) (sym is) (other_value s h n value)

other_told : (b : Bool) (s : Setting) (h : List Entry) (role : Role) (kind : Kind) (to at : ℕ) → IsOther s h (if b then entries.Deliver role kind to else entries.List role kind at)
other_told true s h role kind to at = (refl, λ ticks. ticks)
other_told false s h role kind to at = (refl, λ ticks. ticks)

idle_other : (s : Setting) (h : List Entry) (e : Entry) (k : List Entry) → HasNoScript s h → IsOther s h e → k ≡ e ∷ h → HaveIdleTicks s h → IsIdleThere s k
idle_other s h e k none other same ticks = subst (IsIdleThere s) (sym same) (record { quiet = none_free s h (e ∷ h) none other.0; ticks = other.1 ticks })

idle_step : AreSound → (s : Setting) (h : List Entry) (move : Move) (k : List Entry) → IsFormed s → IsLoad s → ((role : Role) → runs s [] role ≡ true) → IsRun s h → IsPlainStep s h move k → IsIdleThere s h → IsIdleThere s k
idle_step sound s h moves.Script k formed load all run step idle =
    let none = before_step s h (step_at s.script (scripted h + 1)) refl (each_load_step s.script (scripted h + 1 - 1) load.steps) step.plain.1.ready (resting sound s h formed load all run) idle.quiet in
    let after = after_effect sound s (entries.Script (scripted h + 1) ∷ h) k (next_effect s h) load (played s k step.run) step.grows (record { none = none; ticks = idle.ticks }) in
    record { quiet = λ free. after.none; ticks = after.ticks }
idle_step sound s h (moves.Deliver role kind to) k formed load all run step idle =
    idle_other s h _ k step.plain.1.0 (other_told (nat_le (accepted s h) (position h role kind + s.window)) s h role kind to (accepted s h)) step.grows idle.ticks
idle_step sound s h (moves.Begin role key) k formed load all run step idle = idle_other s h _ k step.plain.1.0 (refl, λ ticks. ticks) step.grows idle.ticks
idle_step sound s h (moves.Next n named) k formed load all run step idle = idle_other s h step.grows.0 k step.plain.1.0 (other_course s h n step.grows.0 step.grows.1) step.grows.2 idle.ticks
idle_step sound s h (moves.Give n named given) k formed load all run step idle = absurd step.plain.1
idle_step sound s h (moves.Decide n named d) k formed load all run step idle = absurd step.plain.1

idle_led : AreSound → (s : Setting) (ms : List Move) (h k : List Entry) → IsFormed s → IsLoad s → ((role : Role) → runs s [] role ≡ true) → IsPlain s h → IsIdleThere s h → LeadsPlainly s ms h k → IsIdleThere s k
idle_led sound s [] h k formed load all plain idle same = subst (IsIdleThere s) (sym same) idle
idle_led sound s (move ∷ ms) h k formed load all plain idle (g, step, rest) =
    idle_led sound s ms g k formed load all (plain_more s h move g plain step) (idle_step sound s h move g formed load all (is_run s h plain) step idle) rest

none_at_first : (s : Setting) → HaveNoneIssued (objects s [])
none_at_first s = λ kc kq c r at there owned ready. absurd (stands_is_version s [] kc (Cert c) at)

pub idle_ticks : AreSound → (s : Setting) (h : List Entry) → IsFormed s → IsLoad s → ((role : Role) → runs s [] role ≡ true) → IsPlain s h → HaveIdleTicks s h
idle_ticks sound s h formed load all (ms, led) = (idle_led sound s ms [] h formed load all ([], refl) (record { quiet = λ free. none_at_first s; ticks = tt }) led).ticks
