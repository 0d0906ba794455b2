-- What each entry of a plain run is like, where the script applies Certificates, lets time go on and waits until all rests.
use Rattle.std.proofs.Common.{◌≡◌, ◌<◌, ◌^◌, ℕ, List, [], ◌∷◌, Bool, true, false, Option, Some, None, refl, sym, ap, subst, ◌∙◌, inl, inr}
use Rattle.std.specs.Prelude.{option_and_then, if◌then◌else◌, nat_le, ◌+◌}
use Rattle.cmc_meta.specs.declared.key.Kind.{Kind}
use Rattle.cmc_meta.specs.declared.key.Kind.TheVariants as kinds
use Rattle.cmc_objects.specs.declared.certificate.Certificate.{Certificate}
use Rattle.cmc_objects.specs.declared.object.Object.{Object}
use Rattle.cmc_objects.specs.declared.object.Object.TheVariants.{Cert}
use Rattle.cmc_objects.specs.declared.call.Call.{Call}
use Rattle.cmc_objects.specs.declared.call.Reply.{Reply}
use Rattle.cmc_objects.specs.declared.entry.Entry.{Entry}
use Rattle.cmc_objects.specs.declared.entry.Entry.TheVariants.{Script, Call as Called, Deliver, List as Listed, Begin, Ask, Made, Signed, Answered, Judged, End, Stop, Start, Tick}
use Rattle.cmc_objects.specs.declared.entry.Step.{Step}
use Rattle.cmc_objects.specs.declared.entry.Step.TheVariants as steps
use Rattle.cmc_objects.specs.declared.entry.Who.TheVariants.{User, Pass}
use Rattle.cmc_objects.specs.declared.role.Role.{Role}
use Rattle.cmc_objects.specs.Objects.{key_of}
use Rattle.cmc_pass.specs.declared.value.Value.{Value}
use Rattle.cmc_pass.specs.declared.value.Value.TheVariants as values
use Rattle.cmc_model.specs.Histories.{Setting, accepted, objects}
use Rattle.cmc_model.specs.Objects.{object_at}
use Rattle.cmc_model.specs.Replies.{key_of_call, settled}
use Rattle.cmc_model.specs.Writes.{writes, last_of_kind}
use Rattle.cmc_rules.specs.declared.effect.Effect.{Effect}
use Rattle.cmc_rules.specs.declared.effect.Effect.TheVariants as effects
use Rattle.cmc_rules.specs.Passes.{open_pass}
use Rattle.cmc_rules.specs.Positions.{position}
use Rattle.cmc_rules.specs.Runs.{IsRun}
use Rattle.cmc_rules.specs.Scripts.{scripted, step_at}
use Rattle.cmc_rules.specs.UserSteps.{apply_call, call_of, effect_of}
use Rattle.cmc_rules.specs.Views.{views, present_views}
use Rattle.cmc_moves.specs.Answers.{GrowsBy, next_effect, value_entry}
use Rattle.cmc_moves.specs.declared.moves.Move.{Move}
use Rattle.cmc_moves.specs.declared.moves.Move.TheVariants as moves
use Rattle.cmc_kernel.specs.Plain.{Fits, IsBehind}
use Rattle.cmc_kernel.proofs.Newest.{views_newest}
use Rattle.cmc_world.specs.Histories.{IsOfCourse, IsPlainStep, LeadsPlainly, IsPlain}
use Rattle.cmc_world.proofs.Determined.{is_run}
use Rattle.cmc_waits.proofs.Finishing.{closed, told}
use Rattle.cmc_run_laws.specs.Calm.{is_calm, IsCalmReply}
use Rattle.cmc_run_laws.proofs.CalmScripts.{none_is_held}
use Rattle.cmc_run_laws.proofs.RunningAlone.{AreCalm, NamesAreFree, NamesLaw, free_names, none_calm, shut_by, step_calm}

-- no pass is open
abbrev pub IsClosed : Setting → List Entry → Type 0
IsClosed s h = (n : ℕ) → open_pass s h n ≡ None

-- a step of a load: users apply a Certificate, time goes on, or all is waited for
abbrev pub IsLoadStep : Option Step → Type 0
IsLoadStep None = Unit {0}
IsLoadStep (Some (steps.Apply (Cert c) version)) = Unit {0}
IsLoadStep (Some (steps.Tick seconds)) = Unit {0}
IsLoadStep (Some steps.Settle) = Unit {0}
IsLoadStep (Some other) = ⊥

abbrev pub HasLoadSteps : Setting → Type 0
HasLoadSteps s = (number : ℕ) → IsLoadStep (step_at s.script number)

-- the call applies a Certificate of the script
pub record IsApply (s : Setting) (h : List Entry) (call : Call) : Type 0 where
  pub number : ℕ
  pub certificate : Certificate
  pub version : Option ℕ
  pub step : step_at s.script number ≡ Some (steps.Apply (Cert certificate) version)
  pub is : call ≡ apply_call (Cert certificate) version (object_at (objects s h) (key_of (Cert certificate)))

-- what the entry is like
abbrev pub IsPlainEntry : Setting → List Entry → Entry → Type 0
IsPlainEntry s h (Script step) = IsClosed s h
IsPlainEntry s h (Called User call reply) = IsClosed s h × IsApply s h call
IsPlainEntry s h (Called (Pass n) call reply) = IsCalmReply reply × AreCalm s h
IsPlainEntry s h (Deliver role kind to) = IsClosed s h × IsBehind s h role kind × (to ≡ last_of_kind kind (writes s h))
IsPlainEntry s h (Listed role kind to) = IsClosed s h × IsBehind s h role kind × (to ≡ accepted s h)
IsPlainEntry s h (Begin n role key at now) = IsClosed s h × Fits s h role key × (views s h role key ≡ present_views s h role key)
IsPlainEntry s h (Ask n order) = Unit {0}
IsPlainEntry s h (Made n key) = Unit {0}
IsPlainEntry s h (Signed n signature) = Unit {0}
IsPlainEntry s h (Answered n answer) = Unit {0}
IsPlainEntry s h (Judged n approved) = Unit {0}
IsPlainEntry s h (End n cause) = Unit {0}
IsPlainEntry s h (Stop role) = ⊥
IsPlainEntry s h (Start role at) = ⊥
IsPlainEntry s h (Tick now) = IsClosed s h

abbrev pub ArePlain : Setting → List Entry → Type 0
ArePlain s [] = Unit {0}
ArePlain s (e ∷ h) = IsPlainEntry s h e × ArePlain s h

-- ---- what a step brings about

abbrev BringsAbout : Setting → List Entry → Option Effect → Type 0
BringsAbout s h None = Unit {0}
BringsAbout s h (Some (effects.Call call)) = IsApply s h call
BringsAbout s h (Some (effects.Tick now)) = Unit {0}
BringsAbout s h (Some (effects.Stop role)) = ⊥
BringsAbout s h (Some (effects.Start role at)) = ⊥

brought : (s : Setting) (h : List Entry) (number : ℕ) (step : Option Step) → IsLoadStep step → step_at s.script number ≡ step → BringsAbout s h (option_and_then (effect_of s h) step)
unfolding call_of
brought s h number None load at = tt
brought s h number (Some (steps.Apply (Cert c) version)) load at = record { number = number; certificate = c; version = version; step = at; is = refl }
brought s h number (Some (steps.Tick seconds)) load at = tt
brought s h number (Some steps.Settle) load at = tt
brought s h number (Some other) load at = absurd load

-- ---- a user writes a Certificate

applied_key : (c : Certificate) (version : Option ℕ) (old : Option Object) (reply : Reply) → (key_of_call (settled (apply_call (Cert c) version old) reply)).kind ≡ kinds.Certificate
unfolding settled
applied_key c (Some version) old reply = refl
applied_key c None None reply = refl
applied_key c None (Some old) reply = refl

pub writes_certificate : (s : Setting) (h : List Entry) (call : Call) (reply : Reply) → IsApply s h call → (key_of_call (settled call reply)).kind ≡ kinds.Certificate
writes_certificate s h call reply apply =
    subst (λ (x : Call). (key_of_call (settled x reply)).kind ≡ kinds.Certificate) (sym apply.is) (applied_key apply.certificate apply.version (object_at (objects s h) (key_of (Cert apply.certificate))) reply)

-- ---- moves

effect_plain : (s : Setting) (h : List Entry) (step : ℕ) (effect : Option Effect) (k : List Entry) → IsClosed s h → BringsAbout s h effect → ArePlain s h → GrowsBy s (Script step ∷ h) effect k → ArePlain s k
effect_plain s h step None k none brings plain same = subst (ArePlain s) (sym same) (none, plain)
effect_plain s h step (Some (effects.Call call)) k none brings plain (e, (reply, right, is), same) =
    let apply : IsApply s (Script step ∷ h) call = record { number = brings.number; certificate = brings.certificate; version = brings.version; step = brings.step; is = brings.is } in
    subst (ArePlain s) (sym (same ∙ ap (λ (x : Entry). x ∷ Script step ∷ h) is)) ((none, apply), (none, plain))
effect_plain s h step (Some (effects.Tick now)) k none brings plain (e, is, same) =
    subst (ArePlain s) (sym (same ∙ ap (λ (x : Entry). x ∷ Script step ∷ h) is)) (none, (none, plain))
effect_plain s h step (Some (effects.Stop role)) k none brings plain grows = absurd brings
effect_plain s h step (Some (effects.Start role at)) k none brings plain grows = absurd brings

told_plain : (b : Bool) (s : Setting) (h : List Entry) (role : Role) (kind : Kind) (to : ℕ) → IsClosed s h → IsBehind s h role kind → to ≡ last_of_kind kind (writes s h) → ArePlain s h
    → ArePlain s ((if b then Deliver role kind to else Listed role kind (accepted s h)) ∷ h)
told_plain true s h role kind to none behind newest plain = ((none, behind, newest), plain)
told_plain false s h role kind to none behind newest plain = ((none, behind, refl), plain)

value_plain : (s : Setting) (h : List Entry) (n : ℕ) (value : Value) → IsPlainEntry s h (value_entry n value)
value_plain s h n (values.Made key) = tt
value_plain s h n (values.Signed signature) = tt
value_plain s h n (values.Answered answer) = tt
value_plain s h n (values.Judged approved) = tt

course_plain : (s : Setting) (h : List Entry) (n : ℕ) (e : Entry) → AreCalm s h → AreCalm s (e ∷ h) → IsOfCourse s h n e → IsPlainEntry s h e
course_plain s h n e calm after (inl (inl (call, may, (reply, right, is)))) =
    let later : AreCalm s (Called (Pass n) call reply ∷ h) = subst (λ (x : Entry). AreCalm s (x ∷ h)) is after in
    subst (IsPlainEntry s h) (sym is) (later.replies.0, calm)
course_plain s h n e calm after (inl (inr (cause, may, is))) = subst (IsPlainEntry s h) (sym is) tt
course_plain s h n e calm after (inr (inl (order, may, is))) = subst (IsPlainEntry s h) (sym is) tt
course_plain s h n e calm after (inr (inr (value, may, is))) = subst (IsPlainEntry s h) (sym is) (value_plain s h n value)

step_plain : (s : Setting) (h : List Entry) (move : Move) (k : List Entry) → HasLoadSteps s → is_calm s.script ≡ true → IsRun s h → AreCalm s h → AreCalm s k → IsPlainStep s h move k → ArePlain s h → ArePlain s k
step_plain s h moves.Script k load script run calm after step plain =
    effect_plain s h (scripted h + 1) (next_effect s h) k (λ n. shut_by (open_pass s h n) (λ p is. calm.still n p is step.plain.1))
    (brought s h (scripted h + 1) (step_at s.script (scripted h + 1)) (load (scripted h + 1)) refl) plain step.grows
step_plain s h (moves.Deliver role kind to) k load script run calm after step plain =
    subst (ArePlain s) (sym step.grows)
    (told_plain (nat_le (accepted s h) (position h role kind + s.window)) s h role kind to (closed s h step.plain.1.1) step.plain.1.2.behind step.plain.1.3 plain)
step_plain s h (moves.Begin role key) k load script run calm after step plain =
    let fits = step.plain.1.3.fits in
    subst (ArePlain s) (sym step.grows)
    ((closed s h step.plain.1.1, fits, views_newest s h role key run.legal (λ kind informed. told s h step.plain.1.2 role kind fits.may.running informed (none_is_held s h role kind script))), plain)
step_plain s h (moves.Next n named) k load script run calm after step plain =
    let e : Entry = step.grows.0 in
    subst (ArePlain s) (sym step.grows.2) (course_plain s h n e calm (subst (AreCalm s) step.grows.2 after) step.grows.1, plain)
step_plain s h (moves.Give n named given) k load script run calm after step plain = absurd step.plain.1
step_plain s h (moves.Decide n named d) k load script run calm after step plain = absurd step.plain.1

led_plain : (s : Setting) (ms : List Move) (h k : List Entry) → HasLoadSteps s → is_calm s.script ≡ true → NamesAreFree s → s.events < 2 ^ 64 → IsRun s h → AreCalm s h → ArePlain s h → LeadsPlainly s ms h k → ArePlain s k
led_plain s [] h k load script free room run calm plain same = subst (ArePlain s) (sym same) plain
led_plain s (move ∷ ms) h k load script free room run calm plain (g, step, rest) =
    let after = step_calm s h move g script run.legal run.caused (free_names s h free room run.short) calm step in
    led_plain s ms g k load script free room step.run after (step_plain s h move g load script run calm after step plain) rest

pub all_plain : NamesLaw → (s : Setting) (h : List Entry) → HasLoadSteps s → is_calm s.script ≡ true → s.events < 2 ^ 64 → IsPlain s h → ArePlain s h
all_plain free s h load script room (ms, led) = led_plain s ms [] h load script (free s) room (is_run s [] ([], refl)) (none_calm s [] (λ n. refl) tt) tt led
