-- Which histories follow a script.
use Rattle.std.specs.Prelude.{◌≡◌, ◌⊎◌, ℕ, ℤ, pos, ◌+◌, ◌+ℤ◌, ◌-◌, ◌≤◌, Bool, false, ◌&&◌, List, [], ◌∷◌, length, Option, Some, None, option_and_then, if◌then◌else◌}
use Rattle.cmc_meta.specs.declared.key.Kind.{Kind}
use Rattle.cmc_objects.specs.declared.object.Object.{Object}
use Rattle.cmc_objects.specs.declared.call.Call.{Call}
use Rattle.cmc_objects.specs.declared.call.Call.TheVariants.{Create, Update, Delete}
use Rattle.cmc_objects.specs.declared.role.Role.{Role}
use Rattle.cmc_objects.specs.declared.entry.Who.{Who}
use Rattle.cmc_objects.specs.declared.entry.Who.TheVariants.{User, Pass}
use Rattle.cmc_objects.specs.declared.entry.Step.{Step}
use Rattle.cmc_objects.specs.declared.entry.Step.TheVariants as steps
use Rattle.cmc_objects.specs.declared.entry.Entry.{Entry}
use Rattle.cmc_objects.specs.declared.entry.Entry.TheVariants.{Script, Call as Called, Deliver, List as Listed, Begin, Ask, Made, Signed, Answered, Judged, End, Stop, Start, Tick}
use Rattle.cmc_objects.specs.Objects.{key_of, version_of}
use Rattle.cmc_rules.specs.declared.effect.Effect.{Effect}
use Rattle.cmc_rules.specs.declared.effect.Effect.TheVariants as effects
use Rattle.cmc_rules.specs.declared.progress.OpenPass.{OpenPass}
use Rattle.cmc_model.specs.Objects.{Objects, object_at}
use Rattle.cmc_model.specs.Replies.{is_accepted, key_of_call}
use Rattle.cmc_model.specs.Histories.{Setting, moment, objects, accepted, role_eq}
use Rattle.cmc_model.specs.Writes.{kind_eq}
use Rattle.cmc_rules.specs.Passes.{open_pass}
use Rattle.cmc_rules.specs.Scripts.{scripted, step_at, held}
use Rattle.cmc_rules.specs.UserWrites.{approval_call, denial, reply_of_issuer, renewal_of}
use Rattle.cmc_rules.specs.Rest.{IsAtRest}

-- an apply creates where the key is free; else, and wherever a version is named, it updates
abbrev pub apply_call : Object → Option ℕ → Option Object → Call
apply_call object (Some version) old = Update object version
apply_call object None None = Create object false
apply_call object None (Some old) = Update object (version_of old)

-- The user call that a step makes at this moment on these objects.
unfoldable pub call_of : ℤ → Objects → Step → Option Call
call_of moment objects (steps.Apply object version) = Some (apply_call object version (object_at objects (key_of object)))
call_of moment objects (steps.Delete key version) = Some (Delete key version)
call_of moment objects (steps.Approve certificate revision) = approval_call moment objects certificate revision
call_of moment objects (steps.Deny certificate revision) = denial moment objects certificate revision
call_of moment objects (steps.Answer certificate revision row) = reply_of_issuer moment objects certificate revision row
call_of moment objects (steps.Renew certificate) = renewal_of moment (object_at objects certificate)
call_of moment objects (steps.Tick seconds) = None
call_of moment objects (steps.Stop role) = None
call_of moment objects (steps.Start role behind) = None
call_of moment objects (steps.Hold role kind) = None
call_of moment objects (steps.Release role kind) = None
call_of moment objects (steps.Until role kind writes) = None
call_of moment objects steps.Settle = None

-- What a step that makes no call brings about, after so many accepted writes and at this moment. A start tells the role of
-- all but the last so many of the writes.
abbrev pub effect_besides : ℕ → ℤ → Step → Option Effect
effect_besides accepted moment (steps.Apply object version) = None
effect_besides accepted moment (steps.Delete key version) = None
effect_besides accepted moment (steps.Approve certificate revision) = None
effect_besides accepted moment (steps.Deny certificate revision) = None
effect_besides accepted moment (steps.Answer certificate revision row) = None
effect_besides accepted moment (steps.Renew certificate) = None
effect_besides accepted moment (steps.Tick seconds) = Some (effects.Tick (moment +ℤ pos seconds))
effect_besides accepted moment (steps.Stop role) = Some (effects.Stop role)
effect_besides accepted moment (steps.Start role behind) = Some (effects.Start role (accepted - behind))
effect_besides accepted moment (steps.Hold role kind) = None
effect_besides accepted moment (steps.Release role kind) = None
effect_besides accepted moment (steps.Until role kind writes) = None
effect_besides accepted moment steps.Settle = None

-- the call, if the step makes one, and else the other effect
abbrev pub call_or : Option Call → Option Effect → Option Effect
call_or (Some call) other = Some (effects.Call call)
call_or None other = other

-- what a step brings about directly after it, where these objects stand
abbrev pub effect_on : Objects → ℕ → ℤ → Step → Option Effect
effect_on objects accepted moment step = call_or (call_of moment objects step) (effect_besides accepted moment step)

abbrev pub effect_of : Setting → List Entry → Step → Option Effect
effect_of s h step = effect_on (objects s h) (accepted s h) (moment s h) step

-- what has to come next: the effect of the step whose entry is the newest
abbrev pub owed : Setting → List Entry → Option Effect
owed s [] = None
owed s (Script step ∷ h) = option_and_then (effect_of s h) (step_at s.script step)
owed s (other ∷ h) = None

-- ---- how long a step waits

abbrev pub is_pass_by : Role → Option OpenPass → Bool
is_pass_by role None = false
is_pass_by role (Some p) = role_eq p.role role

abbrev pub is_write_by : Setting → List Entry → Role → Kind → Who → Call → Bool
is_write_by s h r k User call = false
is_write_by s h r k (Pass pass) call = kind_eq (key_of_call call).kind k && is_pass_by r (open_pass s h pass)

abbrev pub written_with : Setting → List Entry → Role → Kind → ℕ → Entry → ℕ
written_with s h r k n (Called who call reply) = if is_accepted reply && is_write_by s h r k who call then n + 1 else n
written_with s h r k n other = n

-- how many accepted writes of the kind the passes of the role have made
abbrev pub written : Setting → List Entry → Role → Kind → ℕ
written s [] r k = 0
written s (e ∷ h) r k = written_with s h r k (written s h r k) e

-- a step that waits does so until its count is reached or all is at rest
abbrev pub IsReady : Setting → List Entry → Option Step → Type 0
IsReady s h None = ⊥
IsReady s h (Some (steps.Apply object version)) = Unit {0}
IsReady s h (Some (steps.Delete key version)) = Unit {0}
IsReady s h (Some (steps.Approve certificate revision)) = Unit {0}
IsReady s h (Some (steps.Deny certificate revision)) = Unit {0}
IsReady s h (Some (steps.Answer certificate revision row)) = Unit {0}
IsReady s h (Some (steps.Renew certificate)) = Unit {0}
IsReady s h (Some (steps.Tick seconds)) = Unit {0}
IsReady s h (Some (steps.Stop role)) = Unit {0}
IsReady s h (Some (steps.Start role behind)) = Unit {0}
IsReady s h (Some (steps.Hold role kind)) = Unit {0}
IsReady s h (Some (steps.Release role kind)) = Unit {0}
IsReady s h (Some (steps.Until role kind writes)) = (writes ≤ written s h role kind) ⊎ IsAtRest s h
IsReady s h (Some steps.Settle) = IsAtRest s h

-- ---- histories that follow the script

-- the next step of the script is made, once its turn has come and nothing of the last one is left
pub record IsNextStep (s : Setting) (h : List Entry) (step : ℕ) : Type 0 where
  pub settled : owed s h ≡ None
  pub numbered : step ≡ scripted h + 1
  pub stands : step ≤ length s.script
  pub ready : IsReady s h (step_at s.script step)

-- a role is told where nothing is owed to the script and its informer is not held
pub record IsTelling (s : Setting) (h : List Entry) (role : Role) (kind : Kind) : Type 0 where
  pub settled : owed s h ≡ None
  pub free : held s h role kind ≡ false

-- The steps are made in order, and directly after each stands its effect; calls of users, ticks, stops and starts stand only there.
abbrev pub FollowsEntry : Setting → List Entry → Entry → Type 0
FollowsEntry s h (Script step) = IsNextStep s h step
FollowsEntry s h (Called User call reply) = owed s h ≡ Some (effects.Call call)
FollowsEntry s h (Called (Pass pass) call reply) = owed s h ≡ None
FollowsEntry s h (Deliver role kind to) = IsTelling s h role kind
FollowsEntry s h (Listed role kind to) = IsTelling s h role kind
FollowsEntry s h (Begin pass role key at now) = owed s h ≡ None
FollowsEntry s h (Ask pass order) = owed s h ≡ None
FollowsEntry s h (Made pass key) = owed s h ≡ None
FollowsEntry s h (Signed pass signature) = owed s h ≡ None
FollowsEntry s h (Answered pass answer) = owed s h ≡ None
FollowsEntry s h (Judged pass approved) = owed s h ≡ None
FollowsEntry s h (End pass cause) = owed s h ≡ None
FollowsEntry s h (Stop role) = owed s h ≡ Some (effects.Stop role)
FollowsEntry s h (Start role at) = owed s h ≡ Some (effects.Start role at)
FollowsEntry s h (Tick now) = owed s h ≡ Some (effects.Tick now)

unfoldable pub Follows : Setting → List Entry → Type 0
Follows s [] = Unit {0}
Follows s (e ∷ h) = FollowsEntry s h e × Follows s h
