-- The script of a load is calm, and what it has a user call applies a Certificate.
use Rattle.std.proofs.Common.{◌≡◌, ◌-◌, ℕ, List, [], ◌∷◌, zero, suc, true, false, Option, Some, None, refl, subst}
use Rattle.std.proofs.lemmas.Bool.{and_from, and_parts}
use Rattle.std.specs.List.{slice_get}
use Rattle.std.specs.Prelude.{IfSome, option_and_then}
use Rattle.cmc_objects.specs.declared.object.Object.{Object}
use Rattle.cmc_objects.specs.declared.object.Object.TheVariants.{Cert, Request, Secret}
use Rattle.cmc_objects.specs.declared.call.Call.{Call}
use Rattle.cmc_objects.specs.declared.call.Call.TheVariants.{Create, Update}
use Rattle.cmc_objects.specs.declared.entry.Step.{Step}
use Rattle.cmc_objects.specs.declared.entry.Step.TheVariants as steps
use Rattle.cmc_objects.specs.declared.entry.Entry.{Entry}
use Rattle.cmc_objects.specs.declared.entry.Entry.TheVariants.{Script}
use Rattle.cmc_objects.specs.Objects.{key_of}
use Rattle.cmc_model.specs.Objects.{object_at}
use Rattle.cmc_model.specs.Histories.{Setting, objects}
use Rattle.cmc_rules.specs.declared.effect.Effect.{Effect}
use Rattle.cmc_rules.specs.declared.effect.Effect.TheVariants as effects
use Rattle.cmc_rules.specs.UserSteps.{apply_call, call_of, effect_of, owed}
use Rattle.cmc_rules.specs.Scripts.{step_at}
use Rattle.cmc_run_laws.specs.Calm.{is_calm, lets_be}
use Rattle.cmc_load_laws.specs.Loads.{Applies, are_load_steps, is_load_step}

-- ---- calm

lets_step : (step : Step) → is_load_step step ≡ true → lets_be step ≡ true
lets_step (steps.Hold role kind) is = absurd (cc is)
lets_step (steps.Until role kind writes) is = absurd (cc is)
lets_step other is = refl

pub calm_script : (script : List Step) → are_load_steps script ≡ true → is_calm script ≡ true
calm_script [] are = refl
calm_script (step ∷ script) are =
    let parts = and_parts (is_load_step step) (are_load_steps script) are in
    and_from (lets_be step) (is_calm script) (lets_step step parts.0) (calm_script script parts.1)

-- ---- what a user calls

-- the call applies a Certificate
abbrev pub IsApplyCall : Setting → Call → Type 0
IsApplyCall s (Create (Cert c) false) = Applies s (Cert c)
IsApplyCall s (Update (Cert c) named) = Applies s (Cert c)
IsApplyCall s other = ⊥

abbrev pub IsLoadStep : Step → Type 0
IsLoadStep step = is_load_step step ≡ true

pub each_load_step : (script : List Step) (i : ℕ) → are_load_steps script ≡ true → IfSome (slice_get script i) IsLoadStep
each_load_step [] i are = tt
each_load_step (step ∷ script) zero are = (and_parts (is_load_step step) (are_load_steps script) are).0
each_load_step (step ∷ script) (suc i) are = each_load_step script i (and_parts (is_load_step step) (are_load_steps script) are).1

abbrev OfEffect : Setting → Option Effect → Type 0
OfEffect s (Some (effects.Call call)) = IsApplyCall s call
OfEffect s other = Unit {0}

of_apply : (s : Setting) (object : Object) (version : Option ℕ) (old : Option Object) → is_load_step (steps.Apply object version) ≡ true → Applies s object → IsApplyCall s (apply_call object version old)
of_apply s (Cert c) (Some named) old is applies = applies
of_apply s (Cert c) None None is applies = applies
of_apply s (Cert c) None (Some old) is applies = applies
of_apply s (Request r) version old is applies = absurd (cc is)
of_apply s (Secret k) version old is applies = absurd (cc is)

of_step : (s : Setting) (h : List Entry) (number : ℕ) (step : Option Step) → step_at s.script number ≡ step → IfSome step IsLoadStep → OfEffect s (option_and_then (effect_of s h) step)
unfolding call_of
of_step s h number None there is = tt
of_step s h number (Some (steps.Apply object version)) there is = of_apply s object version (object_at (objects s h) (key_of object)) is (number, version, there)
of_step s h number (Some (steps.Tick seconds)) there is = tt
of_step s h number (Some steps.Settle) there is = tt
of_step s h number (Some (steps.Delete key version)) there is = absurd (cc is)
of_step s h number (Some (steps.Approve certificate revision)) there is = absurd (cc is)
of_step s h number (Some (steps.Deny certificate revision)) there is = absurd (cc is)
of_step s h number (Some (steps.Answer certificate revision row)) there is = absurd (cc is)
of_step s h number (Some (steps.Renew certificate)) there is = absurd (cc is)
of_step s h number (Some (steps.Stop role)) there is = absurd (cc is)
of_step s h number (Some (steps.Start role behind)) there is = absurd (cc is)
of_step s h number (Some (steps.Hold role kind)) there is = absurd (cc is)
of_step s h number (Some (steps.Release role kind)) there is = absurd (cc is)
of_step s h number (Some (steps.Until role kind writes)) there is = absurd (cc is)

of_owed : (s : Setting) (h : List Entry) → are_load_steps s.script ≡ true → OfEffect s (owed s h)
of_owed s [] are = tt
of_owed s (Script step ∷ h) are = of_step s h step (step_at s.script step) refl (each_load_step s.script (step - 1) are)
of_owed s (other ∷ h) are = tt

pub apply_is_called : (s : Setting) (h : List Entry) (call : Call) → are_load_steps s.script ≡ true → owed s h ≡ Some (effects.Call call) → IsApplyCall s call
apply_is_called s h call are is = subst (OfEffect s) is (of_owed s h are)
