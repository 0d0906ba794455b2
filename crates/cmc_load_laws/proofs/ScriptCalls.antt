-- What the script has a user call.
use Rattle.std.proofs.Common.{◌≡◌, ℕ, ℤ, List, [], ◌∷◌, Option, Some, None, true, false, refl, subst}
use Rattle.std.specs.Prelude.{option_map, option_and_then}
use Rattle.cmc_objects.specs.declared.request.CertificateRequest.{CertificateRequest}
use Rattle.cmc_objects.specs.declared.object.Object.{Object}
use Rattle.cmc_objects.specs.declared.object.Object.TheVariants.{Cert}
use Rattle.cmc_objects.specs.declared.call.Call.{Call}
use Rattle.cmc_objects.specs.declared.call.Call.TheVariants.{Create, Update, UpdateStatus, Delete, Get}
use Rattle.cmc_objects.specs.declared.entry.Step.{Step}
use Rattle.cmc_objects.specs.declared.entry.Step.TheVariants as steps
use Rattle.cmc_objects.specs.declared.entry.Entry.{Entry}
use Rattle.cmc_objects.specs.declared.entry.Entry.TheVariants.{Script}
use Rattle.cmc_objects.specs.Objects.{key_of}
use Rattle.cmc_model.specs.Objects.{object_at}
use Rattle.cmc_model.specs.Histories.{Setting, moment, objects}
use Rattle.cmc_rules.specs.declared.effect.Effect.{Effect}
use Rattle.cmc_rules.specs.declared.effect.Effect.TheVariants as effects
use Rattle.cmc_rules.specs.UserSteps.{apply_call, call_of, call_or, effect_of, owed}
use Rattle.cmc_rules.specs.Scripts.{step_at}
use Rattle.cmc_rules.specs.UserWrites.{request_for, judge_call, answer_call, renew_call, renewal_of}
use Rattle.cmc_load_laws.specs.Loads.{Applies, Deletes}

-- what is made or updated is applied, and what is deleted is so by a step
abbrev pub IsScriptCall : Setting → Call → Type 0
IsScriptCall s (Create object false) = Applies s object
IsScriptCall s (Create object true) = ⊥
IsScriptCall s (Update object named) = Applies s object
IsScriptCall s (UpdateStatus object named) = Unit {0}
IsScriptCall s (Delete key named) = Deletes s key
IsScriptCall s (Get key) = ⊥

abbrev OfEffect : Setting → Option Effect → Type 0
OfEffect s (Some (effects.Call call)) = IsScriptCall s call
OfEffect s other = Unit {0}

of_apply : (s : Setting) (object : Object) (version : Option ℕ) (old : Option Object) → Applies s object → IsScriptCall s (apply_call object version old)
of_apply s object (Some version) old is = is
of_apply s object None None is = is
of_apply s object None (Some old) is = is

of_request : (s : Setting) (call : CertificateRequest → Call) (r : Option CertificateRequest) → ((r : CertificateRequest) → IsScriptCall s (call r)) → OfEffect s (call_or (option_map call r) None)
of_request s call None each = tt
of_request s call (Some r) each = each r

of_renewal : (s : Setting) (now : ℤ) (old : Option Object) → OfEffect s (call_or (renewal_of now old) None)
unfolding renew_call
of_renewal s now (Some (Cert c)) = tt
of_renewal s now other = tt

of_step : (s : Setting) (h : List Entry) (number : ℕ) (step : Option Step) → step_at s.script number ≡ step → OfEffect s (option_and_then (effect_of s h) step)
unfolding call_of judge_call answer_call
of_step s h number (Some (steps.Apply object version)) there = of_apply s object version (object_at (objects s h) (key_of object)) (number, version, there)
of_step s h number (Some (steps.Delete key version)) there = (number, version, there)
of_step s h number (Some (steps.Approve certificate revision)) there = of_request s _ (request_for (objects s h) certificate revision) (λ r. tt)
of_step s h number (Some (steps.Deny certificate revision)) there = of_request s _ (request_for (objects s h) certificate revision) (λ r. tt)
of_step s h number (Some (steps.Answer certificate revision row)) there = of_request s _ (request_for (objects s h) certificate revision) (λ r. tt)
of_step s h number (Some (steps.Renew certificate)) there = of_renewal s (moment s h) (object_at (objects s h) certificate)
of_step s h number other there = tt

of_owed : (s : Setting) (h : List Entry) → OfEffect s (owed s h)
of_owed s [] = tt
of_owed s (Script step ∷ h) = of_step s h step (step_at s.script step) refl
of_owed s (other ∷ h) = tt

pub script_call : (s : Setting) (h : List Entry) (call : Call) → owed s h ≡ Some (effects.Call call) → IsScriptCall s call
script_call s h call is = subst (OfEffect s) is (of_owed s h)
