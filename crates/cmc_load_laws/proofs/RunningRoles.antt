-- In a run of a load whose roles all run, none stops and no informer is held.
use Rattle.std.proofs.Common.{◌≡◌, ◌-◌, ◌||◌, ◌&&◌, List, [], ◌∷◌, Bool, true, false, not, Option, Some, None, refl, subst}
use Rattle.std.specs.Prelude.{IfSome, option_and_then, if◌then◌else◌}
use Rattle.cmc_meta.specs.declared.key.Kind.{Kind}
use Rattle.cmc_meta.specs.declared.key.Kind.TheVariants as kinds
use Rattle.cmc_objects.specs.declared.object.Object.TheVariants.{Secret}
use Rattle.cmc_objects.specs.declared.entry.Step.{Step}
use Rattle.cmc_objects.specs.declared.entry.Step.TheVariants as steps
use Rattle.cmc_objects.specs.declared.entry.Entry.{Entry}
use Rattle.cmc_objects.specs.declared.entry.Entry.TheVariants.{Script, Start, Stop}
use Rattle.cmc_objects.specs.declared.role.Role.{Role}
use Rattle.cmc_objects.specs.declared.role.Role.TheVariants.{Trigger, KeyManager, RequestManager, Approver, Issuer, Issuing, Readiness, Revision}
use Rattle.cmc_objects.specs.Informers.{has_informer}
use Rattle.cmc_model.specs.Histories.{Setting, role_eq, runs}
use Rattle.cmc_rules.specs.declared.effect.Effect.{Effect}
use Rattle.cmc_rules.specs.declared.effect.Effect.TheVariants as effects
use Rattle.cmc_rules.specs.Scripts.{held, step_at}
use Rattle.cmc_rules.specs.UserSteps.{Follows, call_of, effect_of, owed}
use Rattle.cmc_run_laws.proofs.CalmScripts.{none_is_held}
use Rattle.cmc_waits.specs.Waits.{is_hindered, is_kept_from, is_stopped}
use Rattle.cmc_load_laws.specs.Loads.{are_load_steps}
use Rattle.cmc_load_laws.proofs.LoadScripts.{IsLoadStep, calm_script, each_load_step}

-- ---- no step stops a role

abbrev NoStop : Option Effect → Type 0
NoStop (Some (effects.Stop role)) = ⊥
NoStop other = Unit {0}

no_stop_by : (s : Setting) (h : List Entry) (step : Option Step) → IfSome step IsLoadStep → NoStop (option_and_then (effect_of s h) step)
unfolding call_of
no_stop_by s h None is = tt
no_stop_by s h (Some (steps.Apply object version)) is = tt
no_stop_by s h (Some (steps.Tick seconds)) is = tt
no_stop_by s h (Some steps.Settle) is = tt
no_stop_by s h (Some (steps.Delete key version)) is = absurd (cc is)
no_stop_by s h (Some (steps.Approve certificate revision)) is = absurd (cc is)
no_stop_by s h (Some (steps.Deny certificate revision)) is = absurd (cc is)
no_stop_by s h (Some (steps.Answer certificate revision row)) is = absurd (cc is)
no_stop_by s h (Some (steps.Renew certificate)) is = absurd (cc is)
no_stop_by s h (Some (steps.Stop role)) is = absurd (cc is)
no_stop_by s h (Some (steps.Start role behind)) is = absurd (cc is)
no_stop_by s h (Some (steps.Hold role kind)) is = absurd (cc is)
no_stop_by s h (Some (steps.Release role kind)) is = absurd (cc is)
no_stop_by s h (Some (steps.Until role kind writes)) is = absurd (cc is)

none_stops : (s : Setting) (h : List Entry) → are_load_steps s.script ≡ true → NoStop (owed s h)
none_stops s [] are = tt
none_stops s (Script step ∷ h) are = no_stop_by s h (step_at s.script step) (each_load_step s.script (step - 1) are)
none_stops s (other ∷ h) are = tt

started : (b before : Bool) → before ≡ true → (if b then true else before) ≡ true
started true before on = refl
started false before on = on

pub all_run : (s : Setting) (h : List Entry) (role : Role) → are_load_steps s.script ≡ true → Follows s h → runs s [] role ≡ true → runs s h role ≡ true
unfolding Follows
all_run s [] role are follows from = from
all_run s (Stop r ∷ h) role are follows from = absurd (subst NoStop follows.0 (none_stops s h are))
all_run s (Start r at ∷ h) role are follows from = started (role_eq r role) (runs s h role) (all_run s h role are follows.1 from)
all_run s (other ∷ h) role are follows from = all_run s h role are follows.1 from

-- ---- so none is stopped

not_kept : (s : Setting) (h : List Entry) (role : Role) (kind : Kind) → runs s h role ≡ true → held s h role kind ≡ false → is_kept_from s h role kind ≡ false
not_kept s h role kind on free = by (has_informer role kind) where
  by : (b : Bool) → (not (runs s h role) || (b && held s h role kind)) ≡ false
  by true = (λ i. not (on i) || free i)
  by false = (λ i. not (on i) || false)

not_hindered : (s : Setting) (h : List Entry) (role : Role) → runs s h role ≡ true → ((kind : Kind) → held s h role kind ≡ false) → is_hindered s h role ≡ false
not_hindered s h role on free =
    let one = not_kept s h role kinds.Certificate on (free kinds.Certificate) in
    let two = not_kept s h role kinds.CertificateRequest on (free kinds.CertificateRequest) in
    let three = not_kept s h role kinds.Secret on (free kinds.Secret) in
    λ i. one i || (two i || three i)

pub none_stopped : (s : Setting) (h : List Entry) → are_load_steps s.script ≡ true → Follows s h → ((role : Role) → runs s [] role ≡ true) → is_stopped s h ≡ false
none_stopped s h are follows from =
    let each : (role : Role) → is_hindered s h role ≡ false = λ role. not_hindered s h role (all_run s h role are follows (from role)) (λ kind. none_is_held s h role kind (calm_script s.script are)) in
    let a = each Trigger in
    let b = each KeyManager in
    let c = each RequestManager in
    let d = each Approver in
    let e = each Issuer in
    let f = each Issuing in
    let g = each Readiness in
    let j = each Revision in
    λ i. a i || (b i || (c i || (d i || (e i || (f i || (g i || (j i || false)))))))
