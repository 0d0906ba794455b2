-- The first call of a pass, by the table of its role.
use Rattle.std.proofs.Common.{◌≡◌, ◌≢◌, ℤ, Option, Some, None, Bool, true, false, refl, sym, subst, ◌∙◌, inl, inr}
use Rattle.std.specs.Prelude.{if◌then◌else◌}
use Rattle.cmc_objects.specs.declared.certificate.Certificate.{Certificate}
use Rattle.cmc_objects.specs.declared.certificate.CertStatus.{CertStatus}
use Rattle.cmc_objects.specs.declared.object.Object.TheVariants.{Cert}
use Rattle.cmc_objects.specs.declared.orders.Order.{Order}
use Rattle.cmc_objects.specs.declared.call.Call.{Call}
use Rattle.cmc_objects.specs.declared.call.Call.TheVariants.{UpdateStatus}
use Rattle.cmc_objects.specs.declared.role.Role.{Role}
use Rattle.cmc_objects.specs.declared.role.Role.TheVariants.{Issuing}
use Rattle.cmc_policies.specs.declared.facts.Reason.{Reason}
use Rattle.cmc_match.specs.Facts.{pair_at}
use Rattle.cmc_pass.specs.declared.pass.Views.{Views}
use Rattle.cmc_pass.specs.declared.pass.Act.{Act}
use Rattle.cmc_pass.specs.declared.pass.Act.TheVariants.{Nothing, Call as Calls, Ask as Asks, Issue, Temporary}
use Rattle.cmc_pass.specs.declared.value.Value.{Value}
use Rattle.cmc_rules.specs.declared.progress.Stage.{Stage}
use Rattle.cmc_rules.specs.declared.progress.Stage.TheVariants.{Fresh, Asked, Given, Read, Saved, Wrote, Refused, Barred}
use Rattle.cmc_rules.specs.Causes.{IsFirstCall, IsNextCall}
use Rattle.cmc_rules.specs.Chains.{readiness_reason, trigger_reason}
use Rattle.cmc_rules.specs.Readiness.{readiness, ready_of, ready_call, ready_condition, ready_status, is_settled}
use Rattle.cmc_rules.specs.Trigger.{trigger, for_certificate as trigger_for, for_option, for_reason, frame_of, is_in_back_off, is_issuing, issue_call, issuing_status, with_issuing}
use Rattle.cmc_safety.proofs.NextCalls.{IsCallAt}
use Rattle.cmc_load_laws.specs.Measure.{acts}

-- ---- roles that only make the call of their act

pub only_first : (stage : Stage) (role : Role) (seen : Views) (since : ℤ) (does : Act) (after : Order → Value → Option Call) (call : Call) → role ≢ Issuing → ((order : Order) (value : Value) → after order value ≡ None)
    → IsNextCall stage does after call → IsCallAt stage role seen since call → IsFirstCall does call
only_first Fresh role seen since does after call other none next at = next
only_first (Given order value) role seen since does after call other none next at = absurd (let e : None ≡ Some call = sym (none order value) ∙ next in cc e)
only_first Read role seen since does after call other none next (inl at) = absurd (other at.issues.issuing)
only_first Read role seen since does after call other none next (inr at) = absurd (other at.stands_in.issuing)
only_first Saved role seen since does after call other none next at = absurd (other at.issues.issuing)
only_first (Asked order) role seen since does after call other none next at = absurd next
only_first Wrote role seen since does after call other none next at = absurd next
only_first (Refused entry obstacle) role seen since does after call other none next at = absurd next
only_first Barred role seen since does after call other none next at = absurd next

pub first_acts : (does : Act) (call : Call) → IsFirstCall does call → acts does ≡ true
first_acts Nothing call first = absurd first
first_acts (Calls made) call first = refl
first_acts (Asks order) call first = absurd first
first_acts (Issue plan) call first = refl
first_acts (Temporary plan) call first = refl

-- ---- the write of a Certificate's status

-- the call writes this status of the Certificate that is seen, at its version
pub record IsStatusWrite (seen : Views) (P : Certificate → CertStatus → Type 0) (call : Call) : Type 0 where
  pub certificate : Certificate
  pub status : CertStatus
  pub sees : seen.certificate ≡ Some certificate
  pub is : call ≡ UpdateStatus (Cert (record certificate { status = status })) certificate.meta.version
  pub so : P certificate status

abbrev OfStatus : Views → (Certificate → CertStatus → Type 0) → Act → Type 0
OfStatus seen P Nothing = Unit {0}
OfStatus seen P (Calls call) = IsStatusWrite seen P call
OfStatus seen P other = ⊥

either : (seen : Views) (P : Certificate → CertStatus → Type 0) (b : Bool) (x y : Act) → OfStatus seen P x → OfStatus seen P y → OfStatus seen P (if b then x else y)
either seen P true x y one other = one
either seen P false x y one other = other

first_status : (seen : Views) (P : Certificate → CertStatus → Type 0) (does : Act) (call : Call) → OfStatus seen P does → IsFirstCall does call → IsStatusWrite seen P call
first_status seen P Nothing call of first = absurd first
first_status seen P (Calls made) call of first = subst (IsStatusWrite seen P) (sym first) of
first_status seen P (Asks order) call of first = absurd first
first_status seen P (Issue plan) call of first = absurd of
first_status seen P (Temporary plan) call of first = absurd of

-- ---- the trigger

abbrev pub IsAskedFor : ℤ → Certificate → CertStatus → Type 0
IsAskedFor now c status = (reason : Reason) × (status ≡ issuing_status now reason c.status)

of_reason : (now : ℤ) (seen : Views) (c : Certificate) (reason : Option Reason) → seen.certificate ≡ Some c → OfStatus seen (IsAskedFor now) (for_reason now seen.requests c reason)
unfolding issue_call with_issuing
of_reason now seen c None sees = tt
of_reason now seen c (Some reason) sees =
    either seen (IsAskedFor now) (is_in_back_off now seen.requests c) Nothing (issue_call now reason c) tt (record { certificate = c; status = issuing_status now reason c.status; sees = sees; is = refl; so = (reason, refl) })

of_trigger : (now : ℤ) (seen : Views) (o : Option Certificate) → seen.certificate ≡ o → OfStatus seen (IsAskedFor now) (for_option now seen.secret seen.requests o)
unfolding trigger_for
of_trigger now seen None sees = tt
of_trigger now seen (Some c) sees =
    either seen (IsAskedFor now) (is_issuing c) Nothing (for_reason now seen.requests c (trigger_reason (frame_of now c) c seen.secret seen.requests)) tt
    (of_reason now seen c (trigger_reason (frame_of now c) c seen.secret seen.requests) sees)

pub trigger_write : (now : ℤ) (seen : Views) (call : Call) → IsFirstCall (trigger seen now) call → IsStatusWrite seen (IsAskedFor now) call
unfolding trigger
trigger_write now seen call first = first_status seen (IsAskedFor now) (for_option now seen.secret seen.requests seen.certificate) call (of_trigger now seen seen.certificate refl) first

-- ---- readiness

abbrev pub status_ready : ℤ → Views → Certificate → CertStatus
status_ready now seen c = ready_status (ready_condition now (readiness_reason (frame_of now c) c seen.secret seen.requests)) (frame_of now c).renew (pair_at seen.secret) c.status

abbrev pub IsMadeReady : ℤ → Views → Certificate → CertStatus → Type 0
IsMadeReady now seen c status = status ≡ status_ready now seen c

of_readiness : (now : ℤ) (seen : Views) (o : Option Certificate) → seen.certificate ≡ o → OfStatus seen (IsMadeReady now seen) (ready_of now seen.secret seen.requests o)
unfolding ready_call
of_readiness now seen None sees = tt
of_readiness now seen (Some c) sees =
    either seen (IsMadeReady now seen) (is_settled (ready_condition now (readiness_reason (frame_of now c) c seen.secret seen.requests)) (frame_of now c).renew (pair_at seen.secret) c.status) Nothing
    (ready_call (ready_condition now (readiness_reason (frame_of now c) c seen.secret seen.requests)) (frame_of now c).renew (pair_at seen.secret) c) tt
    (record { certificate = c; status = status_ready now seen c; sees = sees; is = refl; so = refl })

pub readiness_write : (now : ℤ) (seen : Views) (call : Call) → IsFirstCall (readiness seen now) call → IsStatusWrite seen (IsMadeReady now seen) call
unfolding readiness
readiness_write now seen call first = first_status seen (IsMadeReady now seen) (ready_of now seen.secret seen.requests seen.certificate) call (of_readiness now seen seen.certificate refl) first
