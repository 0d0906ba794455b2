-- At rest each Certificate is Ready, in back-off, or under way.
use Rattle.std.proofs.Common.{◌≡◌, List, Option, Some, None, Bool, true, false, refl, ap, subst, inl, inr, option_and_then}
use Rattle.std.specs.Prelude.{IsSome, if◌then◌else◌, not}
use Rattle.cmc_meta.specs.declared.key.Key.{Key}
use Rattle.cmc_meta.specs.declared.conditions.ConditionKind.TheVariants.{Ready}
use Rattle.cmc_objects.specs.declared.certificate.Certificate.{Certificate}
use Rattle.cmc_objects.specs.declared.object.Object.{Object}
use Rattle.cmc_objects.specs.declared.object.Object.TheVariants.{Cert, Request, Secret}
use Rattle.cmc_objects.specs.declared.role.Role.TheVariants.{Trigger, Issuing, Readiness}
use Rattle.cmc_objects.specs.declared.entry.Entry.{Entry}
use Rattle.cmc_objects.specs.Requests.{is_stated}
use Rattle.cmc_summary.specs.declared.summary.WaitName.{WaitName}
use Rattle.cmc_summary.specs.declared.summary.WaitName.TheVariants.{Stopped}
use Rattle.cmc_model.specs.Objects.{object_at}
use Rattle.cmc_model.specs.Histories.{Setting, moment, objects}
use Rattle.cmc_rules.specs.Rest.{IsAtRest}
use Rattle.cmc_rules.specs.Runs.{IsRun}
use Rattle.cmc_rules.specs.Trigger.{is_issuing}
use Rattle.cmc_rules.specs.Views.{certificate_in, certificate_at, target_at, requests_of, views_of, views_in, present_views}
use Rattle.cmc_waits.specs.Waits.{is_stopped, wait_of, wait_of_seen, wait_in}
use Rattle.cmc_waits.proofs.EachNamed.{each_named, still}
use Rattle.cmc_waits.proofs.EachWait.{trigger_rests, readiness_rests}
use Rattle.cmc_waits.proofs.Stuck.{waits_to_try}
use Rattle.cmc_run_laws.specs.Settled.{IsReadyOrUnderWay}

is_certificate : (o : Option Object) (c : Certificate) → option_and_then certificate_in o ≡ Some c → o ≡ Some (Cert c)
is_certificate None c is = absurd (cc is)
is_certificate (Some (Cert d)) c is = let same : d ≡ c = cc is in ap (λ (x : Certificate). Some (Cert x)) same
is_certificate (Some (Request r)) c is = absurd (cc is)
is_certificate (Some (Secret k)) c is = absurd (cc is)

pub stands : (s : Setting) (h : List Entry) (key : Key) (c : Certificate) → certificate_at (objects s h) key ≡ Some c → object_at (objects s h) key ≡ Some (Cert c)
stands s h key c is = is_certificate (object_at (objects s h) key) c is

-- what issuing sees of a Certificate that exists
pub seen_certificate : (s : Setting) (h : List Entry) (key : Key) (c : Certificate) → certificate_at (objects s h) key ≡ Some c → (present_views s h Issuing key).certificate ≡ Some c
unfolding views_in views_of
seen_certificate s h key c is = is

free_wait : (stopped : Bool) (x : Option WaitName) → stopped ≡ false → IsSome (if stopped then Some Stopped else x) → IsSome x
free_wait true x off some = absurd (cc off)
free_wait false x off some = some

waits_on : (s : Setting) (h : List Entry) (key : Key) (c : Certificate) → IsRun s h → IsAtRest s h → is_stopped s h ≡ false → certificate_at (objects s h) key ≡ Some c → is_stated Ready c.status.conditions ≡ false
    → IsSome (wait_of (moment s h) (present_views s h Issuing key) c)
waits_on s h key c run rest free is waiting =
    subst (λ (x : Option Certificate). IsSome (wait_of_seen (moment s h) (present_views s h Issuing key) x)) (seen_certificate s h key c is)
    (free_wait (is_stopped s h) (wait_in (moment s h) (present_views s h Issuing key)) free (each_named s h run rest key (Cert c) (stands s h key c is) (ap not waiting)))

settled_by : (ready issuing : Bool) (s : Setting) (h : List Entry) (key : Key) (c : Certificate) → is_stated Ready c.status.conditions ≡ ready → is_issuing c ≡ issuing
    → IsRun s h → IsAtRest s h → is_stopped s h ≡ false → certificate_at (objects s h) key ≡ Some c → IsReadyOrUnderWay (moment s h) (present_views s h Issuing key) c
settled_by true issuing s h key c ready on run rest free is = inl ready
settled_by false true s h key c ready on run rest free is = inr (inr (record { issuing = on; waits = waits_on s h key c run rest free is ready }))
settled_by false false s h key c ready on run rest free is =
    let there = stands s h key c is in
    inr (inl (record {
      idle = on;
      waits = waits_to_try (moment s h) (target_at (objects s h) c) (requests_of (objects s h) c) c on
          (trigger_rests s h key c is (still s h run rest free Trigger key (Cert c) there))
          (readiness_rests s h key c is (still s h run rest free Readiness key (Cert c) there)) ready;
    }))

pub settled : (s : Setting) (h : List Entry) → IsRun s h → IsAtRest s h → is_stopped s h ≡ false → (key : Key) (c : Certificate) → certificate_at (objects s h) key ≡ Some c
    → IsReadyOrUnderWay (moment s h) (present_views s h Issuing key) c
settled s h run rest free key c is = settled_by (is_stated Ready c.status.conditions) (is_issuing c) s h key c refl refl run rest free is
