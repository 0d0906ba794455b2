-- The two writes of a Certificate's status: a failure, and the next revision.
use Rattle.std.proofs.Common.{◌≡◌, ◌+◌, ℕ, ℤ, List, Option, Some, refl, inr}
use Rattle.std.specs.Prelude.{codes, unwrap_or}
use Rattle.cmc_objects.specs.declared.certificate.Certificate.{Certificate}
use Rattle.cmc_objects.specs.declared.certificate.CertStatus.{CertStatus}
use Rattle.cmc_objects.specs.declared.object.Object.TheVariants.{Cert}
use Rattle.cmc_objects.specs.declared.role.Role.TheVariants.{Issuing}
use Rattle.cmc_objects.specs.declared.orders.Order.{Order}
use Rattle.cmc_objects.specs.declared.call.Call.{Call}
use Rattle.cmc_policies.specs.Renewal.{IsCertificateTime}
use Rattle.cmc_pass.specs.declared.pass.Views.{Views}
use Rattle.cmc_pass.specs.declared.value.Value.{Value}
use Rattle.cmc_objects.specs.Objects.{numbered}
use Rattle.cmc_model.specs.Stored.{with_status}
use Rattle.cmc_model.proofs.Admission.{certificate_status_passes}
use Rattle.cmc_rules.specs.Dates.{IsDatedStatus}
use Rattle.cmc_rules.specs.Rights.{ChangesIssuance}
use Rattle.cmc_rules.specs.Safety.{IsStatusUpdate}
use Rattle.cmc_rules.specs.SeenObjects.{OnSeen}
use Rattle.cmc_rules.specs.Sound.{IsRaiseOf, IsWithin}
use Rattle.cmc_rules.specs.Issuance.{ended_condition, issued_status, failed_status, status_call, failure}
use Rattle.cmc_rules.proofs.Sights.{seen_certificate}
use Rattle.cmc_rules.proofs.Conditions.{others-transitioned}
use Rattle.cmc_rules.proofs.Dating.{dated_transitioned}

-- ---- a failure

failed_changes : (moment : ℤ) (reason : List ℕ) (status : CertStatus) → ChangesIssuance status (failed_status moment reason status)
unfolding failed_status ended_condition
failed_changes moment reason status =
    record { rest = refl; others = others-transitioned status.conditions (ended_condition moment reason (codes "The certificate request has failed to complete and will be retried")) }

failed_dated : (moment : ℤ) (reason : List ℕ) (status : CertStatus) → IsCertificateTime moment → IsDatedStatus status → IsDatedStatus (failed_status moment reason status)
unfolding failed_status ended_condition
failed_dated moment reason status timed dated = record {
  conditions = dated_transitioned status.conditions (ended_condition moment reason (codes "The certificate request has failed to complete and will be retried")) dated.conditions timed;
  last_failure = timed;
  not_before = dated.not_before;
  not_after = dated.not_after;
  renewal = dated.renewal;
}

failed_revision : (moment : ℤ) (reason : List ℕ) (status : CertStatus) → (failed_status moment reason status).revision ≡ status.revision
unfolding failed_status
failed_revision moment reason status = refl

pub failing : (after : Order → Value → Option Call) (seen : Views) (now : ℤ) (reason : List ℕ) (c : Certificate) → seen.certificate ≡ Some c → IsWithin Issuing after seen now (failure now reason c)
unfolding failure status_call OnSeen numbered with_status
failing after seen now reason c sees = record {
  old = Cert c;
  sees = seen_certificate seen c sees;
  key = refl;
  version = refl;
  changes = λ next. record {
    rights = inr (inr (refl, refl, failed_changes now reason c.status));
    dated = λ timed dated. failed_dated now reason c.status timed dated;
    revision = failed_revision now reason c.status;
    no_secret = λ written issuing is. absurd (cc is);
    no_approval = λ o n approver b a x y. absurd (cc approver);
    no_request = λ made before after. absurd (cc before);
  };
  passes = λ taken. certificate_status_passes (Some (Cert c)) _ taken;
}

-- ---- the next revision

issued_changes : (moment : ℤ) (status : CertStatus) → ChangesIssuance status (issued_status moment status)
unfolding issued_status ended_condition
issued_changes moment status =
    record { rest = refl; others = others-transitioned status.conditions (ended_condition moment (codes "Issued") (codes "The certificate has been successfully issued")) }

issued_dated : (moment : ℤ) (status : CertStatus) → IsCertificateTime moment → IsDatedStatus status → IsDatedStatus (issued_status moment status)
unfolding issued_status ended_condition
issued_dated moment status timed dated = record {
  conditions = dated_transitioned status.conditions (ended_condition moment (codes "Issued") (codes "The certificate has been successfully issued")) dated.conditions timed;
  last_failure = tt;
  not_before = dated.not_before;
  not_after = dated.not_after;
  renewal = dated.renewal;
}

issued_revision : (moment : ℤ) (status : CertStatus) → (issued_status moment status).revision ≡ Some (unwrap_or status.revision 0 + 1)
unfolding issued_status
issued_revision moment status = refl

pub raising : (seen : Views) (now : ℤ) (c : Certificate) → seen.certificate ≡ Some c → OnSeen (IsRaiseOf c now) seen (status_call (issued_status now c.status) c)
unfolding status_call OnSeen numbered with_status
raising seen now c sees = record {
  old = Cert c;
  sees = seen_certificate seen c sees;
  key = refl;
  version = refl;
  changes = λ next. record {
    rights = inr (inr (refl, refl, issued_changes now c.status));
    dated = λ timed dated. issued_dated now c.status timed dated;
    of_it = refl;
    raises = issued_revision now c.status;
  };
  passes = λ taken. certificate_status_passes (Some (Cert c)) _ taken;
}

pub is_status : (status : CertStatus) (c : Certificate) → IsStatusUpdate (status_call status c)
unfolding status_call
is_status status c = tt
