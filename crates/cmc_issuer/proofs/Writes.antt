-- The write of a status keeps to the issuer's rights, and no rule refuses it.
use Rattle.std.proofs.Common.{◌≡◌, ℤ, Bool, true, Some, None, refl}
use Rattle.cmc_meta.specs.declared.conditions.ConditionKind.TheVariants as kinds
use Rattle.cmc_objects.specs.declared.orders.Signing.{Signing}
use Rattle.cmc_objects.specs.declared.orders.Signing.TheVariants.{Issued, Pending, Failed}
use Rattle.cmc_objects.specs.declared.request.CertificateRequest.{CertificateRequest}
use Rattle.cmc_objects.specs.declared.request.RequestStatus.{RequestStatus}
use Rattle.cmc_objects.specs.declared.object.Object.TheVariants.{Request}
use Rattle.cmc_objects.specs.declared.role.Role.TheVariants.{Issuer}
use Rattle.cmc_model.specs.Admission.{refusing_rule}
use Rattle.cmc_objects.specs.Objects.{numbered}
use Rattle.cmc_model.specs.Stored.{with_status}
use Rattle.cmc_pass.specs.declared.pass.Views.{Views}
use Rattle.cmc_pass.specs.declared.value.Value.{Value}
use Rattle.cmc_rules.specs.IssuerAnswers.{issued_condition, pending_condition, failed_condition, answered}
use Rattle.cmc_rules.specs.Dates.{StaysDated}
use Rattle.cmc_rules.specs.Issuer.{denied_condition, denied_status, status_call}
use Rattle.cmc_rules.specs.Rights.{ChangesAnswer}
use Rattle.cmc_rules.specs.SeenObjects.{OnSeen}
use Rattle.cmc_rules.specs.Sound.{IsOrdinary, IsWriteAfterValue}
use Rattle.cmc_rules.proofs.Sights.{seen_request}
use Rattle.cmc_rules.proofs.Conditions.{others-renewed, others-transitioned}
use Rattle.cmc_rules.proofs.Dating.{dated_transitioned}
use Rattle.cmc_rules.proofs.Verdicts.{AreSettled, others_pass}

-- ---- the statuses

pub answers : (status : RequestStatus) (answer : Signing) (moment : ℤ) → ChangesAnswer status (answered status answer moment)
unfolding answered issued_condition pending_condition failed_condition
answers status (Issued certificate ca) moment = record { rest = refl; others = others-transitioned status.conditions (issued_condition moment) }
answers status Pending moment = record { rest = refl; others = others-renewed kinds.Ready status.conditions (pending_condition moment) refl }
answers status (Failed message) moment = record { rest = refl; others = others-transitioned status.conditions (failed_condition message moment) }

pub denies : (status : RequestStatus) (moment : ℤ) → ChangesAnswer status (denied_status status moment)
unfolding denied_status denied_condition
denies status moment = record { rest = refl; others = others-transitioned status.conditions (denied_condition moment) }

pub dated_denied : (r : CertificateRequest) (moment : ℤ) → StaysDated moment (Some (Request r)) (Some (Request (record r { status = denied_status r.status moment })))
unfolding denied_status denied_condition
dated_denied r moment timed dated =
    record { conditions = dated_transitioned r.status.conditions (denied_condition moment) dated.conditions timed; failure = timed }

-- ---- the write

passes_of : (r : CertificateRequest) (status : RequestStatus) (taken : Bool) → AreSettled r.status.conditions → ChangesAnswer r.status status
    → refusing_rule (Some (Request r)) (Request (record r { status = status })) true taken ≡ None
unfolding refusing_rule
passes_of r status taken settled changes = others_pass kinds.Ready r.status.conditions status.conditions changes.others refl refl settled

pub marking : (seen : Views) (now : ℤ) (r : CertificateRequest) (status : RequestStatus) → seen.request ≡ Some r → AreSettled r.status.conditions → ChangesAnswer r.status status
    → StaysDated now (Some (Request r)) (Some (Request (record r { status = status })))
    → OnSeen (IsOrdinary Issuer now) seen (status_call status r)
unfolding status_call OnSeen numbered with_status
marking seen now r status sees settled changes dates = record {
  old = Request r;
  sees = seen_request seen r sees;
  key = refl;
  version = refl;
  changes = λ next. record {
    rights = (refl, refl, changes);
    dated = dates;
    revision = refl;
    no_secret = λ written issuing of. absurd (cc issuing);
    no_approval = λ old new role was made before after. absurd (cc role);
    no_request = λ made before after. absurd (cc before);
  };
  passes = λ taken. passes_of r status taken settled changes;
}

pub answering : (seen : Views) (now : ℤ) (value : Value) (r : CertificateRequest) (status : RequestStatus) → seen.request ≡ Some r → AreSettled r.status.conditions → ChangesAnswer r.status status
    → StaysDated now (Some (Request r)) (Some (Request (record r { status = status })))
    → OnSeen (IsWriteAfterValue Issuer seen now value) seen (status_call status r)
unfolding status_call OnSeen numbered with_status
answering seen now value r status sees settled changes dates = record {
  old = Request r;
  sees = seen_request seen r sees;
  key = refl;
  version = refl;
  changes = λ next. record {
    rights = (refl, refl, changes);
    dated = dates;
    revision = refl;
    no_secret = λ written issuing of. absurd (cc issuing);
    approval = λ old new role was made before after. absurd (cc role);
    made = λ made before after. absurd (cc before);
  };
  passes = λ taken. passes_of r status taken settled changes;
}
