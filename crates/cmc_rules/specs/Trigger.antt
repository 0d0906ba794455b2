-- When a controller asks for the issuance of a Certificate: the condition Issuing.
use Rattle.std.specs.Prelude.{ℤ, Bool, false, not, ◌&&◌, ◌++◌, codes, List, Option, Some, None, if◌then◌else◌, int_lt}
use Rattle.cmc_meta.specs.declared.conditions.Condition.{Condition}
use Rattle.cmc_meta.specs.declared.conditions.ConditionKind.TheVariants.{Issuing}
use Rattle.cmc_meta.specs.declared.conditions.Tri.TheVariants.{True}
use Rattle.cmc_meta.specs.ConditionLists.{transitioned}
use Rattle.cmc_objects.specs.declared.certificate.Certificate.{Certificate}
use Rattle.cmc_objects.specs.declared.certificate.CertSpec.{CertSpec}
use Rattle.cmc_objects.specs.declared.certificate.CertStatus.{CertStatus}
use Rattle.cmc_objects.specs.declared.request.CertificateRequest.{CertificateRequest}
use Rattle.cmc_objects.specs.declared.secret.Secret.{Secret}
use Rattle.cmc_objects.specs.declared.object.Object.TheVariants.{Cert}
use Rattle.cmc_objects.specs.declared.call.Call.TheVariants.{UpdateStatus}
use Rattle.cmc_objects.specs.Requests.{is_stated}
use Rattle.cmc_policies.specs.declared.facts.Frame.{Frame}
use Rattle.cmc_policies.specs.declared.facts.Reason.{Reason}
use Rattle.cmc_policies.specs.Reasons.{reason_name}
use Rattle.cmc_policies.specs.Renewal.{backoff, renew_by}
use Rattle.cmc_pass.specs.declared.pass.Views.{Views}
use Rattle.cmc_pass.specs.declared.pass.Act.{Act}
use Rattle.cmc_pass.specs.declared.pass.Act.TheVariants.{Nothing, Call as Calls}
use Rattle.cmc_match.specs.Matches.{matches}
use Rattle.cmc_match.specs.Revisions.{next_request}
use Rattle.cmc_rules.specs.Chains.{trigger_reason}

-- the Certificate is being issued
abbrev pub is_issuing : Certificate → Bool
is_issuing certificate = is_stated Issuing certificate.status.conditions

-- the moment lies in the back-off after the last failed issuance
abbrev pub is_waiting_since : Option ℤ → CertStatus → ℤ → Bool
is_waiting_since None status moment = false
is_waiting_since (Some last) status moment = int_lt moment (backoff last status.attempts)

abbrev pub is_backing_off : CertStatus → ℤ → Bool
is_backing_off status moment = is_waiting_since status.last_failure status moment

-- what says that the Certificate is to be issued, and why
unfoldable pub issuing_condition : ℤ → Reason → Condition
issuing_condition moment reason = record {
  kind = Issuing;
  status = True;
  reason = reason_name reason;
  message = codes "Certificate must be issued: " ++ reason_name reason;
  since = moment;
}

-- the status, and the Certificate, with that condition
unfoldable pub issuing_status : ℤ → Reason → CertStatus → CertStatus
issuing_status moment reason status = record status { conditions = transitioned status.conditions (issuing_condition moment reason) }

unfoldable pub with_issuing : ℤ → Reason → Certificate → Certificate
with_issuing moment reason certificate = record certificate { status = issuing_status moment reason certificate.status }

-- the write of the status, at the version that was seen
unfoldable pub issue_call : ℤ → Reason → Certificate → Act
issue_call moment reason certificate = Calls (UpdateStatus (Cert (with_issuing moment reason certificate)) certificate.meta.version)

-- exactly one next request stands, and it does not ask for what the specification asks for
abbrev pub is_outrun : CertSpec → Option CertificateRequest → Bool
is_outrun spec None = false
is_outrun spec (Some request) = not (matches spec request)

-- in the back-off nothing is done, unless the specification has outrun the request that failed
abbrev pub is_in_back_off : ℤ → List CertificateRequest → Certificate → Bool
is_in_back_off moment requests certificate =
    is_backing_off certificate.status moment && not (is_outrun certificate.spec (next_request certificate.status.revision requests))

abbrev pub for_reason : ℤ → List CertificateRequest → Certificate → Option Reason → Act
for_reason moment requests certificate None = Nothing
for_reason moment requests certificate (Some reason) = if is_in_back_off moment requests certificate then Nothing else issue_call moment reason certificate

abbrev pub frame_of : ℤ → Certificate → Frame
frame_of moment certificate = record { now = moment; renew = renew_by certificate.spec.renew_percent certificate.spec.renew_before }

-- the issuance is asked for once, where there is a reason and nothing holds it back
unfoldable pub for_certificate : ℤ → Option Secret → List CertificateRequest → Certificate → Act
for_certificate moment secret requests certificate =
    if is_issuing certificate then Nothing
    else for_reason moment requests certificate (trigger_reason (frame_of moment certificate) certificate secret requests)

abbrev pub for_option : ℤ → Option Secret → List CertificateRequest → Option Certificate → Act
for_option moment secret requests None = Nothing
for_option moment secret requests (Some certificate) = for_certificate moment secret requests certificate

unfoldable pub trigger : Views → ℤ → Act
trigger views moment = for_option moment views.secret views.requests views.certificate
