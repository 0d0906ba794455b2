-- The status updates that users make by the steps approve, deny, answer and renew.
use Rattle.std.specs.Prelude.{ℕ, ℤ, Bool, false, ◌&&◌, List, codes, find, Option, Some, None, option_map, option_and_then}
use Rattle.std.specs.Str.{bytes_eq}
use Rattle.std.specs.FinMap as finite
use Rattle.cmc_meta.specs.declared.key.Key.{Key}
use Rattle.cmc_meta.specs.declared.conditions.Condition.{Condition}
use Rattle.cmc_meta.specs.declared.conditions.ConditionKind.{ConditionKind}
use Rattle.cmc_meta.specs.declared.conditions.ConditionKind.TheVariants.{Issuing, Approved, Denied}
use Rattle.cmc_meta.specs.declared.conditions.Tri.TheVariants.{True}
use Rattle.cmc_meta.specs.ConditionLists.{transitioned}
use Rattle.cmc_objects.specs.declared.certificate.Certificate.{Certificate}
use Rattle.cmc_objects.specs.declared.request.CertificateRequest.{CertificateRequest}
use Rattle.cmc_objects.specs.declared.request.RequestStatus.{RequestStatus}
use Rattle.cmc_objects.specs.declared.object.Object.{Object}
use Rattle.cmc_objects.specs.declared.object.Object.TheVariants.{Cert, Request, Secret}
use Rattle.cmc_objects.specs.declared.call.Call.{Call}
use Rattle.cmc_objects.specs.declared.call.Call.TheVariants.{UpdateStatus}
use Rattle.cmc_objects.specs.declared.rows.SignRow.{SignRow}
use Rattle.cmc_model.specs.Objects.{Objects}
use Rattle.cmc_match.specs.Marks.{has_text}
use Rattle.cmc_match.specs.Revisions.{is_of_revision}
use Rattle.cmc_answers.specs.Signings.{signing_of}
use Rattle.cmc_rules.specs.IssuerAnswers.{answered}

-- ---- the request that a step speaks of

-- the request is annotated as one for this revision of the Certificate, in its namespace
unfoldable pub is_request_for : Key → ℕ → CertificateRequest → Bool
is_request_for certificate revision r =
    bytes_eq r.meta.namespace certificate.namespace
    && (has_text r.meta.annotations (codes "cert-manager.io/certificate-name") certificate.name && is_of_revision revision r)

abbrev pub is_object_for : Key → ℕ → Object → Bool
is_object_for certificate revision (Request r) = is_request_for certificate revision r
is_object_for certificate revision (Cert c) = false
is_object_for certificate revision (Secret s) = false

abbrev pub as_request : Object → Option CertificateRequest
as_request (Request r) = Some r
as_request (Cert c) = None
as_request (Secret s) = None

-- the first of the objects, which stand in the order of their keys, that is such a request: the one of least name
abbrev pub first_for : Key → ℕ → List (Key × Object) → Option CertificateRequest
first_for certificate revision entries = option_and_then (λ e. as_request e.1) (find (λ e. is_object_for certificate revision e.1) entries)

abbrev pub request_for : Objects → Key → ℕ → Option CertificateRequest
request_for objects certificate revision = first_for certificate revision (finite.entries objects)

-- ---- the status updates, each at the version that stands

abbrev pub with_status_of : CertificateRequest → RequestStatus → Call
with_status_of r status = UpdateStatus (Request (record r { status = status })) r.meta.version

-- a verdict of the script on the request
unfoldable pub verdict : ConditionKind → List ℕ → ℤ → Condition
verdict kind message moment = record { kind = kind; status = True; reason = codes "Script"; message = message; since = moment }

unfoldable pub judge_call : Condition → CertificateRequest → Call
judge_call condition r = with_status_of r (record r.status { conditions = transitioned r.status.conditions condition })

-- the row's answer, as the first question about the request gets it from its issuer
unfoldable pub answer_call : SignRow → ℤ → CertificateRequest → Call
answer_call row moment r = with_status_of r (answered r.status (signing_of row 1 r moment) moment)

-- a Certificate that a user wants issued again
unfoldable pub manual_condition : ℤ → Condition
manual_condition moment = record {
  kind = Issuing;
  status = True;
  reason = codes "ManuallyTriggered";
  message = codes "Certificate re-issuance manually triggered";
  since = moment;
}

unfoldable pub renew_call : ℤ → Certificate → Call
renew_call moment c =
    UpdateStatus (Cert (record c { status = record c.status { conditions = transitioned c.status.conditions (manual_condition moment) } })) c.meta.version

abbrev pub renewal_of : ℤ → Option Object → Option Call
renewal_of moment (Some (Cert c)) = Some (renew_call moment c)
renewal_of moment (Some (Request r)) = None
renewal_of moment (Some (Secret s)) = None
renewal_of moment None = None

-- ---- what the steps write at this moment; nothing where no such request, or no Certificate, stands

abbrev pub approval_call : ℤ → Objects → Key → ℕ → Option Call
approval_call moment objects certificate revision = option_map (judge_call (verdict Approved (codes "approved by the script") moment)) (request_for objects certificate revision)

abbrev pub denial : ℤ → Objects → Key → ℕ → Option Call
denial moment objects certificate revision = option_map (judge_call (verdict Denied (codes "denied by the script") moment)) (request_for objects certificate revision)

abbrev pub reply_of_issuer : ℤ → Objects → Key → ℕ → SignRow → Option Call
reply_of_issuer moment objects certificate revision row = option_map (answer_call row moment) (request_for objects certificate revision)
