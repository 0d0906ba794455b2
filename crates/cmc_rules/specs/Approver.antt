-- Which requests the approver judges, and what it writes (cert-manager.io/v1 `CertificateRequest`, conditions Approved and Denied).
use Rattle.std.specs.Prelude.{ℕ, ℤ, ◌++◌, Bool, true, false, ◌&&◌, ◌||◌, List, codes, Option, Some, None, if◌then◌else◌}
use Rattle.std.specs.List.{list_any}
use Rattle.std.specs.Str.{bytes_eq}
use Rattle.cmc_meta.specs.declared.conditions.Condition.{Condition}
use Rattle.cmc_meta.specs.declared.conditions.ConditionKind.TheVariants as kinds
use Rattle.cmc_meta.specs.declared.conditions.Tri.TheVariants as tri
use Rattle.cmc_meta.specs.ConditionLists.{transitioned}
use Rattle.cmc_policy_rules.specs.declared.decision.Field.{Field}
use Rattle.cmc_policy_rules.specs.declared.decision.Field.TheVariants as fields
use Rattle.cmc_objects.specs.declared.issuer.IssuerRef.{IssuerRef}
use Rattle.cmc_objects.specs.declared.orders.Rules.{Rules}
use Rattle.cmc_objects.specs.declared.orders.JudgeOrder.{JudgeOrder}
use Rattle.cmc_objects.specs.declared.orders.Order.{Order}
use Rattle.cmc_objects.specs.declared.orders.Order.TheVariants as orders
use Rattle.cmc_objects.specs.declared.request.CertificateRequest.{CertificateRequest}
use Rattle.cmc_objects.specs.declared.request.RequestStatus.{RequestStatus}
use Rattle.cmc_objects.specs.declared.object.Object.TheVariants.{Request}
use Rattle.cmc_objects.specs.declared.call.Call.{Call}
use Rattle.cmc_objects.specs.declared.call.Call.TheVariants.{UpdateStatus}
use Rattle.cmc_objects.specs.Defaults.{issuer_group}
use Rattle.cmc_objects.specs.Requests.{is_approved, is_denied}
use Rattle.cmc_answers.specs.declared.denial.Denial.{Denial}
use Rattle.cmc_answers.specs.declared.denial.Denial.TheVariants as denials
use Rattle.cmc_answers.specs.Denials.{denial_of}
use Rattle.cmc_pass.specs.declared.pass.Views.{Views}
use Rattle.cmc_pass.specs.declared.pass.Desk.{Desk}
use Rattle.cmc_pass.specs.declared.pass.Act.{Act}
use Rattle.cmc_pass.specs.declared.pass.Act.TheVariants.{Nothing, Ask as Asks}
use Rattle.cmc_pass.specs.declared.value.Value.{Value}
use Rattle.cmc_pass.specs.declared.value.Value.TheVariants.{Made, Signed, Answered, Judged}

-- ---- the verdict

-- what a policy's member for this is called
abbrev pub field_name : Field → List ℕ
field_name fields.CommonName = codes "commonName"
field_name fields.DnsNames = codes "dnsNames"
field_name fields.IpAddresses = codes "ipAddresses"
field_name fields.Uris = codes "uris"
field_name fields.EmailAddresses = codes "emailAddresses"
field_name fields.Usages = codes "usages"
field_name fields.IsCA = codes "isCA"
field_name fields.MinDuration = codes "minDuration"
field_name fields.MaxDuration = codes "maxDuration"
field_name fields.Algorithm = codes "algorithm"
field_name fields.MinSize = codes "minSize"
field_name fields.MaxSize = codes "maxSize"

-- why a request is denied, in words
abbrev pub denial_text : Denial → List ℕ
denial_text denials.Unreadable = codes "Certificate request has a refused name"
denial_text denials.Refused = codes "Certificate request has a refused name"
denial_text (denials.Policy name field) = codes "Policy " ++ name ++ codes " does not allow " ++ field_name field
denial_text denials.Unbound = codes "No policy applies to the request"

unfoldable pub approval : ℤ → Condition
approval moment = record {
  kind = kinds.Approved;
  status = tri.True;
  reason = codes "cert-manager.io";
  message = codes "Certificate request has been approved by cert-manager.io";
  since = moment;
}

unfoldable pub denied_for : ℤ → Denial → Condition
denied_for moment denial = record { kind = kinds.Denied; status = tri.True; reason = codes "cert-manager.io"; message = denial_text denial; since = moment }

-- the status with the verdict, and its write at the version that was seen
unfoldable pub judged_status : Condition → RequestStatus → RequestStatus
judged_status verdict status = record status { conditions = transitioned status.conditions verdict }

unfoldable pub verdict_call : Condition → CertificateRequest → Call
verdict_call verdict r = UpdateStatus (Request (record r { status = judged_status verdict r.status })) r.meta.version

-- ---- the table

-- the issuer is one of these, or all are meant
abbrev pub is_listed_issuer : List ℕ → List (List ℕ) → Bool
is_listed_issuer issuer names = list_any (λ name. bytes_eq name issuer || bytes_eq name (codes "*")) names

-- the approver judges requests to these issuers of cert-manager's own group
abbrev pub is_covered : Rules → IssuerRef → Bool
is_covered rules issuer = bytes_eq (issuer_group issuer) (codes "cert-manager.io") && is_listed_issuer issuer.name rules.issuers

unfoldable pub ask_judgement : CertificateRequest → Rules → Act
ask_judgement r rules = Asks (orders.Judge (record { request = r; rules = rules }))

-- a request that has a verdict keeps it
abbrev pub judge_one : Rules → CertificateRequest → Act
judge_one rules r = if is_approved r || is_denied r then Nothing else (if is_covered rules r.spec.issuer then ask_judgement r rules else Nothing)

abbrev pub judge_of : Rules → Option CertificateRequest → Act
judge_of rules None = Nothing
judge_of rules (Some r) = judge_one rules r

unfoldable pub approver : Views → Desk → Act
approver views desk = judge_of desk.rules views.request

-- ---- what follows a value: on a yes the approval, and on a no the denial with its reason

abbrev pub verdict_by : ℤ → Bool → Option Denial → Option Condition
verdict_by moment true denial = Some (approval moment)
verdict_by moment false None = None
verdict_by moment false (Some denial) = Some (denied_for moment denial)

abbrev pub judged_by : CertificateRequest → Option Condition → Option Call
judged_by r None = None
judged_by r (Some verdict) = Some (verdict_call verdict r)

abbrev pub judged_for : Option CertificateRequest → Option Condition → Option Call
judged_for None verdict = None
judged_for (Some r) verdict = judged_by r verdict

abbrev pub verdict_on : ℤ → JudgeOrder → Value → Option Condition
verdict_on moment order (Made file) = None
verdict_on moment order (Signed signature) = None
verdict_on moment order (Answered answer) = None
verdict_on moment order (Judged approved) = verdict_by moment approved (denial_of order)

abbrev pub verdict_of : ℤ → Order → Value → Option Condition
verdict_of moment (orders.Key order) value = None
verdict_of moment (orders.Csr order) value = None
verdict_of moment (orders.Sign order) value = None
verdict_of moment (orders.Judge order) value = verdict_on moment order value

unfoldable pub judged_after : Views → ℤ → Order → Value → Option Call
judged_after views moment order value = judged_for views.request (verdict_of moment order value)
