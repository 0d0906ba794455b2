-- Which requests an issuer is asked about, and what its controller writes (cert-manager.io/v1 `CertificateRequest`, condition Ready).
use Rattle.std.specs.Prelude.{◌≡◌, ◌+◌, ◌+ℤ◌, ℕ, ℤ, pos, Bool, true, false, not, ◌&&◌, int_lt, List, codes, Option, Some, None, if◌then◌else◌}
use Rattle.std.specs.Str.{bytes_eq}
use Rattle.cmc_meta.specs.declared.conditions.Condition.{Condition}
use Rattle.cmc_meta.specs.declared.conditions.ConditionKind.TheVariants as kinds
use Rattle.cmc_meta.specs.declared.conditions.Tri.TheVariants as tri
use Rattle.cmc_meta.specs.declared.key.Key.{Key}
use Rattle.cmc_meta.specs.declared.key.Kind.TheVariants.{Certificate}
use Rattle.cmc_meta.specs.ConditionLists.{condition_at, transitioned}
use Rattle.cmc_objects.specs.declared.issuer.IssuerRef.{IssuerRef}
use Rattle.cmc_objects.specs.declared.orders.Order.{Order}
use Rattle.cmc_objects.specs.declared.orders.Order.TheVariants as orders
use Rattle.cmc_objects.specs.declared.request.CertificateRequest.{CertificateRequest}
use Rattle.cmc_objects.specs.declared.request.RequestStatus.{RequestStatus}
use Rattle.cmc_objects.specs.declared.object.Object.TheVariants.{Request}
use Rattle.cmc_objects.specs.declared.call.Call.{Call}
use Rattle.cmc_objects.specs.declared.call.Call.TheVariants.{UpdateStatus}
use Rattle.cmc_objects.specs.Defaults.{issuer_group}
use Rattle.cmc_objects.specs.Requests.{Signs, is_approved, is_denied, is_request_form, is_row_form}
use Rattle.cmc_pass.specs.declared.pass.Views.{Views}
use Rattle.cmc_pass.specs.declared.pass.Desk.{Desk}
use Rattle.cmc_pass.specs.declared.pass.Act.{Act}
use Rattle.cmc_pass.specs.declared.pass.Act.TheVariants.{Nothing, Call as Calls, Ask as Asks}
use Rattle.cmc_pass.specs.declared.value.Value.{Value}
use Rattle.cmc_pass.specs.declared.value.Value.TheVariants.{Made, Signed, Answered, Judged}
use Rattle.cmc_rules.specs.IssuerAnswers.{answer_condition, answered}
use Rattle.cmc_rules.specs.Desks.{certificate_named}
use Rattle.cmc_rules.specs.Orders.{reply_row}

-- ---- what the request says of itself

-- the condition stands, and has this reason
abbrev pub gives : List ℕ → Option Condition → Bool
gives reason None = false
gives reason (Some ready) = bytes_eq ready.reason reason

abbrev pub has_reason : List ℕ → CertificateRequest → Bool
has_reason reason r = gives reason (condition_at r.status.conditions kinds.Ready)

-- the issuer is one of cert-manager's own group
abbrev pub is_own : IssuerRef → Bool
is_own issuer = bytes_eq (issuer_group issuer) (codes "cert-manager.io")

-- an issuer is asked about approved requests of its own group that it has neither granted nor refused
abbrev pub is_open : CertificateRequest → Bool
is_open r = is_approved r && (not (has_reason (codes "Issued") r) && (not (has_reason (codes "Failed") r) && is_own r.spec.issuer))

-- an issuer that was not ready is asked again a minute after the condition's moment
abbrev pub is_waiting_on : ℤ → Option Condition → Bool
is_waiting_on moment None = false
is_waiting_on moment (Some ready) = bytes_eq ready.reason (codes "Pending") && int_lt moment (ready.since +ℤ pos 60)

abbrev pub is_request_waiting : ℤ → CertificateRequest → Bool
is_request_waiting moment r = is_waiting_on moment (condition_at r.status.conditions kinds.Ready)

-- ---- the writes

-- the status at the version that was seen
unfoldable pub status_call : RequestStatus → CertificateRequest → Call
status_call status r = UpdateStatus (Request (record r { status = status })) r.meta.version

unfoldable pub denied_condition : ℤ → Condition
denied_condition moment = answer_condition tri.False (codes "Denied") (codes "The CertificateRequest was denied by an approval controller") moment

-- a denied request has failed
unfoldable pub denied_status : RequestStatus → ℤ → RequestStatus
denied_status status moment = record status { conditions = transitioned status.conditions (denied_condition moment); failure = Some moment }

abbrev pub deny : ℤ → CertificateRequest → Act
deny moment r = if has_reason (codes "Denied") r then Nothing else Calls (status_call (denied_status r.status moment) r)

-- ---- the question

-- the Certificate that the request is for
abbrev pub certificate_of : CertificateRequest → Key
certificate_of r = record { kind = Certificate; namespace = r.meta.namespace; name = certificate_named r }

-- the question after those that were asked for this Certificate, with the answer that is set out for it
unfoldable pub sign_order : ℤ → Desk → CertificateRequest → Signs
sign_order moment desk r = record { number = desk.asked + 1; request = r; moment = moment; row = reply_row desk.material (certificate_of r) desk.asked }

unfoldable pub ask_issuer : ℤ → Desk → CertificateRequest → Act
ask_issuer moment desk r = Asks (orders.Sign (sign_order moment desk r))

-- the request is of the form that can be asked about, and the answer that is set out of a form that can be given
abbrev pub HasRequestForm : Option CertificateRequest → Type 0
HasRequestForm None = Unit {0}
HasRequestForm (Some r) = is_request_form r ≡ true

abbrev pub HasReplyRowForm : Option CertificateRequest → Desk → Type 0
HasReplyRowForm None desk = Unit {0}
HasReplyRowForm (Some r) desk = is_row_form (reply_row desk.material (certificate_of r) desk.asked) ≡ true

-- ---- the table

abbrev pub grant : ℤ → Desk → CertificateRequest → Act
grant moment desk r = if is_open r then (if is_request_waiting moment r then Nothing else ask_issuer moment desk r) else Nothing

-- a request that is denied is marked so, whoever its issuer is
abbrev pub grant_one : ℤ → Desk → CertificateRequest → Act
grant_one moment desk r = if is_denied r then deny moment r else grant moment desk r

abbrev pub grant_of : ℤ → Desk → Option CertificateRequest → Act
grant_of moment desk None = Nothing
grant_of moment desk (Some r) = grant_one moment desk r

unfoldable pub issuer : Views → ℤ → Desk → Act
issuer views moment desk = grant_of moment desk views.request

-- ---- what follows a value: the status that the answer makes

abbrev pub answered_with : ℤ → CertificateRequest → Value → Option Call
answered_with moment r (Made file) = None
answered_with moment r (Signed signature) = None
answered_with moment r (Answered answer) = Some (status_call (answered r.status answer moment) r)
answered_with moment r (Judged approved) = None

abbrev pub answered_for : ℤ → Option CertificateRequest → Value → Option Call
answered_for moment None value = None
answered_for moment (Some r) value = answered_with moment r value

abbrev pub answered_to : ℤ → Option CertificateRequest → Order → Value → Option Call
answered_to moment request (orders.Key order) value = None
answered_to moment request (orders.Csr order) value = None
answered_to moment request (orders.Sign order) value = answered_for moment request value
answered_to moment request (orders.Judge order) value = None

unfoldable pub answered_after : Views → ℤ → Order → Value → Option Call
answered_after views moment order value = answered_to moment views.request order value
