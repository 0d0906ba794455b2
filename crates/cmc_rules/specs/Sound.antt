-- What is proved of the table of each role, and all that a world knows of it. The crate of a role proves its record.
use Rattle.std.specs.Prelude.{◌≡◌, ◌⊎◌, ◌+ℤ◌, ℕ, ℤ, pos, true, false, List, [], Option, Some, None, int_le, if◌then◌else◌}
use Rattle.cmc_meta.specs.declared.conditions.Condition.{Condition}
use Rattle.cmc_meta.specs.declared.conditions.ConditionKind.TheVariants as conditions
use Rattle.cmc_meta.specs.ConditionLists.{condition_at}
use Rattle.cmc_objects.specs.declared.certificate.Certificate.{Certificate}
use Rattle.cmc_objects.specs.declared.certificate.CertStatus.{CertStatus}
use Rattle.cmc_objects.specs.declared.request.CertificateRequest.{CertificateRequest}
use Rattle.cmc_objects.specs.declared.object.Object.{Object}
use Rattle.cmc_objects.specs.declared.object.Object.TheVariants.{Cert, Request, Secret}
use Rattle.cmc_objects.specs.declared.secret.Secret.{Secret as SecretObject}
use Rattle.cmc_objects.specs.declared.orders.Order.{Order}
use Rattle.cmc_objects.specs.declared.orders.Order.TheVariants as orders
use Rattle.cmc_objects.specs.declared.call.Call.{Call}
use Rattle.cmc_objects.specs.declared.role.Role.{Role}
use Rattle.cmc_objects.specs.declared.role.Role.TheVariants as roles
use Rattle.cmc_objects.specs.Objects.{key_of}
use Rattle.cmc_objects.specs.Requests.{is_run_time, is_approved, is_denied}
use Rattle.cmc_der.specs.Keys.{CertificateFields}
use Rattle.cmc_policies.specs.declared.renewal.Renew.{Renew}
use Rattle.cmc_policies.specs.Renewal.{backoff, renewal}
use Rattle.cmc_keys.specs.Kinds.{allows_size}
use Rattle.cmc_match.specs.Facts.{pair_at, IsPair, HasRequestedKey, key_in, certificate_file_in}
use Rattle.cmc_match.specs.Marks.{is_temporary}
use Rattle.cmc_match.specs.Matches.{Matches}
use Rattle.cmc_match.specs.Revisions.{next_request}
use Rattle.cmc_pass.specs.declared.value.Value.{Value}
use Rattle.cmc_pass.specs.declared.value.Value.TheVariants as values
use Rattle.cmc_pass.specs.Values.{IsValue}
use Rattle.cmc_pass.specs.declared.pass.Views.{Views}
use Rattle.cmc_pass.specs.declared.pass.Desk.{Desk}
use Rattle.cmc_pass.specs.declared.pass.IssuePlan.{IssuePlan}
use Rattle.cmc_pass.specs.declared.pass.TemporaryPlan.{TemporaryPlan}
use Rattle.cmc_pass.specs.declared.pass.Act.{Act}
use Rattle.cmc_pass.specs.declared.pass.Act.TheVariants.{Nothing, Call as Calls, Ask as Asks, Issue, Temporary}
use Rattle.cmc_objects.specs.Informers.{works_on_requests, looks_at_secret, looks_at_next, looks_at_requests}
use Rattle.cmc_rules.specs.Dates.{StaysDated}
use Rattle.cmc_rules.specs.SeenObjects.{IsAmong, IsWellSeen, OnSeen}
use Rattle.cmc_rules.specs.Views.{has_next_label}
use Rattle.cmc_rules.specs.Passes.{writes_temporary}
use Rattle.cmc_rules.specs.Revisions.{KeepsRevision, RaisesRevision}
use Rattle.cmc_rules.specs.Rights.{MayChange}
use Rattle.cmc_rules.specs.Safety.{IsIssued, IsTemporaryCertificate, IsSecretWrite, IsStatusUpdate}
use Rattle.cmc_rules.specs.Trigger.{frame_of}
use Rattle.cmc_rules.specs.Acts.{act, call_after}

-- ---- what a call does

-- issuing writes no Secret here
abbrev pub IsNoSecret : Role → Option Object → Type 0
IsNoSecret role new = (written : SecretObject) → role ≡ roles.Issuing → new ≡ Some (Secret written) → ⊥

-- what is so of the request where the approver approves it
abbrev pub WhereApproved : Role → Option Object → Option Object → (CertificateRequest → Type 0) → Type 0
WhereApproved role before after P =
    (old new : CertificateRequest) → role ≡ roles.Approver → before ≡ Some (Request old) → after ≡ Some (Request new) → is_approved old ≡ false → is_approved new ≡ true → P old

-- what is so of a request that is made
abbrev pub WhereMade : Option Object → Option Object → (CertificateRequest → Type 0) → Type 0
WhereMade before after P = (made : CertificateRequest) → before ≡ None → after ≡ Some (Request made) → P made

-- it asks the issuer of the Certificate that is seen, for its duration
pub record IsOfCertificate (seen : Views) (made : CertificateRequest) : Type 0 where
  pub certificate : Certificate
  pub sees : seen.certificate ≡ Some certificate
  pub issuer : made.spec.issuer ≡ certificate.spec.issuer
  pub duration : made.spec.duration ≡ certificate.spec.duration

-- A write within the rights of the role that leaves revisions, after which each moment of a status still lies in its years. No
-- Secret is issued by it, and no request approved or made.
pub record IsOrdinary (role : Role) (now : ℤ) (old new : Option Object) : Type 0 where
  pub rights : MayChange role old new
  pub dated : StaysDated now old new
  pub revision : KeepsRevision old new
  pub no_secret : IsNoSecret role new
  pub no_approval : WhereApproved role old new (λ r. ⊥)
  pub no_request : WhereMade old new (λ r. ⊥)

-- the write that follows a value: what it approves is the request that is seen, and the value is a yes; a request that it makes is for
-- the Certificate that is seen
pub record IsWriteAfterValue (role : Role) (seen : Views) (now : ℤ) (value : Value) (old new : Option Object) : Type 0 where
  pub rights : MayChange role old new
  pub dated : StaysDated now old new
  pub revision : KeepsRevision old new
  pub no_secret : IsNoSecret role new
  pub approval : WhereApproved role old new (λ r. (value ≡ values.Judged true) × (seen.request ≡ Some r))
  pub made : WhereMade old new (IsOfCertificate seen)

-- ---- what issuing does

-- the Certificate that is seen, the request of its next revision, and the key that its status names
pub record IsReadyToIssue (seen : Views) (c : Certificate) (r : CertificateRequest) (k : SecretObject) (file : List ℕ) : Type 0 where
  pub sees : seen.certificate ≡ Some c
  pub next : next_request c.status.revision seen.requests ≡ Some r
  pub matches : Matches c.spec r
  pub named : c.status.next_key ≡ Some k.meta.name
  pub among : IsAmong k seen.next
  pub is_key : key_in k ≡ Some file

-- the Secret under the name that the Certificate gives: its key is the file, and with its certificate and the request it has one public
-- key, of the kind that is asked for
pub record IsTarget (c : Certificate) (r : CertificateRequest) (file : List ℕ) (written : SecretObject) : Type 0 where
  pub namespace : written.meta.namespace ≡ c.meta.namespace
  pub name : written.meta.name ≡ c.spec.secret_name
  pub unlabelled : has_next_label written.meta ≡ false
  pub has_key : key_in written ≡ Some file
  pub fields : CertificateFields
  pub pair : IsPair written fields
  pub requested : HasRequestedKey c.spec.key written r

pub record WritesTarget (role : Role) (now : ℤ) (P : SecretObject → Type 0) (old new : Option Object) : Type 0 where
  pub rights : MayChange role old new
  pub dated : StaysDated now old new
  pub revision : KeepsRevision old new
  pub target : (written : SecretObject) → new ≡ Some (Secret written) → P written

-- the status that ends the issuance of this Certificate
pub record IsRaiseOf (c : Certificate) (now : ℤ) (old new : Option Object) : Type 0 where
  pub rights : MayChange roles.Issuing old new
  pub dated : StaysDated now old new
  pub of_it : old ≡ Some (Cert c)
  pub raises : RaisesRevision old new

-- the Secret has the certificate of the request and no mark
pub record IsSigned (c : Certificate) (r : CertificateRequest) (file : List ℕ) (written : SecretObject) : Type 0 where
  pub target : IsTarget c r file written
  pub unmarked : is_temporary written ≡ false
  pub certificate : certificate_file_in written ≡ Some r.status.certificate

-- The Secret has a temporary certificate and the mark. Only within the time of a run can the times of the certificate be written and read
-- again.
pub record IsMarked (c : Certificate) (r : CertificateRequest) (file : List ℕ) (now : ℤ) (written : SecretObject) : Type 0 where
  pub target : is_run_time now ≡ true → IsTarget c r file written
  pub marked : is_temporary written ≡ true
  pub stand_in : IsTemporaryCertificate c r file now written

-- only issuing issues: after the live read of the Certificate the Secret, and then the status
pub record IsIssuance (role : Role) (seen : Views) (now : ℤ) (plan : IssuePlan) : Type 0 where
  pub issuing : role ≡ roles.Issuing
  pub certificate : Certificate
  pub request : CertificateRequest
  pub key : SecretObject
  pub file : List ℕ
  pub prepared : IsReadyToIssue seen certificate request key file
  pub approved : is_approved request ≡ true
  pub issued : IsIssued request
  pub get : plan.get ≡ key_of (Cert certificate)
  pub version : plan.version ≡ certificate.meta.version
  pub is_secret : IsSecretWrite plan.secret
  pub secret : OnSeen (WritesTarget role now (IsSigned certificate request file)) seen plan.secret
  pub is_status : IsStatusUpdate plan.status
  pub status : OnSeen (IsRaiseOf certificate now) seen plan.status

-- or writes a temporary certificate
pub record IsTemporaryPlan (role : Role) (seen : Views) (now : ℤ) (plan : TemporaryPlan) : Type 0 where
  pub issuing : role ≡ roles.Issuing
  pub certificate : Certificate
  pub request : CertificateRequest
  pub key : SecretObject
  pub file : List ℕ
  pub prepared : IsReadyToIssue seen certificate request key file
  pub get : plan.get ≡ key_of (Cert certificate)
  pub version : plan.version ≡ certificate.meta.version
  pub is_marked : writes_temporary plan.secret ≡ true
  pub secret : OnSeen (WritesTarget role now (IsMarked certificate request file now)) seen plan.secret

-- ---- what a role asks

-- Key manager, request manager, approver and issuer ask, each its own kind of question: for a key of a kind that there is, for a signature,
-- and about the request that is seen; an issuer only about one that is approved and not denied.
abbrev pub IsQuestion : Role → Views → Order → Type 0
IsQuestion role seen (orders.Key order) = (role ≡ roles.KeyManager) × (allows_size order.algorithm order.size ≡ true)
IsQuestion role seen (orders.Csr order) = role ≡ roles.RequestManager
IsQuestion role seen (orders.Sign order) = (role ≡ roles.Issuer) × (seen.request ≡ Some order.request) × (is_approved order.request ≡ true) × (is_denied order.request ≡ false)
IsQuestion role seen (orders.Judge order) = (role ≡ roles.Approver) × (seen.request ≡ Some order.request)

-- a call follows the value, and is for what is seen
pub record IsFollowed (role : Role) (after : Order → Value → Option Call) (seen : Views) (now : ℤ) (order : Order) (value : Value) : Type 0 where
  pub call : Call
  pub follows : after order value ≡ Some call
  pub on : OnSeen (IsWriteAfterValue role seen now value) seen call

-- what an act does; the call that follows a question is for the right values
abbrev pub IsWithin : Role → (Order → Value → Option Call) → Views → ℤ → Act → Type 0
IsWithin role after seen now Nothing = Unit {0}
IsWithin role after seen now (Calls call) = OnSeen (IsOrdinary role now) seen call
IsWithin role after seen now (Asks order) = IsQuestion role seen order × ((value : Value) → IsValue order value → IsFollowed role after seen now order value)
IsWithin role after seen now (Issue plan) = IsIssuance role seen now plan
IsWithin role after seen now (Temporary plan) = IsTemporaryPlan role seen now plan

-- ---- what an act looks at

-- the parts that the role looks at; the others are empty
abbrev pub views_shown : Role → Views → Views
views_shown role seen = record {
  certificate = if works_on_requests role then None else seen.certificate;
  secret = if looks_at_secret role then seen.secret else None;
  next = if looks_at_next role then seen.next else [];
  requests = if looks_at_requests role then seen.requests else [];
  request = if works_on_requests role then seen.request else None;
}

-- the object that the role works on is not there
pub record IsAbsent (seen : Views) : Type 0 where
  pub certificate : seen.certificate ≡ None
  pub request : seen.request ≡ None

-- ---- due moments: at no other moment does a role that has nothing to do on the same views come to have something to do

abbrev pub IsEndOfBackoff : Option ℤ → CertStatus → ℤ → Type 0
IsEndOfBackoff None status at = ⊥
IsEndOfBackoff (Some last) status at = at ≡ backoff last status.attempts

-- the certificate that the Secret's key and certificate are a pair with is to be renewed
abbrev pub IsRenewal : Renew → Option CertificateFields → ℤ → Type 0
IsRenewal renew None at = ⊥
IsRenewal renew (Some fields) at = at ≡ renewal fields.not_before fields.not_after renew

abbrev pub IsTriggerMoment : Option Certificate → Option SecretObject → ℤ → Type 0
IsTriggerMoment None secret at = ⊥
IsTriggerMoment (Some c) secret at = IsEndOfBackoff c.status.last_failure c.status at ⊎ IsRenewal (frame_of at c).renew (pair_at secret) at

-- the certificate that the Secret's key and certificate are a pair with expires
abbrev pub IsExpiry : Option CertificateFields → ℤ → Type 0
IsExpiry None at = ⊥
IsExpiry (Some fields) at = at ≡ fields.not_after

-- a minute after the condition Ready of the request had its last transition, an issuer that was not ready is asked again
abbrev pub IsMinuteAfter : Option Condition → ℤ → Type 0
IsMinuteAfter None at = ⊥
IsMinuteAfter (Some ready) at = at ≡ ready.since +ℤ pos 60

abbrev pub IsRetry : Option CertificateRequest → ℤ → Type 0
IsRetry None at = ⊥
IsRetry (Some r) at = IsMinuteAfter (condition_at r.status.conditions conditions.Ready) at

abbrev pub IsDueMoment : Role → Views → ℤ → Type 0
IsDueMoment roles.Trigger seen at = IsTriggerMoment seen.certificate seen.secret at
IsDueMoment roles.KeyManager seen at = ⊥
IsDueMoment roles.RequestManager seen at = ⊥
IsDueMoment roles.Approver seen at = ⊥
IsDueMoment roles.Issuer seen at = IsRetry seen.request at
IsDueMoment roles.Issuing seen at = ⊥
IsDueMoment roles.Readiness seen at = IsExpiry (pair_at seen.secret) at
IsDueMoment roles.Revision seen at = ⊥

-- no moment after t and up to u is due
abbrev pub HasNoDueMoment : Role → Views → ℤ → ℤ → Type 0
HasNoDueMoment role seen t u = (at : ℤ) → IsDueMoment role seen at → int_le at t ≡ false → int_le at u ≡ true → ⊥

-- ---- the record

-- what holds of a table of acts, and of the calls that follow the values of its questions
pub record IsSoundTable (role : Role) (does : Views → ℤ → Desk → Act) (after : Views → ℤ → Order → Value → Option Call) : Type 0 where
  -- its calls are for what it sees, change what it may change, and no rule refuses them; and it asks and issues only as it may
  pub within : (seen : Views) (now : ℤ) (desk : Desk) → IsWellSeen seen → IsWithin role (after seen now) seen now (does seen now desk)
  -- it looks only at what it is told of, and does nothing where its object is not there
  pub told : (seen : Views) (now : ℤ) (desk : Desk) → does seen now desk ≡ does (views_shown role seen) now desk
  pub absent : (seen : Views) (now : ℤ) (desk : Desk) → IsAbsent seen → does seen now desk ≡ Nothing
  -- what is Nothing stays so up to the next due moment, whatever was asked and whichever rows stand
  pub idle : (seen : Views) (t u : ℤ) (d e : Desk) → d.rules ≡ e.rules → HasNoDueMoment role seen t u → int_le t u ≡ true → does seen t d ≡ Nothing → does seen u e ≡ Nothing

-- the table of the role itself
abbrev pub IsSound : Role → Type 0
IsSound role = IsSoundTable role (act role) (call_after role)
