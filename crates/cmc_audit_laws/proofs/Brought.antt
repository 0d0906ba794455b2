-- What the calls of a role bring: a status for what was seen, a request for the Certificate that was seen, or a Secret.
use Rattle.std.proofs.Common.{◌≡◌, ◌||◌, ◌&&◌, ◌==◌, ℕ, ℤ, List, [], ◌∷◌, length, Option, Some, None, Bool, true, false, refl, sym, ap, subst, ◌∙◌, find, not}
use Rattle.std.specs.Prelude.{if◌then◌else◌, nat_le, nat_lt, is_some, codes, filter}
use Rattle.std.specs.List.{last_or}
use Rattle.cmc_meta.specs.declared.key.Key.{Key}
use Rattle.cmc_meta.specs.declared.key.Kind.TheVariants as kinds
use Rattle.cmc_meta.specs.declared.conditions.Condition.{Condition}
use Rattle.cmc_meta.specs.declared.conditions.ConditionKind.TheVariants as conditions
use Rattle.cmc_objects.specs.declared.certificate.Certificate.{Certificate}
use Rattle.cmc_objects.specs.declared.certificate.CertStatus.{CertStatus}
use Rattle.cmc_objects.specs.declared.request.CertificateRequest.{CertificateRequest}
use Rattle.cmc_objects.specs.declared.request.RequestStatus.{RequestStatus}
use Rattle.cmc_objects.specs.declared.secret.Secret.{Secret as SecretObject}
use Rattle.cmc_objects.specs.declared.key_spec.Rotation.{Rotation}
use Rattle.cmc_objects.specs.declared.key_spec.Rotation.TheVariants as rotations
use Rattle.cmc_objects.specs.declared.object.Object.TheVariants.{Cert, Request, Secret}
use Rattle.cmc_objects.specs.declared.call.Call.{Call}
use Rattle.cmc_objects.specs.declared.call.Call.TheVariants.{Create, Update, UpdateStatus, Delete, Get}
use Rattle.cmc_objects.specs.declared.orders.Order.{Order}
use Rattle.cmc_objects.specs.declared.orders.Order.TheVariants as orders
use Rattle.cmc_objects.specs.declared.role.Role.{Role}
use Rattle.cmc_objects.specs.declared.role.Role.TheVariants as roles
use Rattle.cmc_objects.specs.Defaults.{key_rotation}
use Rattle.cmc_objects.specs.Objects.{key_of, no_request_status}
use Rattle.cmc_objects.specs.Requests.{is_approved, is_denied, is_stated}
use Rattle.cmc_der.specs.Keys.{CertificateFields}
use Rattle.cmc_x509.specs.ReadKeys.{key_file_at}
use Rattle.cmc_policies.specs.declared.renewal.Renew.{Renew}
use Rattle.cmc_match.specs.Facts.{key_in, fits, pair_at}
use Rattle.cmc_match.specs.Marks.{asks_for_temporary}
use Rattle.cmc_match.specs.Revisions.{next_request}
use Rattle.cmc_answers.specs.Temporary.{temporary}
use Rattle.cmc_pass.specs.declared.value.Value.{Value}
use Rattle.cmc_pass.specs.declared.value.Value.TheVariants as values
use Rattle.cmc_pass.specs.declared.pass.Views.{Views}
use Rattle.cmc_pass.specs.declared.pass.Desk.{Desk}
use Rattle.cmc_pass.specs.declared.pass.Act.{Act}
use Rattle.cmc_pass.specs.declared.pass.Act.TheVariants.{Nothing, Call as Calls, Ask as Asks, Issue, Temporary}
use Rattle.cmc_rules.specs.Acts.{act, call_after}
use Rattle.cmc_rules.specs.Chains.{readiness_reason}
use Rattle.cmc_rules.specs.NextKeys.{is_named, has_fitting_key, named_key}
use Rattle.cmc_rules.specs.NextRequests.{is_wanted, is_refused, next_requests}
use Rattle.cmc_rules.proofs.Lines.{by_test}
use Rattle.cmc_audit_laws.specs.Given.{IsForCertificate}
use Rattle.cmc_rules.specs.Trigger as triggering
use Rattle.cmc_rules.specs.KeyManager as key_managing
use Rattle.cmc_rules.specs.RequestManager as request_managing
use Rattle.cmc_rules.specs.Approver as approving
use Rattle.cmc_rules.specs.Issuer as granting
use Rattle.cmc_rules.specs.Issuance as issuing
use Rattle.cmc_rules.specs.Readiness as readying
use Rattle.cmc_rules.specs.RevisionManager as revising

-- ---- what a call brings

-- the Certificate that is seen, with another status
pub record IsRestated (seen : Views) (c : Certificate) : Type 0 where
  pub old : Certificate
  pub sees : seen.certificate ≡ Some old
  pub spec : c.spec ≡ old.spec

-- the request that is seen, with another status
pub record IsAnswered (seen : Views) (r : CertificateRequest) : Type 0 where
  pub old : CertificateRequest
  pub sees : seen.request ≡ Some old
  pub spec : r.spec ≡ old.spec

-- a request for the Certificate that is seen, without a status
pub record IsAskedFor (seen : Views) (r : CertificateRequest) : Type 0 where
  pub certificate : Certificate
  pub sees : seen.certificate ≡ Some certificate
  pub issuer : r.spec.issuer ≡ certificate.spec.issuer
  pub duration : r.spec.duration ≡ certificate.spec.duration
  pub status : r.status ≡ no_request_status

abbrev pub IsBrought : Views → Call → Type 0
IsBrought seen (Create (Cert c) generate) = ⊥
IsBrought seen (Create (Request r) generate) = IsAskedFor seen r
IsBrought seen (Create (Secret k) generate) = Unit {0}
IsBrought seen (Update (Cert c) named) = ⊥
IsBrought seen (Update (Request r) named) = ⊥
IsBrought seen (Update (Secret k) named) = Unit {0}
IsBrought seen (UpdateStatus (Cert c) named) = IsRestated seen c
IsBrought seen (UpdateStatus (Request r) named) = IsAnswered seen r
IsBrought seen (UpdateStatus (Secret k) named) = ⊥
IsBrought seen (Delete key named) = Unit {0}
IsBrought seen (Get key) = Unit {0}

abbrev pub ActBrings : Views → Act → Type 0
ActBrings seen Nothing = Unit {0}
ActBrings seen (Calls call) = IsBrought seen call
ActBrings seen (Asks order) = IsForCertificate order
ActBrings seen (Issue plan) = IsBrought seen plan.secret × IsBrought seen plan.status
ActBrings seen (Temporary plan) = IsBrought seen plan.secret

abbrev pub FollowBrings : Views → Option Call → Type 0
FollowBrings seen None = Unit {0}
FollowBrings seen (Some call) = IsBrought seen call

-- an act that brings so
record Does (seen : Views) (does : Act) : Type 0 where
  is : ActBrings seen does

nothing : (seen : Views) → Does seen Nothing
nothing seen = record { is = tt }

calls : (seen : Views) (call : Call) → IsBrought seen call → Does seen (Calls call)
calls seen call is = record { is = is }

restated : (seen : Views) (c : Certificate) (status : CertStatus) → seen.certificate ≡ Some c → IsRestated seen (record c { status = status })
restated seen c status sees = record { old = c; sees = sees; spec = refl }

answered : (seen : Views) (r : CertificateRequest) (status : RequestStatus) → seen.request ≡ Some r → IsAnswered seen (record r { status = status })
answered seen r status sees = record { old = r; sees = sees; spec = refl }

-- ---- the trigger

trigger_reason : (seen : Views) (now : ℤ) (c : Certificate) (reason : Option _) → seen.certificate ≡ Some c → Does seen (triggering.for_reason now seen.requests c reason)
unfolding triggering.issue_call triggering.with_issuing
trigger_reason seen now c None sees = nothing seen
trigger_reason seen now c (Some reason) sees = by_test (Does seen) (triggering.is_in_back_off now seen.requests c) _ _ (λ on. nothing seen) (λ off. record { is = restated seen c _ sees })

trigger_of : (seen : Views) (now : ℤ) (x : Option Certificate) → seen.certificate ≡ x → Does seen (triggering.for_option now seen.secret seen.requests x)
unfolding triggering.for_certificate
trigger_of seen now None sees = nothing seen
trigger_of seen now (Some c) sees = by_test (Does seen) (triggering.is_issuing c) _ _ (λ on. nothing seen) (λ off. trigger_reason seen now c _ sees)

-- ---- the key manager

dropped_brings : (seen : Views) (k : Option SecretObject) → Does seen (key_managing.dropped k)
unfolding key_managing.drop_call
dropped_brings seen None = nothing seen
dropped_brings seen (Some k) = record { is = tt }

named_brings : (seen : Views) (name : Option (List ℕ)) (c : Certificate) → seen.certificate ≡ Some c → Does seen (key_managing.name_call name c)
unfolding key_managing.name_call
named_brings seen name c sees = record { is = restated seen c _ sees }

asked_brings : (seen : Views) (c : Certificate) (desk : Desk) → Does seen (key_managing.ask_key c desk)
unfolding key_managing.ask_key key_managing.key_order
asked_brings seen c desk = record { is = refl }

made_brings : (seen : Views) (c : Certificate) (file : List ℕ) → IsBrought seen (key_managing.make_call c file)
unfolding key_managing.make_call
made_brings seen c file = tt

reused_brings : (seen : Views) (c : Certificate) (desk : Desk) (file : Option (List ℕ)) → Does seen (key_managing.reused c desk file)
reused_brings seen c desk None = asked_brings seen c desk
reused_brings seen c desk (Some file) =
    by_test (Does seen) (is_some (key_file_at file)) _ _ (λ on. by_test (Does seen) (fits c.spec.key file) _ _ (λ fit. calls seen _ (made_brings seen c file)) (λ off. nothing seen)) (λ off. asked_brings seen c desk)

rotated_brings : (seen : Views) (c : Certificate) (desk : Desk) (file : Option (List ℕ)) (rotation : Rotation) → Does seen (key_managing.rotated c desk file rotation)
rotated_brings seen c desk file rotations.Always = asked_brings seen c desk
rotated_brings seen c desk file rotations.Never = reused_brings seen c desk file

only_brings : (seen : Views) (c : Certificate) (k : SecretObject) → seen.certificate ≡ Some c → Does seen (key_managing.only_key c k)
only_brings seen c k sees =
    by_test (Does seen) (has_fitting_key c.spec.key k) _ _ (λ on. by_test (Does seen) (is_named c.status.next_key k) _ _ (λ there. nothing seen) (λ off. named_brings seen (Some k.meta.name) c sees)) (λ off. dropped_brings seen (Some k))

while_issuing_brings : (seen : Views) (c : Certificate) (desk : Desk) (target : Option SecretObject) (next : List SecretObject) → seen.certificate ≡ Some c → Does seen (key_managing.while_issuing c desk target next)
while_issuing_brings seen c desk target [] sees = rotated_brings seen c desk (key_managing.target_key target) (key_rotation c.spec.key)
while_issuing_brings seen c desk target (k ∷ []) sees = only_brings seen c k sees
while_issuing_brings seen c desk target (k ∷ j ∷ ks) sees = dropped_brings seen (find (λ o. not (is_named c.status.next_key o)) (k ∷ j ∷ ks))

unnamed_brings : (seen : Views) (c : Certificate) (name : Option (List ℕ)) → seen.certificate ≡ Some c → Does seen (key_managing.unnamed c name)
unnamed_brings seen c None sees = nothing seen
unnamed_brings seen c (Some name) sees = named_brings seen None c sees

while_idle_brings : (seen : Views) (c : Certificate) (next : List SecretObject) → seen.certificate ≡ Some c → Does seen (key_managing.while_idle c next)
while_idle_brings seen c [] sees = unnamed_brings seen c c.status.next_key sees
while_idle_brings seen c (k ∷ ks) sees = dropped_brings seen (Some k)

keys_brings : (seen : Views) (desk : Desk) (x : Option Certificate) → seen.certificate ≡ x → Does seen (key_managing.keys_of x desk seen.secret seen.next)
keys_brings seen desk None sees = nothing seen
keys_brings seen desk (Some c) sees = by_test (Does seen) (triggering.is_issuing c) _ _ (λ on. while_issuing_brings seen c desk seen.secret seen.next sees) (λ off. while_idle_brings seen c seen.next sees)

key_follows : (seen : Views) (x : Option Certificate) (value : Value) → FollowBrings seen (key_managing.kept_for x value)
key_follows seen None value = tt
key_follows seen (Some c) (values.Made file) = made_brings seen c file
key_follows seen (Some c) other = tt

-- ---- the request manager

delete_brings : (seen : Views) (x : Option CertificateRequest) → Does seen (revising.delete_of x)
unfolding revising.delete_call
delete_brings seen None = nothing seen
delete_brings seen (Some r) = record { is = tt }

ask_with_brings : (seen : Views) (c : Certificate) (file : List ℕ) (key : Option _) → Does seen (request_managing.ask_with c file key)
unfolding request_managing.ask_signature
ask_with_brings seen c file None = nothing seen
ask_with_brings seen c file (Some key) = record { is = tt }

by_count_brings : (seen : Views) (c : Certificate) (file : List ℕ) (next : List CertificateRequest) → Does seen (request_managing.by_count c file next)
by_count_brings seen c file next =
    by_test (Does seen) (length next == 0) _ _ (λ none. ask_with_brings seen c file (key_file_at file)) (λ off. by_test (Does seen) (length next == 1) _ _ (λ one. nothing seen) (λ more. delete_brings seen (last_or None next)))

by_stale_brings : (seen : Views) (c : Certificate) (file : List ℕ) (requests : List CertificateRequest) (x : Option CertificateRequest) → Does seen (request_managing.by_stale c file requests x)
by_stale_brings seen c file requests None = by_count_brings seen c file (next_requests c requests)
by_stale_brings seen c file requests (Some stale) = delete_brings seen (Some stale)

with_file_brings : (seen : Views) (c : Certificate) (requests : List CertificateRequest) (file : Option (List ℕ)) → Does seen (request_managing.with_request_file c requests file)
with_file_brings seen c requests None = nothing seen
with_file_brings seen c requests (Some file) = by_test (Does seen) (fits c.spec.key file) _ _ (λ on. by_stale_brings seen c file requests (request_managing.stale_request c file requests)) (λ off. nothing seen)

with_key_brings : (seen : Views) (c : Certificate) (requests : List CertificateRequest) (k : Option SecretObject) → Does seen (request_managing.with_key c requests k)
with_key_brings seen c requests None = nothing seen
with_key_brings seen c requests (Some k) = with_file_brings seen c requests (key_in k)

requests_brings : (seen : Views) (x : Option Certificate) (next : List SecretObject) (requests : List CertificateRequest) → Does seen (request_managing.request_of x next requests)
requests_brings seen None next requests = nothing seen
requests_brings seen (Some c) next requests = by_test (Does seen) (triggering.is_issuing c) _ _ (λ on. with_key_brings seen c requests (named_key c.status.next_key next)) (λ off. nothing seen)

made_request : (seen : Views) (c : Certificate) (k : SecretObject) (request : List ℕ) → seen.certificate ≡ Some c → IsBrought seen (request_managing.make_request c k request)
unfolding request_managing.make_request request_managing.new_request request_managing.request_spec
made_request seen c k request sees = record { certificate = c; sees = sees; issuer = refl; duration = refl; status = refl }

signed_by_brings : (seen : Views) (c : Certificate) (k : SecretObject) (key : Option _) (signature : List ℕ) → seen.certificate ≡ Some c → FollowBrings seen (request_managing.signed_by c k key signature)
signed_by_brings seen c k None signature sees = tt
signed_by_brings seen c k (Some key) signature sees = made_request seen c k _ sees

signed_in_brings : (seen : Views) (c : Certificate) (k : SecretObject) (file : Option (List ℕ)) (signature : List ℕ) → seen.certificate ≡ Some c → FollowBrings seen (request_managing.signed_in c k file signature)
signed_in_brings seen c k None signature sees = tt
signed_in_brings seen c k (Some file) signature sees = signed_by_brings seen c k (key_file_at file) signature sees

signed_with_brings : (seen : Views) (c : Certificate) (k : Option SecretObject) (signature : List ℕ) → seen.certificate ≡ Some c → FollowBrings seen (request_managing.signed_with c k signature)
signed_with_brings seen c None signature sees = tt
signed_with_brings seen c (Some k) signature sees = signed_in_brings seen c k (key_in k) signature sees

signed_brings : (seen : Views) (x : Option Certificate) (signature : List ℕ) → seen.certificate ≡ x → FollowBrings seen (request_managing.signed_for x seen.next signature)
signed_brings seen None signature sees = tt
signed_brings seen (Some c) signature sees = signed_with_brings seen c (named_key c.status.next_key seen.next) signature sees

request_follows : (seen : Views) (value : Value) → FollowBrings seen (request_managing.request_from seen value)
request_follows seen (values.Signed signature) = signed_brings seen seen.certificate signature refl
request_follows seen other = tt

-- ---- the approver

judge_brings : (seen : Views) (desk : Desk) (x : Option CertificateRequest) → Does seen (approving.judge_of desk.rules x)
unfolding approving.ask_judgement
judge_brings seen desk None = nothing seen
judge_brings seen desk (Some r) = by_test (Does seen) (is_approved r || is_denied r) _ _ (λ on. nothing seen) (λ off. by_test (Does seen) (approving.is_covered desk.rules r.spec.issuer) _ _ (λ covered. record { is = tt }) (λ other. nothing seen))

judged_by_brings : (seen : Views) (r : CertificateRequest) (verdict : Option Condition) → seen.request ≡ Some r → FollowBrings seen (approving.judged_by r verdict)
unfolding approving.verdict_call
judged_by_brings seen r None sees = tt
judged_by_brings seen r (Some verdict) sees = answered seen r _ sees

judged_brings : (seen : Views) (x : Option CertificateRequest) (verdict : Option Condition) → seen.request ≡ x → FollowBrings seen (approving.judged_for x verdict)
judged_brings seen None verdict sees = tt
judged_brings seen (Some r) verdict sees = judged_by_brings seen r verdict sees

-- ---- the issuer

status_brings : (seen : Views) (r : CertificateRequest) (status : RequestStatus) → seen.request ≡ Some r → IsBrought seen (granting.status_call status r)
unfolding granting.status_call
status_brings seen r status sees = answered seen r status sees

ask_issuer_brings : (seen : Views) (now : ℤ) (desk : Desk) (r : CertificateRequest) → Does seen (granting.ask_issuer now desk r)
unfolding granting.ask_issuer
ask_issuer_brings seen now desk r = record { is = tt }

grant_brings : (seen : Views) (now : ℤ) (desk : Desk) (x : Option CertificateRequest) → seen.request ≡ x → Does seen (granting.grant_of now desk x)
grant_brings seen now desk None sees = nothing seen
grant_brings seen now desk (Some r) sees =
    by_test (Does seen) (is_denied r) _ _
    (λ denied. by_test (Does seen) (granting.has_reason (codes "Denied") r) _ _ (λ on. nothing seen) (λ off. calls seen _ (status_brings seen r (granting.denied_status r.status now) sees)))
    (λ not_denied. by_test (Does seen) (granting.is_open r) _ _ (λ on. by_test (Does seen) (granting.is_request_waiting now r) _ _ (λ waits. nothing seen) (λ off. ask_issuer_brings seen now desk r)) (λ off. nothing seen))

answered_with_brings : (seen : Views) (now : ℤ) (r : CertificateRequest) (value : Value) → seen.request ≡ Some r → FollowBrings seen (granting.answered_with now r value)
answered_with_brings seen now r (values.Answered answer) sees = status_brings seen r _ sees
answered_with_brings seen now r other sees = tt

answered_for_brings : (seen : Views) (now : ℤ) (x : Option CertificateRequest) (value : Value) → seen.request ≡ x → FollowBrings seen (granting.answered_for now x value)
answered_for_brings seen now None value sees = tt
answered_for_brings seen now (Some r) value sees = answered_with_brings seen now r value sees

answer_follows : (seen : Views) (now : ℤ) (order : Order) (value : Value) → FollowBrings seen (granting.answered_to now seen.request order value)
answer_follows seen now (orders.Sign order) value = answered_for_brings seen now seen.request value refl
answer_follows seen now other value = tt

-- ---- issuing

issuing_status : (seen : Views) (c : Certificate) (status : CertStatus) → seen.certificate ≡ Some c → IsBrought seen (issuing.status_call status c)
unfolding issuing.status_call
issuing_status seen c status sees = restated seen c status sees

failure_brings : (seen : Views) (now : ℤ) (reason : List ℕ) (c : Certificate) → seen.certificate ≡ Some c → Does seen (issuing.failure now reason c)
unfolding issuing.failure
failure_brings seen now reason c sees = calls seen _ (issuing_status seen c _ sees)

secret_brings : (seen : Views) (stand_in : Bool) (c : Certificate) (key certificate ca : List ℕ) (target : Option SecretObject) → IsBrought seen (issuing.secret_call stand_in c key certificate ca target)
unfolding issuing.secret_call
secret_brings seen stand_in c key certificate ca None = tt
secret_brings seen stand_in c key certificate ca (Some old) = tt

issue_brings : (seen : Views) (now : ℤ) (c : Certificate) (file : List ℕ) (r : CertificateRequest) (target : Option SecretObject) → seen.certificate ≡ Some c → Does seen (Issue (issuing.issue_plan now c file r target))
unfolding issuing.issue_plan
issue_brings seen now c file r target sees = record { is = (secret_brings seen false c file r.status.certificate r.status.ca target, issuing_status seen c _ sees) }

temporary_brings : (seen : Views) (c : Certificate) (file certificate : List ℕ) (target : Option SecretObject) → Does seen (Temporary (issuing.temporary_plan c file certificate target))
unfolding issuing.temporary_plan
temporary_brings seen c file certificate target = record { is = secret_brings seen true c file certificate [] target }

stand_in_brings : (seen : Views) (c : Certificate) (file : List ℕ) (target : Option SecretObject) (made : Option (List ℕ)) → Does seen (issuing.temporary_with c file target made)
stand_in_brings seen c file target None = nothing seen
stand_in_brings seen c file target (Some certificate) = by_test (Does seen) (nat_le (length certificate) 16777216) _ _ (λ on. temporary_brings seen c file certificate target) (λ off. nothing seen)

wanted_brings : (seen : Views) (now : ℤ) (c : Certificate) (file : List ℕ) (target : Option SecretObject) (r : CertificateRequest) → seen.certificate ≡ Some c → Does seen (issuing.with_wanted now c file target r)
wanted_brings seen now c file target r sees =
    by_test (Does seen) (is_refused r) _ _
    (λ refused. by_test (Does seen) (issuing.fails_now c r r.status.failure) _ _ (λ on. failure_brings seen now (issuing.refusal r) c sees) (λ off. nothing seen))
    (λ well. by_test (Does seen) (issuing.is_granted r) _ _
    (λ granted. by_test (Does seen) (issuing.is_certified file r.status.certificate) _ _
    (λ on. by_test (Does seen) (issuing.is_kept_for_keys target) _ _ (λ kept. nothing seen) (λ free. issue_brings seen now c file r target sees))
    (λ off. failure_brings seen now (codes "InvalidCertificate") c sees))
    (λ waits. by_test (Does seen) (asks_for_temporary c && (not (is_denied r) && (not (issuing.is_kept_for_keys target) && issuing.lacks_certificate file target))) _ _
    (λ on. stand_in_brings seen c file target (temporary r.spec.request file now)) (λ off. nothing seen)))

issuing_request : (seen : Views) (now : ℤ) (c : Certificate) (file : List ℕ) (target : Option SecretObject) (x : Option CertificateRequest) → seen.certificate ≡ Some c → Does seen (issuing.with_request now c file target x)
issuing_request seen now c file target None sees = nothing seen
issuing_request seen now c file target (Some r) sees = by_test (Does seen) (is_wanted c file r) _ _ (λ on. wanted_brings seen now c file target r sees) (λ off. nothing seen)

issuing_file : (seen : Views) (now : ℤ) (c : Certificate) (target : Option SecretObject) (requests : List CertificateRequest) (file : Option (List ℕ)) → seen.certificate ≡ Some c → Does seen (issuing.with_file now c target requests file)
issuing_file seen now c target requests None sees = nothing seen
issuing_file seen now c target requests (Some file) sees = by_test (Does seen) (fits c.spec.key file) _ _ (λ on. issuing_request seen now c file target (next_request c.status.revision requests) sees) (λ off. nothing seen)

issuing_key : (seen : Views) (now : ℤ) (c : Certificate) (target : Option SecretObject) (requests : List CertificateRequest) (k : Option SecretObject) → seen.certificate ≡ Some c → Does seen (issuing.with_key_of now c target requests k)
issuing_key seen now c target requests None sees = nothing seen
issuing_key seen now c target requests (Some k) sees = issuing_file seen now c target requests (key_in k) sees

issuing_brings : (seen : Views) (now : ℤ) (x : Option Certificate) → seen.certificate ≡ x → Does seen (issuing.issuing_of now seen.next seen.secret seen.requests x)
issuing_brings seen now None sees = nothing seen
issuing_brings seen now (Some c) sees = by_test (Does seen) (triggering.is_issuing c) _ _ (λ on. issuing_key seen now c seen.secret seen.requests (named_key c.status.next_key seen.next) sees) (λ off. nothing seen)

-- ---- readiness

ready_call_brings : (seen : Views) (condition : Condition) (renew : Renew) (pair : Option CertificateFields) (c : Certificate) → seen.certificate ≡ Some c → Does seen (readying.ready_call condition renew pair c)
unfolding readying.ready_call
ready_call_brings seen condition renew pair c sees = record { is = restated seen c _ sees }

ready_by_brings : (seen : Views) (condition : Condition) (renew : Renew) (pair : Option CertificateFields) (c : Certificate) → seen.certificate ≡ Some c → Does seen (readying.ready_by condition renew pair c)
ready_by_brings seen condition renew pair c sees = by_test (Does seen) (readying.is_settled condition renew pair c.status) _ _ (λ on. nothing seen) (λ off. ready_call_brings seen condition renew pair c sees)

ready_brings : (seen : Views) (now : ℤ) (x : Option Certificate) → seen.certificate ≡ x → Does seen (readying.ready_of now seen.secret seen.requests x)
ready_brings seen now None sees = nothing seen
ready_brings seen now (Some c) sees =
    ready_by_brings seen (readying.ready_condition now (readiness_reason (triggering.frame_of now c) c seen.secret seen.requests)) (triggering.frame_of now c).renew (pair_at seen.secret) c sees

-- ---- revisions

limit_brings : (seen : Views) (limit : Option ℕ) (requests : List CertificateRequest) → Does seen (revising.by_limit limit requests)
limit_brings seen None requests = nothing seen
limit_brings seen (Some limit) requests = by_test (Does seen) (nat_lt limit (length (filter revising.counts requests))) _ _ (λ on. delete_brings seen (revising.oldest_of (filter revising.counts requests))) (λ off. nothing seen)

revise_brings : (seen : Views) (x : Option Certificate) → Does seen (revising.revise_of seen.requests x)
revise_brings seen None = nothing seen
revise_brings seen (Some c) = by_test (Does seen) (is_stated conditions.Issuing c.status.conditions) _ _ (λ on. nothing seen) (λ off. limit_brings seen c.spec.history_limit seen.requests)

-- ---- all roles

pub act_brings : (role : Role) (seen : Views) (now : ℤ) (desk : Desk) → ActBrings seen (act role seen now desk)
unfolding act triggering.trigger key_managing.key_manager request_managing.request_manager approving.approver granting.issuer issuing.issuing readying.readiness revising.revise
act_brings roles.Trigger seen now desk = (trigger_of seen now seen.certificate refl).is
act_brings roles.KeyManager seen now desk = (keys_brings seen desk seen.certificate refl).is
act_brings roles.RequestManager seen now desk = (requests_brings seen seen.certificate seen.next seen.requests).is
act_brings roles.Approver seen now desk = (judge_brings seen desk seen.request).is
act_brings roles.Issuer seen now desk = (grant_brings seen now desk seen.request refl).is
act_brings roles.Issuing seen now desk = (issuing_brings seen now seen.certificate refl).is
act_brings roles.Readiness seen now desk = (ready_brings seen now seen.certificate refl).is
act_brings roles.Revision seen now desk = (revise_brings seen seen.certificate).is

pub follow_brings : (role : Role) (seen : Views) (now : ℤ) (order : Order) (value : Value) → FollowBrings seen (call_after role seen now order value)
unfolding call_after key_managing.key_after request_managing.request_after approving.judged_after granting.answered_after
follow_brings roles.KeyManager seen now order value = key_follows seen seen.certificate value
follow_brings roles.RequestManager seen now order value = request_follows seen value
follow_brings roles.Approver seen now order value = judged_brings seen seen.request _ refl
follow_brings roles.Issuer seen now order value = answer_follows seen now order value
follow_brings other seen now order value = tt
