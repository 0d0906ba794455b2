-- No role writes another outcome to a request, where what it sees has one.
use Rattle.std.proofs.Common.{◌≡◌, ◌==◌, ℕ, ℤ, List, [], ◌∷◌, Option, Some, None, Bool, true, false, refl, subst}
use Rattle.std.specs.Prelude.{if◌then◌else◌}
use Rattle.cmc_der.specs.Keys.{PublicKey}
use Rattle.cmc_objects.specs.declared.certificate.Certificate.{Certificate}
use Rattle.cmc_objects.specs.declared.request.CertificateRequest.{CertificateRequest}
use Rattle.cmc_objects.specs.declared.secret.Secret.{Secret as SecretObject}
use Rattle.cmc_objects.specs.declared.key_spec.Rotation.TheVariants.{Always, Never}
use Rattle.cmc_objects.specs.declared.key_spec.Rotation.{Rotation}
use Rattle.cmc_objects.specs.declared.orders.Order.{Order}
use Rattle.cmc_objects.specs.declared.orders.Order.TheVariants as orders
use Rattle.cmc_objects.specs.declared.orders.Rules.{Rules}
use Rattle.cmc_objects.specs.declared.call.Call.{Call}
use Rattle.cmc_objects.specs.declared.role.Role.{Role}
use Rattle.cmc_objects.specs.declared.role.Role.TheVariants.{Trigger, KeyManager, RequestManager, Approver, Issuer, Issuing, Readiness, Revision}
use Rattle.cmc_meta.specs.declared.conditions.Condition.{Condition}
use Rattle.cmc_meta.specs.ConditionLists.{condition_rank}
use Rattle.cmc_policies.specs.declared.facts.Reason.{Reason}
use Rattle.cmc_answers.specs.declared.denial.Denial.{Denial}
use Rattle.cmc_answers.specs.Denials.{denial_of}
use Rattle.cmc_pass.specs.declared.pass.Views.{Views}
use Rattle.cmc_pass.specs.declared.pass.Desk.{Desk}
use Rattle.cmc_pass.specs.declared.pass.Act.{Act}
use Rattle.cmc_pass.specs.declared.pass.Act.TheVariants.{Nothing, Call as Calls, Issue, Temporary}
use Rattle.cmc_pass.specs.declared.value.Value.{Value}
use Rattle.cmc_pass.specs.declared.value.Value.TheVariants as values
use Rattle.cmc_rules.specs.Acts.{act, call_after}
use Rattle.cmc_rules.specs.Trigger as triggering
use Rattle.cmc_rules.specs.KeyManager as keys
use Rattle.cmc_rules.specs.RequestManager as requests
use Rattle.cmc_rules.specs.Approver as approving
use Rattle.cmc_rules.specs.Issuer as granting
use Rattle.cmc_rules.specs.Issuance as issuance
use Rattle.cmc_rules.specs.Readiness as readying
use Rattle.cmc_rules.specs.RevisionManager as revising
use Rattle.cmc_rules.specs.NextKeys.{named_key}
use Rattle.cmc_rules.specs.NextRequests.{next_requests}
use Rattle.cmc_rules.specs.Trigger.{trigger, for_certificate, for_reason, issue_call}
use Rattle.cmc_rules.specs.KeyManager.{key_manager, key_after, name_call, drop_call, ask_key, make_call}
use Rattle.cmc_rules.specs.RequestManager.{request_manager, request_after, ask_signature, make_request}
use Rattle.cmc_rules.specs.Approver.{approver, judged_after, ask_judgement, verdict_call, approval, denied_for, verdict_by, verdict_of}
use Rattle.cmc_rules.specs.Issuer.{issuer, answered_after, ask_issuer}
use Rattle.cmc_rules.specs.Issuance.{issuing, failure, issue_plan, temporary_plan, secret_call}
use Rattle.cmc_rules.specs.Readiness.{readiness, ready_call}
use Rattle.cmc_rules.specs.RevisionManager.{revise, delete_call, delete_of}
use Rattle.cmc_waits.proofs.Outcomes.{HasOutcome, IsAnsweredCall, outcome_judged, outcome_denied, outcome_answered}

-- ---- acts

-- each call of the act writes such a status, if it writes one
abbrev pub IsAnsweredAct : Act → Type 0
IsAnsweredAct (Calls call) = IsAnsweredCall call
IsAnsweredAct (Issue plan) = IsAnsweredCall plan.secret × IsAnsweredCall plan.status
IsAnsweredAct (Temporary plan) = IsAnsweredCall plan.secret
IsAnsweredAct other = Unit {0}

either : (b : Bool) (x y : Act) → IsAnsweredAct x → IsAnsweredAct y → IsAnsweredAct (if b then x else y)
either true x y one other = one
either false x y one other = other

-- the request that is seen, if one is, has an outcome or none
abbrev pub SeesAnswered : Views → Type 0
SeesAnswered seen = (r : CertificateRequest) → seen.request ≡ Some r → HasOutcome r.status

-- ---- Certificates

of_trigger : (b : Bool) (moment : ℤ) (list : List CertificateRequest) (c : Certificate) (reason : Option Reason) → IsAnsweredAct (if b then Nothing else for_reason moment list c reason)
unfolding issue_call
of_trigger true moment list c reason = tt
of_trigger false moment list c None = tt
of_trigger false moment list c (Some reason) = either (triggering.is_in_back_off moment list c) Nothing (issue_call moment reason c) tt tt

triggers : (moment : ℤ) (secret : Option SecretObject) (list : List CertificateRequest) (c : Option Certificate) → IsAnsweredAct (triggering.for_option moment secret list c)
unfolding for_certificate
triggers moment secret list None = tt
triggers moment secret list (Some c) = of_trigger (triggering.is_issuing c) moment list c _

of_reused : (c : Certificate) (desk : Desk) (file : Option (List ℕ)) → IsAnsweredAct (keys.reused c desk file)
unfolding ask_key make_call
of_reused c desk None = tt
of_reused c desk (Some file) = search either

of_rotated : (c : Certificate) (desk : Desk) (file : Option (List ℕ)) (rotation : Rotation) → IsAnsweredAct (keys.rotated c desk file rotation)
unfolding ask_key
of_rotated c desk file Always = tt
of_rotated c desk file Never = of_reused c desk file

of_only : (c : Certificate) (k : SecretObject) → IsAnsweredAct (keys.only_key c k)
unfolding name_call drop_call
of_only c k = search either

of_dropped : (k : Option SecretObject) → IsAnsweredAct (keys.dropped k)
unfolding drop_call
of_dropped None = tt
of_dropped (Some k) = tt

of_issued : (c : Certificate) (desk : Desk) (target : Option SecretObject) (next : List SecretObject) → IsAnsweredAct (keys.while_issuing c desk target next)
of_issued c desk target [] = of_rotated c desk (keys.target_key target) _
of_issued c desk target (k ∷ []) = of_only c k
of_issued c desk target (k ∷ j ∷ ks) = of_dropped _

of_unnamed : (c : Certificate) (name : Option (List ℕ)) → IsAnsweredAct (keys.unnamed c name)
unfolding name_call
of_unnamed c None = tt
of_unnamed c (Some name) = tt

of_idle : (c : Certificate) (next : List SecretObject) → IsAnsweredAct (keys.while_idle c next)
unfolding drop_call
of_idle c [] = of_unnamed c c.status.next_key
of_idle c (k ∷ ks) = tt

manages : (c : Option Certificate) (desk : Desk) (target : Option SecretObject) (next : List SecretObject) → IsAnsweredAct (keys.keys_of c desk target next)
manages None desk target next = tt
manages (Some c) desk target next = either (triggering.is_issuing c) (keys.while_issuing c desk target next) (keys.while_idle c next) (of_issued c desk target next) (of_idle c next)

of_deleted : (r : Option CertificateRequest) → IsAnsweredAct (delete_of r)
unfolding delete_call
of_deleted None = tt
of_deleted (Some r) = tt

of_asked : (c : Certificate) (file : List ℕ) (key : Option PublicKey) → IsAnsweredAct (requests.ask_with c file key)
unfolding ask_signature
of_asked c file None = tt
of_asked c file (Some key) = tt

of_count : (c : Certificate) (file : List ℕ) (next : List CertificateRequest) → IsAnsweredAct (requests.by_count c file next)
of_count c file next = search (either, of_asked, of_deleted)

of_stale : (c : Certificate) (file : List ℕ) (list : List CertificateRequest) (stale : Option CertificateRequest) → IsAnsweredAct (requests.by_stale c file list stale)
unfolding delete_call
of_stale c file list None = of_count c file (next_requests c list)
of_stale c file list (Some r) = tt

of_file : (c : Certificate) (list : List CertificateRequest) (file : Option (List ℕ)) → IsAnsweredAct (requests.with_request_file c list file)
of_file c list None = tt
of_file c list (Some file) = search (either, of_stale)

of_key : (c : Certificate) (list : List CertificateRequest) (k : Option SecretObject) → IsAnsweredAct (requests.with_key c list k)
of_key c list None = tt
of_key c list (Some k) = of_file c list _

asks : (c : Option Certificate) (next : List SecretObject) (list : List CertificateRequest) → IsAnsweredAct (requests.request_of c next list)
asks None next list = tt
asks (Some c) next list = search (either, of_key)

of_secret : (stand_in : Bool) (c : Certificate) (file certificate ca : List ℕ) (target : Option SecretObject) → IsAnsweredCall (secret_call stand_in c file certificate ca target)
unfolding secret_call
of_secret stand_in c file certificate ca None = tt
of_secret stand_in c file certificate ca (Some old) = tt

of_stand_in : (c : Certificate) (file : List ℕ) (target : Option SecretObject) (certificate : Option (List ℕ)) → IsAnsweredAct (issuance.temporary_with c file target certificate)
unfolding temporary_plan
of_stand_in c file target None = tt
of_stand_in c file target (Some certificate) = search (either, of_secret)

of_failure : (moment : ℤ) (reason : List ℕ) (c : Certificate) → IsAnsweredAct (failure moment reason c)
unfolding failure issuance.status_call
of_failure moment reason c = tt

of_plan : (moment : ℤ) (c : Certificate) (file : List ℕ) (r : CertificateRequest) (target : Option SecretObject) → IsAnsweredAct (Issue (issue_plan moment c file r target))
unfolding issue_plan issuance.status_call
of_plan moment c file r target = (of_secret false c file _ _ target, tt)

of_wanted : (moment : ℤ) (c : Certificate) (file : List ℕ) (target : Option SecretObject) (r : CertificateRequest) → IsAnsweredAct (issuance.with_wanted moment c file target r)
of_wanted moment c file target r = search (either, of_failure, of_plan, of_stand_in)

of_next : (moment : ℤ) (c : Certificate) (file : List ℕ) (target : Option SecretObject) (r : Option CertificateRequest) → IsAnsweredAct (issuance.with_request moment c file target r)
of_next moment c file target None = tt
of_next moment c file target (Some r) = search (either, of_wanted)

of_own : (moment : ℤ) (c : Certificate) (target : Option SecretObject) (list : List CertificateRequest) (file : Option (List ℕ)) → IsAnsweredAct (issuance.with_file moment c target list file)
of_own moment c target list None = tt
of_own moment c target list (Some file) = search (either, of_next)

of_named : (moment : ℤ) (c : Certificate) (target : Option SecretObject) (list : List CertificateRequest) (k : Option SecretObject) → IsAnsweredAct (issuance.with_key_of moment c target list k)
of_named moment c target list None = tt
of_named moment c target list (Some k) = of_own moment c target list _

issues : (moment : ℤ) (next : List SecretObject) (target : Option SecretObject) (list : List CertificateRequest) (c : Option Certificate) → IsAnsweredAct (issuance.issuing_of moment next target list c)
issues moment next target list None = tt
issues moment next target list (Some c) = search (either, of_named)

readies : (moment : ℤ) (secret : Option SecretObject) (list : List CertificateRequest) (c : Option Certificate) → IsAnsweredAct (readying.ready_of moment secret list c)
unfolding ready_call
readies moment secret list None = tt
readies moment secret list (Some c) = search either

of_limit : (limit : Option ℕ) (list : List CertificateRequest) → IsAnsweredAct (revising.by_limit limit list)
of_limit None list = tt
of_limit (Some limit) list = search (either, of_deleted)

revises : (list : List CertificateRequest) (c : Option Certificate) → IsAnsweredAct (revising.revise_of list c)
revises list None = tt
revises list (Some c) = search (either, of_limit)

-- ---- requests

judges : (rules : Rules) (r : Option CertificateRequest) → IsAnsweredAct (approving.judge_of rules r)
unfolding ask_judgement
judges rules None = tt
judges rules (Some r) = search either

of_denial : (moment : ℤ) (r : CertificateRequest) → IsAnsweredCall (granting.status_call (granting.denied_status r.status moment) r)
unfolding granting.status_call
of_denial moment r = outcome_denied r.status moment

of_grant : (moment : ℤ) (desk : Desk) (r : CertificateRequest) → IsAnsweredAct (granting.grant moment desk r)
unfolding ask_issuer
of_grant moment desk r = search either

grants : (moment : ℤ) (desk : Desk) (r : Option CertificateRequest) → IsAnsweredAct (granting.grant_of moment desk r)
grants moment desk None = tt
grants moment desk (Some r) = search (either, of_denial, of_grant)

-- ---- what a role does

pub answered_act : (role : Role) (seen : Views) (moment : ℤ) (desk : Desk) → IsAnsweredAct (act role seen moment desk)
unfolding act trigger key_manager request_manager approver issuer issuing readiness revise
answered_act Trigger seen moment desk = triggers moment seen.secret seen.requests seen.certificate
answered_act KeyManager seen moment desk = manages seen.certificate desk seen.secret seen.next
answered_act RequestManager seen moment desk = asks seen.certificate seen.next seen.requests
answered_act Approver seen moment desk = judges desk.rules seen.request
answered_act Issuer seen moment desk = grants moment desk seen.request
answered_act Issuing seen moment desk = issues moment seen.next seen.secret seen.requests seen.certificate
answered_act Readiness seen moment desk = readies moment seen.secret seen.requests seen.certificate
answered_act Revision seen moment desk = revises seen.requests seen.certificate

-- ---- what follows a value

abbrev IsAnsweredOption : Option Call → Type 0
IsAnsweredOption None = Unit {0}
IsAnsweredOption (Some call) = IsAnsweredCall call

kept_one : (c : Option Certificate) (value : Value) → IsAnsweredOption (keys.kept_for c value)
unfolding make_call
kept_one (Some c) (values.Made file) = tt
kept_one c value = tt

signed_one : (c : Certificate) (k : SecretObject) (key : Option PublicKey) (signature : List ℕ) → IsAnsweredOption (requests.signed_by c k key signature)
unfolding make_request
signed_one c k None signature = tt
signed_one c k (Some key) signature = tt

signed_file : (c : Certificate) (k : SecretObject) (file : Option (List ℕ)) (signature : List ℕ) → IsAnsweredOption (requests.signed_in c k file signature)
signed_file c k None signature = tt
signed_file c k (Some file) signature = signed_one c k _ signature

signed_key : (c : Certificate) (k : Option SecretObject) (signature : List ℕ) → IsAnsweredOption (requests.signed_with c k signature)
signed_key c None signature = tt
signed_key c (Some k) signature = signed_file c k _ signature

signed_all : (c : Option Certificate) (next : List SecretObject) (signature : List ℕ) → IsAnsweredOption (requests.signed_for c next signature)
signed_all None next signature = tt
signed_all (Some c) next signature = signed_key c (named_key c.status.next_key next) signature

requested : (seen : Views) (value : Value) → IsAnsweredOption (requests.request_from seen value)
requested seen (values.Signed signature) = signed_all seen.certificate seen.next signature
requested seen other = tt

-- a verdict is of another kind than Ready
abbrev IsVerdict : Option Condition → Type 0
IsVerdict None = Unit {0}
IsVerdict (Some verdict) = (condition_rank verdict.kind == 0) ≡ false

verdict_is : (moment : ℤ) (approved : Bool) (denial : Option Denial) → IsVerdict (verdict_by moment approved denial)
unfolding approval denied_for
verdict_is moment true denial = refl
verdict_is moment false None = tt
verdict_is moment false (Some denial) = refl

verdict_given : (moment : ℤ) (order : Order) (value : Value) → IsVerdict (verdict_of moment order value)
verdict_given moment (orders.Judge order) (values.Judged approved) = verdict_is moment approved (denial_of order)
verdict_given moment order value = tt

judged : (r : Option CertificateRequest) (verdict : Option Condition) → ((q : CertificateRequest) → r ≡ Some q → HasOutcome q.status) → IsVerdict verdict → IsAnsweredOption (approving.judged_for r verdict)
unfolding verdict_call
judged (Some r) (Some verdict) sees is = outcome_judged verdict r.status is (sees r refl)
judged r verdict sees is = tt

answered_value : (moment : ℤ) (r : CertificateRequest) (value : Value) → IsAnsweredOption (granting.answered_with moment r value)
unfolding granting.status_call
answered_value moment r (values.Answered answer) = outcome_answered r.status answer moment
answered_value moment r other = tt

answered_one : (moment : ℤ) (r : Option CertificateRequest) (order : Order) (value : Value) → IsAnsweredOption (granting.answered_to moment r order value)
answered_one moment (Some r) (orders.Sign order) value = answered_value moment r value
answered_one moment None (orders.Sign order) value = tt
answered_one moment r other value = tt

answered_next : (role : Role) (seen : Views) (moment : ℤ) (order : Order) (value : Value) → SeesAnswered seen → IsAnsweredOption (call_after role seen moment order value)
unfolding call_after key_after request_after judged_after answered_after
answered_next KeyManager seen moment order value sees = kept_one seen.certificate value
answered_next RequestManager seen moment order value sees = requested seen value
answered_next Approver seen moment order value sees = judged seen.request (verdict_of moment order value) sees (verdict_given moment order value)
answered_next Issuer seen moment order value sees = answered_one moment seen.request order value
answered_next other seen moment order value sees = tt

pub answered_after_value : (role : Role) (seen : Views) (moment : ℤ) (order : Order) (value : Value) (call : Call) → SeesAnswered seen → call_after role seen moment order value ≡ Some call → IsAnsweredCall call
answered_after_value role seen moment order value call sees is = subst IsAnsweredOption is (answered_next role seen moment order value sees)
