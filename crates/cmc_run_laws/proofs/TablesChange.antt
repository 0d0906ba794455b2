-- What a role writes changes what it saw: no table writes a status that stands so already.
use Rattle.std.proofs.Common.{◌≡◌, ℕ, ℤ, ◌+◌, List, [], ◌∷◌, Option, Some, None, Bool, true, false, refl, ap, subst, ◌∙◌, arith}
use Rattle.std.proofs.lemmas.Bool.Decides.{Decides-int_eq}
use Rattle.std.proofs.lemmas.Bool.{and_from}
use Rattle.std.proofs.lemmas.Slice.Eq.{bytes_eq-Decides}
use Rattle.std.specs.Prelude.{if◌then◌else◌, codes, unwrap_or}
use Rattle.std.specs.Str.{bytes_eq}
use Rattle.cmc_der.specs.Keys.{PublicKey, CertificateFields}
use Rattle.cmc_objects.specs.declared.certificate.Certificate.{Certificate}
use Rattle.cmc_objects.specs.declared.certificate.CertStatus.{CertStatus}
use Rattle.cmc_objects.specs.declared.request.CertificateRequest.{CertificateRequest}
use Rattle.cmc_objects.specs.declared.request.RequestStatus.{RequestStatus}
use Rattle.cmc_objects.specs.declared.secret.Secret.{Secret as SecretObject}
use Rattle.cmc_objects.specs.declared.object.Object.{Object}
use Rattle.cmc_objects.specs.declared.key_spec.Rotation.TheVariants.{Always, Never}
use Rattle.cmc_objects.specs.declared.key_spec.Rotation.{Rotation}
use Rattle.cmc_objects.specs.declared.orders.Rules.{Rules}
use Rattle.cmc_objects.specs.declared.call.Call.{Call}
use Rattle.cmc_objects.specs.declared.role.Role.{Role}
use Rattle.cmc_objects.specs.declared.role.Role.TheVariants.{Trigger, KeyManager, RequestManager, Approver, Issuer, Issuing, Readiness, Revision}
use Rattle.cmc_objects.specs.Requests.{is_denied, is_stated}
use Rattle.cmc_match.specs.Facts.{fits}
use Rattle.cmc_meta.specs.declared.conditions.Condition.{Condition}
use Rattle.cmc_meta.specs.declared.conditions.ConditionKind.TheVariants as conditions
use Rattle.cmc_meta.specs.declared.conditions.Tri.{Tri}
use Rattle.cmc_meta.specs.declared.conditions.Tri.TheVariants as tri
use Rattle.cmc_meta.specs.ConditionLists.{condition_at, IsInOrder, kept_since, transitioned, tri_eq}
use Rattle.cmc_policies.specs.declared.facts.Reason.{Reason}
use Rattle.cmc_policies.specs.declared.renewal.Renew.{Renew}
use Rattle.cmc_pass.specs.declared.pass.Views.{Views}
use Rattle.cmc_pass.specs.declared.pass.Desk.{Desk}
use Rattle.cmc_pass.specs.declared.pass.Act.{Act}
use Rattle.cmc_pass.specs.declared.pass.Act.TheVariants.{Nothing, Call as Calls, Issue, Temporary}
use Rattle.cmc_rules.specs.Acts.{act}
use Rattle.cmc_rules.specs.Trigger as triggering
use Rattle.cmc_rules.specs.KeyManager as keys
use Rattle.cmc_rules.specs.RequestManager as requests
use Rattle.cmc_rules.specs.Approver as approving
use Rattle.cmc_rules.specs.Issuer as granting
use Rattle.cmc_rules.specs.Issuance as issuance
use Rattle.cmc_rules.specs.Readiness as readying
use Rattle.cmc_rules.specs.RevisionManager as revising
use Rattle.cmc_rules.specs.NextKeys.{has_fitting_key, is_named, named_key}
use Rattle.cmc_rules.specs.NextRequests.{is_refused, is_wanted, next_requests}
use Rattle.cmc_rules.specs.Trigger.{trigger, for_certificate, for_reason, issue_call, issuing_condition, issuing_status, with_issuing}
use Rattle.cmc_rules.specs.KeyManager.{key_manager, name_call, drop_call, ask_key, make_call}
use Rattle.cmc_rules.specs.RequestManager.{request_manager, ask_signature}
use Rattle.cmc_rules.specs.Approver.{approver, ask_judgement}
use Rattle.cmc_rules.specs.Issuer.{issuer, ask_issuer, denied_condition, denied_status}
use Rattle.cmc_rules.specs.Issuance.{issuing, ended_condition, failed_status, issued_status, failure, issue_plan, temporary_plan, secret_call}
use Rattle.cmc_rules.specs.Readiness.{readiness, is_settled, ready_call, ready_condition, ready_status}
use Rattle.cmc_rules.specs.RevisionManager.{revise, delete_call, delete_of}
use Rattle.cmc_rules.proofs.Lines.{by_test}
use Rattle.cmc_safety.proofs.Kept.{Any, Brings, OnStatus}
use Rattle.cmc_run_laws.proofs.IdleCalls.{ChangesSeen, restates_certificate, restates_request}
use Rattle.cmc_run_laws.proofs.NewConditions.{found_new, stated_new, transitioned_in_order, unstated_new}

-- ---- what is said of an act

-- a Certificate's conditions are in order
abbrev pub IsOrderly : Object → Type 0
IsOrderly o = OnStatus (λ (status : CertStatus). IsInOrder status.conditions) (λ (status : RequestStatus). Unit {0}) o

-- the call changes what was seen, and the Certificate that it writes is orderly
pub record IsProper (seen : Views) (call : Call) : Type 0 where
  pub changes : ChangesSeen seen call
  pub orderly : Brings Any IsOrderly call

-- the Secret that a plan writes is another matter
abbrev pub IsProperAct : Views → Act → Type 0
IsProperAct seen (Calls call) = IsProper seen call
IsProperAct seen (Issue plan) = Brings Any IsOrderly plan.secret × IsProper seen plan.status
IsProperAct seen (Temporary plan) = Brings Any IsOrderly plan.secret
IsProperAct seen other = Unit {0}

-- the Certificate that is seen is orderly
abbrev pub SeesInOrder : Views → Type 0
SeesInOrder seen = (c : Certificate) → seen.certificate ≡ Some c → IsInOrder c.status.conditions

either : (seen : Views) (b : Bool) (x y : Act) → IsProperAct seen x → IsProperAct seen y → IsProperAct seen (if b then x else y)
either seen true x y one other = one
either seen false x y one other = other

-- ---- the trigger

issuing_differs : (moment : ℤ) (reason : Reason) (c : Certificate) → triggering.is_issuing c ≡ false → issuing_status moment reason c.status ≡ c.status → ⊥
unfolding issuing_status issuing_condition
issuing_differs moment reason c off same =
    let on : is_stated conditions.Issuing (transitioned c.status.conditions (issuing_condition moment reason)) ≡ true = stated_new c.status.conditions (issuing_condition moment reason) refl in
    let now : triggering.is_issuing c ≡ true = subst (λ (l : List Condition). is_stated conditions.Issuing l ≡ true) (ap (λ (st : CertStatus). st.conditions) same) on in
    cc (now, off)

issuing_order : (moment : ℤ) (reason : Reason) (c : Certificate) → IsInOrder c.status.conditions → IsInOrder (issuing_status moment reason c.status).conditions
unfolding issuing_status
issuing_order moment reason c order = transitioned_in_order c.status.conditions (issuing_condition moment reason) order

of_issue_call : (seen : Views) (moment : ℤ) (reason : Reason) (c : Certificate) → seen.certificate ≡ Some c → SeesInOrder seen → triggering.is_issuing c ≡ false → IsProperAct seen (issue_call moment reason c)
unfolding issue_call with_issuing
of_issue_call seen moment reason c sees order off =
    record { changes = restates_certificate seen c (issuing_status moment reason c.status) sees (issuing_differs moment reason c off); orderly = issuing_order moment reason c (order c sees) }

of_reason : (seen : Views) (moment : ℤ) (list : List CertificateRequest) (c : Certificate) (reason : Option Reason) → seen.certificate ≡ Some c → SeesInOrder seen → triggering.is_issuing c ≡ false
    → IsProperAct seen (for_reason moment list c reason)
of_reason seen moment list c None sees order off = tt
of_reason seen moment list c (Some reason) sees order off = either seen (triggering.is_in_back_off moment list c) Nothing (issue_call moment reason c) tt (of_issue_call seen moment reason c sees order off)

triggers : (seen : Views) (moment : ℤ) (secret : Option SecretObject) (list : List CertificateRequest) (c : Option Certificate) → seen.certificate ≡ c → SeesInOrder seen → IsProperAct seen (triggering.for_option moment secret list c)
unfolding for_certificate
triggers seen moment secret list None sees order = tt
triggers seen moment secret list (Some c) sees order = by_test (IsProperAct seen) (triggering.is_issuing c) _ _ (λ on. tt) (λ off. of_reason seen moment list c _ sees order off)

-- ---- the key manager

of_name : (seen : Views) (name : Option (List ℕ)) (c : Certificate) → seen.certificate ≡ Some c → SeesInOrder seen → (name ≡ c.status.next_key → ⊥) → IsProperAct seen (name_call name c)
unfolding name_call
of_name seen name c sees order differs =
    record { changes = restates_certificate seen c (record c.status { next_key = name }) sees (λ same. differs (ap (λ (st : CertStatus). st.next_key) same)); orderly = order c sees }

of_drop : (seen : Views) (k : SecretObject) → IsProperAct seen (drop_call k)
unfolding drop_call
of_drop seen k = record { changes = tt; orderly = tt }

of_made : (seen : Views) (c : Certificate) (file : List ℕ) → IsProperAct seen (Calls (make_call c file))
unfolding make_call
of_made seen c file = record { changes = tt; orderly = tt }

of_reused : (seen : Views) (c : Certificate) (desk : Desk) (file : Option (List ℕ)) → IsProperAct seen (keys.reused c desk file)
unfolding ask_key
of_reused seen c desk None = tt
of_reused seen c desk (Some file) = search (either, of_made)

of_rotated : (seen : Views) (c : Certificate) (desk : Desk) (file : Option (List ℕ)) (rotation : Rotation) → IsProperAct seen (keys.rotated c desk file rotation)
unfolding ask_key
of_rotated seen c desk file Always = tt
of_rotated seen c desk file Never = of_reused seen c desk file

unnamed_differs : (c : Certificate) (k : SecretObject) → is_named c.status.next_key k ≡ false → Some k.meta.name ≡ c.status.next_key → ⊥
unnamed_differs c k off same =
    let on : is_named c.status.next_key k ≡ true = subst (λ (x : Option (List ℕ)). is_named x k ≡ true) same ((bytes_eq-Decides k.meta.name k.meta.name).1 refl) in
    cc (on, off)

of_only : (seen : Views) (c : Certificate) (k : SecretObject) → seen.certificate ≡ Some c → SeesInOrder seen → IsProperAct seen (keys.only_key c k)
of_only seen c k sees order =
    by_test (IsProperAct seen) (has_fitting_key c.spec.key k) _ _
    (λ fit. by_test (IsProperAct seen) (is_named c.status.next_key k) _ _ (λ on. tt) (λ off. of_name seen (Some k.meta.name) c sees order (unnamed_differs c k off))) (λ unfit. of_drop seen k)

of_dropped : (seen : Views) (k : Option SecretObject) → IsProperAct seen (keys.dropped k)
of_dropped seen None = tt
of_dropped seen (Some k) = of_drop seen k

of_issued : (seen : Views) (c : Certificate) (desk : Desk) (target : Option SecretObject) (next : List SecretObject) → seen.certificate ≡ Some c → SeesInOrder seen → IsProperAct seen (keys.while_issuing c desk target next)
of_issued seen c desk target [] sees order = of_rotated seen c desk (keys.target_key target) _
of_issued seen c desk target (k ∷ []) sees order = of_only seen c k sees order
of_issued seen c desk target (k ∷ j ∷ ks) sees order = of_dropped seen _

of_unnamed : (seen : Views) (c : Certificate) (name : Option (List ℕ)) → seen.certificate ≡ Some c → SeesInOrder seen → c.status.next_key ≡ name → IsProperAct seen (keys.unnamed c name)
of_unnamed seen c None sees order is = tt
of_unnamed seen c (Some name) sees order is = of_name seen None c sees order (λ same. absurd (cc (same ∙ is)))

of_idle : (seen : Views) (c : Certificate) (next : List SecretObject) → seen.certificate ≡ Some c → SeesInOrder seen → IsProperAct seen (keys.while_idle c next)
of_idle seen c [] sees order = of_unnamed seen c c.status.next_key sees order refl
of_idle seen c (k ∷ ks) sees order = of_drop seen k

manages : (seen : Views) (c : Option Certificate) (desk : Desk) (target : Option SecretObject) (next : List SecretObject) → seen.certificate ≡ c → SeesInOrder seen → IsProperAct seen (keys.keys_of c desk target next)
manages seen None desk target next sees order = tt
manages seen (Some c) desk target next sees order =
    either seen (triggering.is_issuing c) (keys.while_issuing c desk target next) (keys.while_idle c next) (of_issued seen c desk target next sees order) (of_idle seen c next sees order)

-- ---- requests that are made and deleted

of_deletion : (seen : Views) (r : CertificateRequest) → IsProperAct seen (delete_call r)
unfolding delete_call
of_deletion seen r = record { changes = tt; orderly = tt }

of_deleted : (seen : Views) (r : Option CertificateRequest) → IsProperAct seen (delete_of r)
of_deleted seen None = tt
of_deleted seen (Some r) = of_deletion seen r

of_asked : (seen : Views) (c : Certificate) (file : List ℕ) (key : Option PublicKey) → IsProperAct seen (requests.ask_with c file key)
unfolding ask_signature
of_asked seen c file None = tt
of_asked seen c file (Some key) = tt

of_count : (seen : Views) (c : Certificate) (file : List ℕ) (next : List CertificateRequest) → IsProperAct seen (requests.by_count c file next)
of_count seen c file next = search (either, of_asked, of_deleted)

of_stale : (seen : Views) (c : Certificate) (file : List ℕ) (list : List CertificateRequest) (stale : Option CertificateRequest) → IsProperAct seen (requests.by_stale c file list stale)
of_stale seen c file list None = of_count seen c file (next_requests c list)
of_stale seen c file list (Some r) = of_deletion seen r

of_file : (seen : Views) (c : Certificate) (list : List CertificateRequest) (file : Option (List ℕ)) → IsProperAct seen (requests.with_request_file c list file)
of_file seen c list None = tt
of_file seen c list (Some file) = search (either, of_stale)

of_key : (seen : Views) (c : Certificate) (list : List CertificateRequest) (k : Option SecretObject) → IsProperAct seen (requests.with_key c list k)
of_key seen c list None = tt
of_key seen c list (Some k) = of_file seen c list _

asks : (seen : Views) (c : Option Certificate) (next : List SecretObject) (list : List CertificateRequest) → IsProperAct seen (requests.request_of c next list)
asks seen None next list = tt
asks seen (Some c) next list = search (either, of_key)

of_limit : (seen : Views) (limit : Option ℕ) (list : List CertificateRequest) → IsProperAct seen (revising.by_limit limit list)
of_limit seen None list = tt
of_limit seen (Some limit) list = search (either, of_deleted)

revises : (seen : Views) (list : List CertificateRequest) (c : Option Certificate) → IsProperAct seen (revising.revise_of list c)
revises seen list None = tt
revises seen list (Some c) = search (either, of_limit)

-- ---- approver and issuer

judges : (seen : Views) (rules : Rules) (r : Option CertificateRequest) → IsProperAct seen (approving.judge_of rules r)
unfolding ask_judgement
judges seen rules None = tt
judges seen rules (Some r) = search either

kept_reason : (old : Option Condition) (new : Condition) (reason : List ℕ) → bytes_eq new.reason reason ≡ true → granting.gives reason (Some (kept_since old new)) ≡ true
kept_reason None new reason is = is
kept_reason (Some old) new reason is = is

denied_differs : (moment : ℤ) (r : CertificateRequest) → granting.has_reason (codes "Denied") r ≡ false → denied_status r.status moment ≡ r.status → ⊥
unfolding denied_status denied_condition
denied_differs moment r off same =
    let found = found_new r.status.conditions (denied_condition moment) in
    let there : condition_at r.status.conditions conditions.Ready ≡ Some (kept_since (condition_at r.status.conditions conditions.Ready) (denied_condition moment)) =
    subst (λ (l : List Condition). condition_at l conditions.Ready ≡ Some (kept_since (condition_at r.status.conditions conditions.Ready) (denied_condition moment))) (ap (λ (st : RequestStatus). st.conditions) same) found in
    let on : granting.has_reason (codes "Denied") r ≡ true = ap (granting.gives (codes "Denied")) there ∙ kept_reason (condition_at r.status.conditions conditions.Ready) (denied_condition moment) (codes "Denied") refl in
    cc (on, off)

of_denial : (seen : Views) (moment : ℤ) (r : CertificateRequest) → seen.request ≡ Some r → granting.has_reason (codes "Denied") r ≡ false → IsProperAct seen (Calls (granting.status_call (denied_status r.status moment) r))
unfolding granting.status_call
of_denial seen moment r sees off = record { changes = restates_request seen r (denied_status r.status moment) sees (denied_differs moment r off); orderly = tt }

of_grant : (seen : Views) (moment : ℤ) (desk : Desk) (r : CertificateRequest) → IsProperAct seen (granting.grant moment desk r)
unfolding ask_issuer
of_grant seen moment desk r = search either

grants : (seen : Views) (moment : ℤ) (desk : Desk) (r : Option CertificateRequest) → seen.request ≡ r → IsProperAct seen (granting.grant_of moment desk r)
grants seen moment desk None sees = tt
grants seen moment desk (Some r) sees =
    by_test (IsProperAct seen) (is_denied r) _ _ (λ denied. by_test (IsProperAct seen) (granting.has_reason (codes "Denied") r) _ _ (λ on. tt) (λ off. of_denial seen moment r sees off))
    (λ undenied. of_grant seen moment desk r)

-- ---- issuing

failed_differs : (moment : ℤ) (reason : List ℕ) (c : Certificate) → triggering.is_issuing c ≡ true → IsInOrder c.status.conditions → failed_status moment reason c.status ≡ c.status → ⊥
unfolding failed_status ended_condition
failed_differs moment reason c on order same =
    unstated_new c.status.conditions (ended_condition moment reason (codes "The certificate request has failed to complete and will be retried")) order refl on (ap (λ (st : CertStatus). st.conditions) same)

failed_order : (moment : ℤ) (reason : List ℕ) (c : Certificate) → IsInOrder c.status.conditions → IsInOrder (failed_status moment reason c.status).conditions
unfolding failed_status
failed_order moment reason c order = transitioned_in_order c.status.conditions _ order

of_failure : (seen : Views) (moment : ℤ) (reason : List ℕ) (c : Certificate) → seen.certificate ≡ Some c → SeesInOrder seen → triggering.is_issuing c ≡ true → IsProperAct seen (failure moment reason c)
unfolding failure issuance.status_call
of_failure seen moment reason c sees order on =
    record { changes = restates_certificate seen c (failed_status moment reason c.status) sees (failed_differs moment reason c on (order c sees)); orderly = failed_order moment reason c (order c sees) }

raised : (old : Option ℕ) → Some (unwrap_or old 0 + 1) ≡ old → ⊥
raised None same = cc same
raised (Some n) same = let more : n + 1 ≡ n = cc same in omega (arith, more)

issued_differs : (moment : ℤ) (c : Certificate) → issued_status moment c.status ≡ c.status → ⊥
unfolding issued_status
issued_differs moment c same = raised c.status.revision (ap (λ (st : CertStatus). st.revision) same)

issued_order : (moment : ℤ) (c : Certificate) → IsInOrder c.status.conditions → IsInOrder (issued_status moment c.status).conditions
unfolding issued_status
issued_order moment c order = transitioned_in_order c.status.conditions _ order

of_secret : (stand_in : Bool) (c : Certificate) (file certificate ca : List ℕ) (target : Option SecretObject) → Brings Any IsOrderly (secret_call stand_in c file certificate ca target)
unfolding secret_call
of_secret stand_in c file certificate ca None = tt
of_secret stand_in c file certificate ca (Some old) = tt

of_plan : (seen : Views) (moment : ℤ) (c : Certificate) (file : List ℕ) (r : CertificateRequest) (target : Option SecretObject) → seen.certificate ≡ Some c → SeesInOrder seen → IsProperAct seen (Issue (issue_plan moment c file r target))
unfolding issue_plan issuance.status_call
of_plan seen moment c file r target sees order =
    (of_secret false c file _ _ target, record { changes = restates_certificate seen c (issued_status moment c.status) sees (issued_differs moment c); orderly = issued_order moment c (order c sees) })

of_stand_in : (seen : Views) (c : Certificate) (file : List ℕ) (target : Option SecretObject) (certificate : Option (List ℕ)) → IsProperAct seen (issuance.temporary_with c file target certificate)
unfolding temporary_plan
of_stand_in seen c file target None = tt
of_stand_in seen c file target (Some certificate) = search (either, of_secret)

of_waiting : (seen : Views) (moment : ℤ) (c : Certificate) (file : List ℕ) (target : Option SecretObject) (r : CertificateRequest) → IsProperAct seen (issuance.while_waiting moment c file target r)
of_waiting seen moment c file target r = search (either, of_stand_in)

of_wanted : (seen : Views) (moment : ℤ) (c : Certificate) (file : List ℕ) (target : Option SecretObject) (r : CertificateRequest) → seen.certificate ≡ Some c → SeesInOrder seen → triggering.is_issuing c ≡ true
    → IsProperAct seen (issuance.with_wanted moment c file target r)
of_wanted seen moment c file target r sees order on =
    by_test (IsProperAct seen) (is_refused r) _ _
    (λ refused. by_test (IsProperAct seen) (issuance.fails_now c r r.status.failure) _ _ (λ failed. of_failure seen moment (issuance.refusal r) c sees order on) (λ before. tt))
    (λ stands. by_test (IsProperAct seen) (issuance.is_granted r) _ _
    (λ granted. by_test (IsProperAct seen) (issuance.is_certified file r.status.certificate) _ _
    (λ read. by_test (IsProperAct seen) (issuance.is_kept_for_keys target) _ _ (λ kept. tt) (λ free. of_plan seen moment c file r target sees order))
    (λ foreign. of_failure seen moment (codes "InvalidCertificate") c sees order on))
    (λ waits. of_waiting seen moment c file target r))

of_next : (seen : Views) (moment : ℤ) (c : Certificate) (file : List ℕ) (target : Option SecretObject) (r : Option CertificateRequest) → seen.certificate ≡ Some c → SeesInOrder seen → triggering.is_issuing c ≡ true
    → IsProperAct seen (issuance.with_request moment c file target r)
of_next seen moment c file target None sees order on = tt
of_next seen moment c file target (Some r) sees order on = by_test (IsProperAct seen) (is_wanted c file r) _ _ (λ wanted. of_wanted seen moment c file target r sees order on) (λ off. tt)

of_own : (seen : Views) (moment : ℤ) (c : Certificate) (target : Option SecretObject) (list : List CertificateRequest) (file : Option (List ℕ)) → seen.certificate ≡ Some c → SeesInOrder seen → triggering.is_issuing c ≡ true
    → IsProperAct seen (issuance.with_file moment c target list file)
of_own seen moment c target list None sees order on = tt
of_own seen moment c target list (Some file) sees order on = by_test (IsProperAct seen) (fits c.spec.key file) _ _ (λ fit. of_next seen moment c file target _ sees order on) (λ off. tt)

of_named : (seen : Views) (moment : ℤ) (c : Certificate) (target : Option SecretObject) (list : List CertificateRequest) (k : Option SecretObject) → seen.certificate ≡ Some c → SeesInOrder seen → triggering.is_issuing c ≡ true
    → IsProperAct seen (issuance.with_key_of moment c target list k)
of_named seen moment c target list None sees order on = tt
of_named seen moment c target list (Some k) sees order on = of_own seen moment c target list _ sees order on

issues : (seen : Views) (moment : ℤ) (next : List SecretObject) (target : Option SecretObject) (list : List CertificateRequest) (c : Option Certificate) → seen.certificate ≡ c → SeesInOrder seen
    → IsProperAct seen (issuance.issuing_of moment next target list c)
issues seen moment next target list None sees order = tt
issues seen moment next target list (Some c) sees order = by_test (IsProperAct seen) (triggering.is_issuing c) _ _ (λ on. of_named seen moment c target list (named_key c.status.next_key next) sees order on) (λ off. tt)

-- ---- readiness

moment_itself : (x : Option ℤ) → readying.is_same_moment x x ≡ true
moment_itself None = refl
moment_itself (Some t) = (Decides-int_eq t t).1 refl

tri_itself : (t : Tri) → tri_eq t t ≡ true
tri_itself tri.True = refl
tri_itself tri.False = refl
tri_itself tri.Unknown = refl

says_itself : (old : Option Condition) (new : Condition) → readying.says (Some (kept_since old new)) new ≡ true
says_itself None new = and_from _ _ (tri_itself new.status) (and_from _ _ ((bytes_eq-Decides new.reason new.reason).1 refl) ((bytes_eq-Decides new.message new.message).1 refl))
says_itself (Some old) new = and_from _ _ (tri_itself new.status) (and_from _ _ ((bytes_eq-Decides new.reason new.reason).1 refl) ((bytes_eq-Decides new.message new.message).1 refl))

ready_settles : (condition : Condition) (renew : Renew) (pair : Option CertificateFields) (status : CertStatus) → condition.kind ≡ conditions.Ready → is_settled condition renew pair (ready_status condition renew pair status) ≡ true
unfolding is_settled ready_status
ready_settles condition renew pair status kind =
    let found = subst (λ k. condition_at (transitioned status.conditions condition) k ≡ Some (kept_since (condition_at status.conditions condition.kind) condition)) kind (found_new status.conditions condition) in
    and_from _ _ (ap (λ (x : Option Condition). readying.says x condition) found ∙ says_itself (condition_at status.conditions condition.kind) condition)
    (and_from _ _ (moment_itself (readying.begins_at pair)) (and_from _ _ (moment_itself (readying.ends_at pair)) (moment_itself (readying.renews_at renew pair))))

ready_order : (condition : Condition) (renew : Renew) (pair : Option CertificateFields) (status : CertStatus) → IsInOrder status.conditions → IsInOrder (ready_status condition renew pair status).conditions
unfolding ready_status
ready_order condition renew pair status order = transitioned_in_order status.conditions condition order

of_ready_call : (seen : Views) (condition : Condition) (renew : Renew) (pair : Option CertificateFields) (c : Certificate) → seen.certificate ≡ Some c → SeesInOrder seen → condition.kind ≡ conditions.Ready
    → is_settled condition renew pair c.status ≡ false → IsProperAct seen (ready_call condition renew pair c)
unfolding ready_call
of_ready_call seen condition renew pair c sees order kind off = record {
  changes = restates_certificate seen c (ready_status condition renew pair c.status) sees (λ same.
      let on : is_settled condition renew pair c.status ≡ true = subst (λ (st : CertStatus). is_settled condition renew pair st ≡ true) same (ready_settles condition renew pair c.status kind) in
      cc (on, off));
  orderly = ready_order condition renew pair c.status (order c sees);
}

ready_kind : (moment : ℤ) (reason : Option Reason) → (ready_condition moment reason).kind ≡ conditions.Ready
unfolding ready_condition
ready_kind moment None = refl
ready_kind moment (Some reason) = refl

of_ready : (seen : Views) (condition : Condition) (renew : Renew) (pair : Option CertificateFields) (c : Certificate) → seen.certificate ≡ Some c → SeesInOrder seen → condition.kind ≡ conditions.Ready
    → IsProperAct seen (readying.ready_by condition renew pair c)
of_ready seen condition renew pair c sees order kind = by_test (IsProperAct seen) (is_settled condition renew pair c.status) _ _ (λ on. tt) (λ off. of_ready_call seen condition renew pair c sees order kind off)

readies : (seen : Views) (moment : ℤ) (secret : Option SecretObject) (list : List CertificateRequest) (c : Option Certificate) → seen.certificate ≡ c → SeesInOrder seen → IsProperAct seen (readying.ready_of moment secret list c)
readies seen moment secret list None sees order = tt
readies seen moment secret list (Some c) sees order = of_ready seen (ready_condition moment _) _ _ c sees order (ready_kind moment _)

-- ---- what a role does

pub proper_act : (role : Role) (seen : Views) (moment : ℤ) (desk : Desk) → SeesInOrder seen → IsProperAct seen (act role seen moment desk)
unfolding act trigger key_manager request_manager approver issuer issuing readiness revise
proper_act Trigger seen moment desk order = triggers seen moment seen.secret seen.requests seen.certificate refl order
proper_act KeyManager seen moment desk order = manages seen seen.certificate desk seen.secret seen.next refl order
proper_act RequestManager seen moment desk order = asks seen seen.certificate seen.next seen.requests
proper_act Approver seen moment desk order = judges seen desk.rules seen.request
proper_act Issuer seen moment desk order = grants seen moment desk seen.request refl
proper_act Issuing seen moment desk order = issues seen moment seen.next seen.secret seen.requests seen.certificate refl order
proper_act Readiness seen moment desk order = readies seen moment seen.secret seen.requests seen.certificate refl order
proper_act Revision seen moment desk order = revises seen seen.requests seen.certificate
