-- What a role writes after the value of its question changes what it saw.
use Rattle.std.proofs.Common.{◌≡◌, ℕ, ℤ, pos, List, Option, Some, None, Bool, true, false, ◌&&◌, ◌||◌, not, refl, ap, subst, ◌∙◌, arith}
use Rattle.std.proofs.lemmas.Bool.{and_parts, or_parts}
use Rattle.std.proofs.lemmas.Int.{ints}
use Rattle.std.specs.Prelude.{if◌then◌else◌, codes, int_lt, ◌+ℤ◌}
use Rattle.std.specs.Str.{bytes_eq}
use Rattle.cmc_der.specs.Keys.{PublicKey}
use Rattle.cmc_objects.specs.declared.certificate.Certificate.{Certificate}
use Rattle.cmc_objects.specs.declared.request.CertificateRequest.{CertificateRequest}
use Rattle.cmc_objects.specs.declared.request.RequestStatus.{RequestStatus}
use Rattle.cmc_objects.specs.declared.secret.Secret.{Secret as SecretObject}
use Rattle.cmc_objects.specs.declared.orders.Order.{Order}
use Rattle.cmc_objects.specs.declared.orders.Order.TheVariants as orders
use Rattle.cmc_objects.specs.declared.orders.Rules.{Rules}
use Rattle.cmc_objects.specs.declared.call.Call.{Call}
use Rattle.cmc_objects.specs.declared.role.Role.{Role}
use Rattle.cmc_objects.specs.declared.role.Role.TheVariants.{KeyManager, RequestManager, Approver, Issuer}
use Rattle.cmc_objects.specs.Requests.{is_approved, is_denied, is_stated}
use Rattle.cmc_meta.specs.declared.conditions.Condition.{Condition}
use Rattle.cmc_meta.specs.declared.conditions.ConditionKind.TheVariants as conditions
use Rattle.cmc_meta.specs.declared.conditions.Tri.TheVariants as tri
use Rattle.cmc_meta.specs.ConditionLists.{condition_at, kept_since, transitioned, tri_eq}
use Rattle.cmc_answers.specs.declared.denial.Denial.{Denial}
use Rattle.cmc_objects.specs.declared.orders.Signing.{Signing}
use Rattle.cmc_objects.specs.declared.orders.Signing.TheVariants as signings
use Rattle.cmc_answers.specs.Denials.{denial_of}
use Rattle.cmc_pass.specs.declared.pass.Views.{Views}
use Rattle.cmc_pass.specs.declared.pass.Desk.{Desk}
use Rattle.cmc_pass.specs.declared.pass.Act.{Act}
use Rattle.cmc_pass.specs.declared.pass.Act.TheVariants.{Nothing, Call as Calls, Ask as Asks}
use Rattle.cmc_pass.specs.declared.value.Value.{Value}
use Rattle.cmc_pass.specs.declared.value.Value.TheVariants as values
use Rattle.cmc_rules.specs.Acts.{act, call_after}
use Rattle.cmc_rules.specs.IssuerAnswers.{answered, issued_condition, pending_condition, failed_condition}
use Rattle.cmc_rules.specs.Approver as approving
use Rattle.cmc_rules.specs.Approver.{approver, judged_after, ask_judgement, verdict_call, judged_status, approval, denied_for, verdict_by, verdict_of}
use Rattle.cmc_rules.specs.Issuer as granting
use Rattle.cmc_rules.specs.Issuer.{issuer, answered_after, ask_issuer}
use Rattle.cmc_rules.specs.KeyManager as keys
use Rattle.cmc_rules.specs.KeyManager.{key_after, make_call}
use Rattle.cmc_rules.specs.NextKeys.{named_key}
use Rattle.cmc_rules.specs.RequestManager as requests
use Rattle.cmc_rules.specs.RequestManager.{request_after, make_request}
use Rattle.cmc_run_laws.proofs.IdleCalls.{ChangesSeen, restates_request}
use Rattle.cmc_run_laws.proofs.NewConditions.{found_new, found_renewed, stated_new}

abbrev ChangesOption : Views → Option Call → Type 0
ChangesOption seen None = Unit {0}
ChangesOption seen (Some call) = ChangesSeen seen call

-- ---- what is made

kept_one : (seen : Views) (c : Option Certificate) (value : Value) → ChangesOption seen (keys.kept_for c value)
unfolding make_call
kept_one seen (Some c) (values.Made file) = tt
kept_one seen c value = tt

signed_one : (seen : Views) (c : Certificate) (k : SecretObject) (key : Option PublicKey) (signature : List ℕ) → ChangesOption seen (requests.signed_by c k key signature)
unfolding make_request
signed_one seen c k None signature = tt
signed_one seen c k (Some key) signature = tt

signed_file : (seen : Views) (c : Certificate) (k : SecretObject) (file : Option (List ℕ)) (signature : List ℕ) → ChangesOption seen (requests.signed_in c k file signature)
signed_file seen c k None signature = tt
signed_file seen c k (Some file) signature = signed_one seen c k _ signature

signed_key : (seen : Views) (c : Certificate) (k : Option SecretObject) (signature : List ℕ) → ChangesOption seen (requests.signed_with c k signature)
signed_key seen c None signature = tt
signed_key seen c (Some k) signature = signed_file seen c k _ signature

signed_all : (seen : Views) (c : Option Certificate) (next : List SecretObject) (signature : List ℕ) → ChangesOption seen (requests.signed_for c next signature)
signed_all seen None next signature = tt
signed_all seen (Some c) next signature = signed_key seen c (named_key c.status.next_key next) signature

requested : (seen : Views) (value : Value) → ChangesOption seen (requests.request_from seen value)
requested seen (values.Signed signature) = signed_all seen seen.certificate seen.next signature
requested seen other = tt

-- ---- the approver asks about a request without a verdict

record HasNoVerdict (r : CertificateRequest) : Type 0 where
  approved : is_approved r ≡ false
  denied : is_denied r ≡ false

asked_by : (settled covered : Bool) (a : Act) (order : Order) → (if settled then Nothing else (if covered then a else Nothing)) ≡ Asks order → settled ≡ false
asked_by true covered a order is = absurd (cc is)
asked_by false covered a order is = refl

judges_open : (rules : Rules) (x : Option CertificateRequest) (order : Order) → approving.judge_of rules x ≡ Asks order → (r : CertificateRequest) → x ≡ Some r → HasNoVerdict r
judges_open rules None order is r sees = absurd (cc sees)
judges_open rules (Some q) order is r sees =
    let same : q ≡ r = cc sees in
    let off = or_parts (is_approved q) (is_denied q) (asked_by (is_approved q || is_denied q) (approving.is_covered rules q.spec.issuer) (ask_judgement q rules) order is) in
    subst HasNoVerdict same (record { approved = off.0; denied = off.1 })

-- a verdict is Approved or Denied, and True
abbrev IsVerdictOn : CertificateRequest → Option Condition → Type 0
IsVerdictOn r None = Unit {0}
IsVerdictOn r (Some verdict) = (tri_eq verdict.status tri.True ≡ true) × (is_stated verdict.kind r.status.conditions ≡ false)

verdict_is : (r : CertificateRequest) (moment : ℤ) (approved : Bool) (denial : Option Denial) → HasNoVerdict r → IsVerdictOn r (verdict_by moment approved denial)
unfolding approval denied_for
verdict_is r moment true denial unmet = (refl, unmet.approved)
verdict_is r moment false None unmet = tt
verdict_is r moment false (Some denial) unmet = (refl, unmet.denied)

verdict_given : (r : CertificateRequest) (moment : ℤ) (order : Order) (value : Value) → HasNoVerdict r → IsVerdictOn r (verdict_of moment order value)
verdict_given r moment (orders.Judge order) (values.Judged approved) unmet = verdict_is r moment approved (denial_of order) unmet
verdict_given r moment order value unmet = tt

judged_differs : (r : CertificateRequest) (verdict : Condition) → IsVerdictOn r (Some verdict) → judged_status verdict r.status ≡ r.status → ⊥
unfolding judged_status
judged_differs r verdict is same =
    let on : is_stated verdict.kind r.status.conditions ≡ true =
    subst (λ (l : List Condition). is_stated verdict.kind l ≡ true) (ap (λ (st : RequestStatus). st.conditions) same) (stated_new r.status.conditions verdict is.0) in
    let off = is.1 in
    cc (on, off)

judged : (seen : Views) (x : Option CertificateRequest) (verdict : Option Condition) → seen.request ≡ x → ((r : CertificateRequest) → x ≡ Some r → IsVerdictOn r verdict) → ChangesOption seen (approving.judged_for x verdict)
unfolding verdict_call
judged seen None verdict sees is = tt
judged seen (Some r) None sees is = tt
judged seen (Some r) (Some verdict) sees is = restates_request seen r (judged_status verdict r.status) sees (judged_differs r verdict (is r refl))

-- ---- an issuer is asked about a request that it has not answered

record IsUnanswered (moment : ℤ) (r : CertificateRequest) : Type 0 where
  issued : granting.has_reason (codes "Issued") r ≡ false
  failed : granting.has_reason (codes "Failed") r ≡ false
  waits : granting.is_request_waiting moment r ≡ false

not_false : (b : Bool) → not b ≡ true → b ≡ false
not_false true is = absurd (cc is)
not_false false is = refl

open_one : (r : CertificateRequest) → granting.is_open r ≡ true → (granting.has_reason (codes "Issued") r ≡ false) × (granting.has_reason (codes "Failed") r ≡ false)
open_one r is =
    let issued = and_parts _ _ (and_parts (is_approved r) (not (granting.has_reason (codes "Issued") r) && (not (granting.has_reason (codes "Failed") r) && granting.is_own r.spec.issuer)) is).1 in
    (not_false (granting.has_reason (codes "Issued") r) issued.0, not_false (granting.has_reason (codes "Failed") r) (and_parts (not (granting.has_reason (codes "Failed") r)) (granting.is_own r.spec.issuer) issued.1).0)

denied_asks : (stated : Bool) (call : Call) (order : Order) → (if stated then Nothing else Calls call) ≡ Asks order → ⊥
denied_asks true call order is = cc is
denied_asks false call order is = cc is

grants_by : (denied stands waits stated : Bool) (call : Call) (a : Act) (order : Order) → (if denied then (if stated then Nothing else Calls call) else (if stands then (if waits then Nothing else a) else Nothing)) ≡ Asks order
    → (stands ≡ true) × (waits ≡ false)
grants_by true stands waits stated call a order is = absurd (denied_asks stated call order is)
grants_by false true true stated call a order is = absurd (cc is)
grants_by false true false stated call a order is = (refl, refl)
grants_by false false waits stated call a order is = absurd (cc is)

grants_open : (moment : ℤ) (desk : Desk) (x : Option CertificateRequest) (order : Order) → granting.grant_of moment desk x ≡ Asks order → (r : CertificateRequest) → x ≡ Some r → IsUnanswered moment r
grants_open moment desk None order is r sees = absurd (cc sees)
grants_open moment desk (Some q) order is r sees =
    let same : q ≡ r = cc sees in
    let on = grants_by (is_denied q) (granting.is_open q) (granting.is_request_waiting moment q) (granting.has_reason (codes "Denied") q) (granting.status_call (granting.denied_status q.status moment) q) (ask_issuer moment desk q) order is in
    let unmet = open_one q on.0 in
    subst (IsUnanswered moment) same (record { issued = unmet.0; failed = unmet.1; waits = on.1 })

kept_reason : (old : Option Condition) (new : Condition) (reason : List ℕ) → bytes_eq new.reason reason ≡ true → granting.gives reason (Some (kept_since old new)) ≡ true
kept_reason None new reason is = is
kept_reason (Some old) new reason is = is

-- a new condition Ready gives its reason
gives_reason : (cs : List Condition) (new : Condition) (reason : List ℕ) → new.kind ≡ conditions.Ready → bytes_eq new.reason reason ≡ true → transitioned cs new ≡ cs → granting.gives reason (condition_at cs conditions.Ready) ≡ true
gives_reason cs new reason kind is same =
    let found : condition_at cs conditions.Ready ≡ Some (kept_since (condition_at cs new.kind) new) =
    subst (λ k. condition_at cs k ≡ Some (kept_since (condition_at cs new.kind) new)) kind (subst (λ (l : List Condition). condition_at l new.kind ≡ Some (kept_since (condition_at cs new.kind) new)) same (found_new cs new)) in
    ap (granting.gives reason) found ∙ kept_reason (condition_at cs new.kind) new reason is

within_minute : (moment : ℤ) → (bytes_eq (codes "Pending") (codes "Pending") && int_lt moment (moment +ℤ pos 60)) ≡ true
within_minute moment = sooner moment where
  sooner : (moment : ℤ) → int_lt moment (moment +ℤ pos 60) ≡ true
  sooner moment = grind (arith, ints)

answer_differs : (r : CertificateRequest) (answer : Signing) (moment : ℤ) → IsUnanswered moment r → answered r.status answer moment ≡ r.status → ⊥
unfolding answered issued_condition pending_condition failed_condition
answer_differs r (signings.Issued certificate ca) moment unmet same =
    let on = gives_reason r.status.conditions (issued_condition moment) (codes "Issued") refl refl (ap (λ (st : RequestStatus). st.conditions) same) in
    let off = unmet.issued in
    cc (on, off)
answer_differs r signings.Pending moment unmet same =
    let found : condition_at r.status.conditions conditions.Ready ≡ Some (pending_condition moment) =
    subst (λ (l : List Condition). condition_at l conditions.Ready ≡ Some (pending_condition moment)) (ap (λ (st : RequestStatus). st.conditions) same) (found_renewed r.status.conditions (pending_condition moment)) in
    let waits : granting.is_request_waiting moment r ≡ true = ap (granting.is_waiting_on moment) found ∙ within_minute moment in
    let off = unmet.waits in
    cc (waits, off)
answer_differs r (signings.Failed message) moment unmet same =
    let on = gives_reason r.status.conditions (failed_condition message moment) (codes "Failed") refl refl (ap (λ (st : RequestStatus). st.conditions) same) in
    let off = unmet.failed in
    cc (on, off)

answered_value : (seen : Views) (moment : ℤ) (r : CertificateRequest) (value : Value) → seen.request ≡ Some r → IsUnanswered moment r → ChangesOption seen (granting.answered_with moment r value)
unfolding granting.status_call
answered_value seen moment r (values.Answered answer) sees unmet = restates_request seen r (answered r.status answer moment) sees (answer_differs r answer moment unmet)
answered_value seen moment r other sees unmet = tt

answered_one : (seen : Views) (moment : ℤ) (x : Option CertificateRequest) (order : Order) (value : Value) → seen.request ≡ x → ((r : CertificateRequest) → x ≡ Some r → IsUnanswered moment r) → ChangesOption seen (granting.answered_to moment x order value)
answered_one seen moment (Some r) (orders.Sign order) value sees unmet = answered_value seen moment r value sees (unmet r refl)
answered_one seen moment None (orders.Sign order) value sees unmet = tt
answered_one seen moment x other value sees unmet = tt

-- ---- each role

after_value : (role : Role) (seen : Views) (moment : ℤ) (order : Order) (value : Value) (d : Desk) (asked : Order) → act role seen moment d ≡ Asks asked → ChangesOption seen (call_after role seen moment order value)
unfolding act call_after key_after request_after judged_after answered_after approver issuer
after_value KeyManager seen moment order value d asked is = kept_one seen seen.certificate value
after_value RequestManager seen moment order value d asked is = requested seen value
after_value Approver seen moment order value d asked is =
    judged seen seen.request (verdict_of moment order value) refl (λ r sees. verdict_given r moment order value (judges_open d.rules seen.request asked is r sees))
after_value Issuer seen moment order value d asked is = answered_one seen moment seen.request order value refl (λ r sees. grants_open moment d seen.request asked is r sees)
after_value other seen moment order value d asked is = tt

pub changes_after : (role : Role) (seen : Views) (moment : ℤ) (order : Order) (value : Value) (call : Call) (d : Desk) (asked : Order) → act role seen moment d ≡ Asks asked → call_after role seen moment order value ≡ Some call → ChangesSeen seen call
changes_after role seen moment order value call d asked is follows = subst (ChangesOption seen) follows (after_value role seen moment order value d asked is)
