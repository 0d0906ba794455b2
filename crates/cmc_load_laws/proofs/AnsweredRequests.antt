-- Of a request of a load: it is not answered, or it is approved and has the usual certificate of a moment.
use Rattle.std.proofs.Common.{◌≡◌, ◌⊎◌, ◌&&◌, ◌||◌, ℕ, ℤ, List, true, false, Option, Some, None, refl, sym, ap, ◌∙◌, inl, inr}
use Rattle.std.proofs.lemmas.Bool.{and_from, and_parts}
use Rattle.std.proofs.lemmas.Slice.Eq.{bytes_eq-Decides}
use Rattle.std.specs.Prelude.{codes}
use Rattle.std.specs.Str.{bytes_eq}
use Rattle.cmc_meta.specs.declared.conditions.Condition.{Condition}
use Rattle.cmc_meta.specs.declared.conditions.ConditionKind.TheVariants.{Approved, Ready}
use Rattle.cmc_meta.specs.declared.conditions.Tri.{Tri}
use Rattle.cmc_meta.specs.declared.conditions.Tri.TheVariants.{True, False, Unknown}
use Rattle.cmc_meta.specs.ConditionLists.{condition_at, kept_since, transitioned, tri_eq}
use Rattle.cmc_objects.specs.declared.request.CertificateRequest.{CertificateRequest}
use Rattle.cmc_objects.specs.declared.request.RequestSpec.{RequestSpec}
use Rattle.cmc_objects.specs.declared.request.RequestStatus.{RequestStatus}
use Rattle.cmc_objects.specs.declared.object.Object.{Object}
use Rattle.cmc_objects.specs.declared.object.Object.TheVariants.{Cert, Request, Secret}
use Rattle.cmc_objects.specs.declared.orders.Signing.TheVariants.{Issued}
use Rattle.cmc_objects.specs.Objects.{no_request_status}
use Rattle.cmc_objects.specs.Requests.{is_approved, is_request_form, is_run_time, is_stated}
use Rattle.cmc_answers.specs.Signings.{signing_of}
use Rattle.cmc_rules.specs.Approver.{approval, judged_status}
use Rattle.cmc_rules.specs.Issuance.{is_granted, says_issued}
use Rattle.cmc_rules.specs.IssuerAnswers.{answered, issued_condition}
use Rattle.cmc_rules.specs.NextRequests.{is_refused, says_refused}
use Rattle.cmc_rules.specs.Orders.{default_row}
use Rattle.cmc_load_laws.specs.Measure.{restated_request}
use Rattle.cmc_load_laws.proofs.Answered.{kept_reason, other_stated, own_found}
use Rattle.cmc_load_laws.proofs.Keeping.{kept_status, now_stated, other_found}

-- the certificate is what the issuer usually signs for the request at the moment
pub record IsSignedAt (at : ℤ) (r : CertificateRequest) : Type 0 where
  pub number : ℕ
  pub is : signing_of default_row number r at ≡ Issued r.status.certificate r.status.ca
  pub timely : is_run_time at ≡ true
  pub form : is_request_form r ≡ true

pub record IsIssuedRequest (r : CertificateRequest) : Type 0 where
  pub approved : is_approved r ≡ true
  pub says : says_issued (condition_at r.status.conditions Ready) ≡ true
  pub at : ℤ
  pub signed : IsSignedAt at r

abbrev pub IsAnswered : CertificateRequest → Type 0
IsAnswered r = (condition_at r.status.conditions Ready ≡ None) ⊎ IsIssuedRequest r

abbrev pub IsAnsweredObject : Object → Type 0
IsAnsweredObject (Cert c) = Unit {0}
IsAnsweredObject (Request r) = IsAnswered r
IsAnsweredObject (Secret k) = Unit {0}

signs_alike : (n : ℕ) (at : ℤ) (q r : CertificateRequest) → r.spec ≡ q.spec → signing_of default_row n r at ≡ signing_of default_row n q at
unfolding signing_of
signs_alike n at q r same = ap (λ (x : RequestSpec). signing_of default_row n (record r { spec = x }) at) same

-- what hangs on the specification and the certificate alone
pub signed_alike : (at : ℤ) (q r : CertificateRequest) → r.spec ≡ q.spec → q.status.certificate ≡ r.status.certificate → q.status.ca ≡ r.status.ca → IsSignedAt at q → IsSignedAt at r
signed_alike at q r spec certificate ca is = record {
  number = is.number;
  is = signs_alike is.number at q r spec ∙ is.is ∙ (λ i. Issued (certificate i) (ca i));
  timely = is.timely;
  form = ap (λ (x : RequestSpec). is_request_form (record r { spec = x })) spec ∙ is.form;
}

-- ---- the writes

pub answered_made : (r : CertificateRequest) → r.status ≡ no_request_status → IsAnswered r
answered_made r none = inl (ap (λ (s : RequestStatus). condition_at s.conditions Ready) none)

pub answered_approved : (version : ℕ) (now : ℤ) (r : CertificateRequest) → IsAnswered r → IsAnswered (restated_request version (judged_status (approval now) r.status) r)
unfolding judged_status approval
answered_approved version now r (inl none) = inl (other_found r.status.conditions (approval now) Ready refl ∙ none)
answered_approved version now r (inr is) = inr (record {
  approved = now_stated r.status.conditions (approval now) refl;
  says = ap says_issued (other_found r.status.conditions (approval now) Ready refl) ∙ is.says;
  at = is.at;
  signed = signed_alike is.at r (restated_request version (judged_status (approval now) r.status) r) refl refl refl is.signed;
})

itself : (text : List ℕ) → bytes_eq text text ≡ true
itself text = (bytes_eq-Decides text text).1 refl

says_so : (cs : List Condition) (now : ℤ) → says_issued (condition_at (transitioned cs (issued_condition now)) Ready) ≡ true
unfolding issued_condition
says_so cs now =
    let new : Condition = issued_condition now in
    let old : Option Condition = condition_at cs new.kind in
    ap says_issued (own_found cs new)
    ∙ and_from (tri_eq (kept_since old new).status True) (bytes_eq (kept_since old new).reason (codes "Issued")) (ap (λ (t : Tri). tri_eq t True) (kept_status old new))
    (ap (λ (text : List ℕ). bytes_eq text (codes "Issued")) (kept_reason old new) ∙ itself (codes "Issued"))

still_approved : (cs : List Condition) (now : ℤ) → is_stated Approved (transitioned cs (issued_condition now)) ≡ is_stated Approved cs
unfolding issued_condition
still_approved cs now = other_stated cs (issued_condition now) Approved refl

pub signed_now : (version number : ℕ) (now : ℤ) (certificate ca : List ℕ) (r : CertificateRequest) → is_run_time now ≡ true → is_request_form r ≡ true → signing_of default_row number r now ≡ Issued certificate ca
    → IsSignedAt now (restated_request version (answered r.status (Issued certificate ca) now) r)
unfolding answered
signed_now version number now certificate ca r timely form signs =
    record { number = number; is = signs_alike number now r (restated_request version (answered r.status (Issued certificate ca) now) r) refl ∙ signs; timely = timely; form = form }

pub answered_issued : (version number : ℕ) (now : ℤ) (certificate ca : List ℕ) (r : CertificateRequest) → is_approved r ≡ true → is_run_time now ≡ true → is_request_form r ≡ true → signing_of default_row number r now ≡ Issued certificate ca
    → IsIssuedRequest (restated_request version (answered r.status (Issued certificate ca) now) r)
unfolding answered
answered_issued version number now certificate ca r approved timely form signs = record {
  approved = still_approved r.status.conditions now ∙ approved;
  says = says_so r.status.conditions now;
  at = now;
  signed = signed_now version number now certificate ca r timely form signs;
}

-- ---- what it says

not_refused_by : (o : Option Condition) → says_issued o ≡ true → says_refused o ≡ false
not_refused_by None is = refl
not_refused_by (Some ready) is = by ready.status (and_parts (tri_eq ready.status True) (bytes_eq ready.reason (codes "Issued")) is).0 where
  by : (t : Tri) → tri_eq t True ≡ true → (tri_eq t False && (bytes_eq ready.reason (codes "Failed") || bytes_eq ready.reason (codes "Denied"))) ≡ false
  by True on = refl
  by False on = absurd (cc on)
  by Unknown on = absurd (cc on)

pub not_refused : (r : CertificateRequest) → IsAnswered r → is_refused r ≡ false
not_refused r (inl none) = ap says_refused none
not_refused r (inr is) = not_refused_by (condition_at r.status.conditions Ready) is.says

pub issued_if : (r : CertificateRequest) → IsAnswered r → says_issued (condition_at r.status.conditions Ready) ≡ true → IsIssuedRequest r
issued_if r (inl none) says = absurd (let e : false ≡ true = sym (ap says_issued none) ∙ says in cc e)
issued_if r (inr is) says = is

pub granted_issued : (r : CertificateRequest) → IsAnswered r → is_granted r ≡ true → IsIssuedRequest r
granted_issued r answered is = issued_if r answered (and_parts (says_issued (condition_at r.status.conditions Ready)) _ is).0
