-- In a run of a load each request is readable, and none is denied.
use Rattle.std.proofs.Common.{◌≡◌, ◌≤◌, length, ◌==◌, ◌&&◌, ◌||◌, ℕ, ℤ, List, [], ◌∷◌, Bool, true, false, not, Some, refl, sym, ap, ◌∙◌}
use Rattle.std.specs.List.{list_any}
use Rattle.std.specs.Prelude.{is_some, if◌then◌else◌}
use Rattle.cmc_der.specs.Keys.{EcKey, OtherKey, PublicKey, RequestFields, RsaKey, key_kind_of}
use Rattle.cmc_x509.specs.ReadCertificates.{request_fields_at}
use Rattle.cmc_x509.proofs.CertificateLaws.{request_again}
use Rattle.cmc_x509.proofs.FileLaws.{key_file_found}
use Rattle.cmc_x509_build.specs.Certificates.{subject_octets}
use Rattle.cmc_x509_build.specs.Octets.{signed_octets}
use Rattle.cmc_x509_build.specs.Requests.{names_of}
use Rattle.cmc_x509_build.proofs.ServeLaws.{key_file_serves}
use Rattle.cmc_meta.specs.declared.conditions.Condition.{Condition}
use Rattle.cmc_meta.specs.declared.conditions.ConditionKind.{ConditionKind}
use Rattle.cmc_meta.specs.declared.conditions.ConditionKind.TheVariants as kinds
use Rattle.cmc_meta.specs.declared.conditions.Tri.TheVariants as tri
use Rattle.cmc_meta.specs.ConditionLists.{condition_rank, tri_eq}
use Rattle.cmc_objects.specs.declared.certificate.Certificate.{Certificate}
use Rattle.cmc_objects.specs.declared.request.CertificateRequest.{CertificateRequest}
use Rattle.cmc_objects.specs.declared.request.RequestSpec.{RequestSpec}
use Rattle.cmc_objects.specs.declared.request.RequestStatus.{RequestStatus}
use Rattle.cmc_objects.specs.declared.secret.Secret.{Secret as SecretObject}
use Rattle.cmc_objects.specs.declared.object.Object.{Object}
use Rattle.cmc_objects.specs.declared.object.Object.TheVariants.{Cert, Request, Secret}
use Rattle.cmc_objects.specs.Objects.{no_request_status}
use Rattle.cmc_objects.specs.Requests.{is_denied, is_stated}
use Rattle.cmc_keys.specs.Kinds.{is_public_of}
use Rattle.cmc_objects.specs.declared.key_spec.Algorithm.TheVariants.{Ecdsa}
use Rattle.cmc_objects.specs.Defaults.{key_size}
use Rattle.cmc_pass.specs.declared.pass.Views.{Views}
use Rattle.cmc_objects.specs.declared.call.Call.{Call}
use Rattle.cmc_rules.specs.Approver.{approval, judged_status}
use Rattle.cmc_rules.specs.RequestManager.{body_of, name_set, new_request, request_spec}
use Rattle.cmc_rules.specs.Rights.{ChangesAnswer, other_conditions}
use Rattle.cmc_run_laws.proofs.OwnRequests.{own_is_read}
use Rattle.cmc_load_laws.specs.Loads.{IsUsual}
use Rattle.cmc_load_laws.proofs.Answered.{other_stated}
use Rattle.cmc_load_laws.proofs.ShortCertificates.{subject_short}
use Rattle.cmc_load_laws.proofs.ShortRequests.{public_of_file, public_short}
use Rattle.cmc_load_laws.proofs.SignedRequests.{IsSigned, octets_short}

-- the certification request is readable, with a key of RSA or ECDSA, and with a short subject, and the request is not denied
pub record IsGoodRequest (r : CertificateRequest) : Type 0 where
  pub fields : RequestFields
  pub read : request_fields_at r.spec.request ≡ Some fields
  pub kind : is_some (key_kind_of fields.key) ≡ true
  pub short : length (subject_octets fields.names fields.key) ≤ 1000400
  pub undenied : is_denied r ≡ false

abbrev pub IsGoodObject : Object → Type 0
IsGoodObject (Cert c) = Unit {0}
IsGoodObject (Request r) = IsGoodRequest r
IsGoodObject (Secret k) = Unit {0}

good_alike : (q r : CertificateRequest) → r.spec ≡ q.spec → is_denied r ≡ is_denied q → IsGoodRequest q → IsGoodRequest r
good_alike q r spec denied good =
    record { fields = good.fields; read = ap (λ (s : RequestSpec). request_fields_at s.request) spec ∙ good.read; kind = good.kind; short = good.short; undenied = denied ∙ good.undenied }

-- ---- one that is made

kind_is : (size : ℕ) (key : PublicKey) → is_public_of Ecdsa size (Some key) ≡ true → is_some (key_kind_of key) ≡ true
kind_is size (RsaKey modulus exponent) is = refl
kind_is size (EcKey curve point) is = refl
kind_is size (OtherKey whole) is = absurd (cc is)

asks_octets : (c : Certificate) (k : SecretObject) (octets : List ℕ) → (new_request c k octets).spec.request ≡ octets
unfolding new_request request_spec
asks_octets c k octets = refl

pub good_made : (seen : Views) (c : Certificate) (call : Call) (made : CertificateRequest) → IsUsual c → (w : IsSigned seen c call) → made.spec ≡ (new_request c w.has.key (signed_octets (body_of c.spec w.key) w.signature)).spec → made.status ≡ no_request_status
    → IsGoodRequest made
good_made seen c call made usual w spec status =
    let octets : List ℕ = signed_octets (body_of c.spec w.key) w.signature in
    let are : made.spec.request ≡ octets = ap (λ (s : RequestSpec). s.request) spec ∙ asks_octets c w.has.key octets in
    let read = own_is_read c.spec w.has.file w.key w.signature w.reads (octets_short seen c call usual w) in
    record {
      fields = record { key = w.key; names = names_of (name_set c.spec) };
      read = ap request_fields_at are ∙ request_again octets (record { key = w.key; names = names_of (name_set c.spec) }) read;
      kind = kind_is (key_size c.spec.key) w.key (public_of_file c.spec w.has.file w.key usual.curve w.reads w.has.fit);
      short = subject_short c.spec w.key usual.addresses usual.names (public_short (key_size c.spec.key) w.key (public_of_file c.spec w.has.file w.key usual.curve w.reads w.has.fit) (key_file_serves w.has.file w.key (key_file_found w.has.file w.key w.reads)));
      undenied = ap (λ (s : RequestStatus). is_stated kinds.Denied s.conditions) status;
    }

-- ---- one that is approved

denied_kept : (t : ℤ) (status : RequestStatus) → is_stated kinds.Denied (judged_status (approval t) status).conditions ≡ is_stated kinds.Denied status.conditions
unfolding judged_status approval
denied_kept t status = other_stated status.conditions (approval t) kinds.Denied refl

pub good_approved : (t : ℤ) (q r : CertificateRequest) → r.spec ≡ q.spec → r.status ≡ judged_status (approval t) q.status → IsGoodRequest q → IsGoodRequest r
good_approved t q r spec status good = good_alike q r spec (ap (λ (s : RequestStatus). is_stated kinds.Denied s.conditions) status ∙ denied_kept t q.status) good

-- ---- one that is answered

-- a condition that counts as denied
abbrev is_denial : Condition → Bool
is_denial d = (condition_rank d.kind == condition_rank kinds.Denied) && tri_eq d.status tri.True

with_one : (c : Condition) (cs rest : List Condition) (kind : ConditionKind) → c.kind ≡ kind → list_any is_denial rest ≡ list_any is_denial cs
    → list_any is_denial (if not (condition_rank c.kind == condition_rank kinds.Ready) then c ∷ rest else rest) ≡ (is_denial c || list_any is_denial cs)
with_one c cs rest kinds.Ready is below =
    ap (λ (k : ConditionKind). list_any is_denial (if not (condition_rank k == condition_rank kinds.Ready) then c ∷ rest else rest)) is ∙ below
    ∙ sym (ap (λ (k : ConditionKind). ((condition_rank k == condition_rank kinds.Denied) && tri_eq c.status tri.True) || list_any is_denial cs) is)
with_one c cs rest kinds.Denied is below = ap (λ (k : ConditionKind). list_any is_denial (if not (condition_rank k == condition_rank kinds.Ready) then c ∷ rest else rest)) is ∙ ap (λ (b : Bool). is_denial c || b) below
with_one c cs rest kinds.Approved is below = ap (λ (k : ConditionKind). list_any is_denial (if not (condition_rank k == condition_rank kinds.Ready) then c ∷ rest else rest)) is ∙ ap (λ (b : Bool). is_denial c || b) below
with_one c cs rest kinds.Issuing is below = ap (λ (k : ConditionKind). list_any is_denial (if not (condition_rank k == condition_rank kinds.Ready) then c ∷ rest else rest)) is ∙ ap (λ (b : Bool). is_denial c || b) below
with_one c cs rest kinds.InvalidRequest is below = ap (λ (k : ConditionKind). list_any is_denial (if not (condition_rank k == condition_rank kinds.Ready) then c ∷ rest else rest)) is ∙ ap (λ (b : Bool). is_denial c || b) below

-- conditions of another kind than Ready say whether it is denied
stated_of_others : (cs : List Condition) → is_stated kinds.Denied (other_conditions kinds.Ready cs) ≡ is_stated kinds.Denied cs
stated_of_others [] = refl
stated_of_others (c ∷ cs) = with_one c cs (other_conditions kinds.Ready cs) c.kind refl (stated_of_others cs)

pub good_answered : (q r : CertificateRequest) → r.spec ≡ q.spec → ChangesAnswer q.status r.status → IsGoodRequest q → IsGoodRequest r
good_answered q r spec changes good =
    good_alike q r spec (sym (stated_of_others r.status.conditions) ∙ ap (is_stated kinds.Denied) changes.others ∙ stated_of_others q.status.conditions) good
