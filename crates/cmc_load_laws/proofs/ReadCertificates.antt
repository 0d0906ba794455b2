-- The usual certificate of a request is read with the names and the key of the request, and begins at its moment.
use Rattle.std.proofs.Common.{◌≡◌, ◌≤◌, ◌&&◌, ℕ, ℤ, pos, ◌+ℤ◌, ◌-ℤ◌, ◌≤ℤ◌, min, List, [], length, Bool, true, Option, Some, None, refl, sym, ap, ◌∙◌, arith, int_le}
use Rattle.std.proofs.lemmas.Bool.{and_parts}
use Rattle.std.proofs.lemmas.Bool.Decides.{nat_tests}
use Rattle.std.proofs.lemmas.Int.{ints}
use borrow.Author.Differences.{le-true}
use Rattle.std.specs.Prelude.{IsSome, is_some, nat_le, neg_ℤ, if◌then◌else◌}
use Rattle.cmc_der.specs.Keys.{CertificateFields, PublicKey, RequestFields, key_kind_of}
use Rattle.cmc_time.specs.Asn1.{IsCertificateTime}
use Rattle.cmc_x509.specs.Certificates.{IsCertificate}
use Rattle.cmc_x509.specs.ReadCertificates.{certificate_fields_at}
use Rattle.cmc_x509.specs.ReadKeys.{key_file_at}
use Rattle.cmc_x509.proofs.CertificateLaws.{certificate_again, request_found}
use Rattle.cmc_x509_build.specs.Certificates.{fields_of_plan}
use Rattle.cmc_x509_build.specs.declared.certificates.CertPlan.{CertPlan}
use Rattle.cmc_objects.specs.declared.request.CertificateRequest.{CertificateRequest}
use Rattle.cmc_objects.specs.declared.orders.Signing.{Signing}
use Rattle.cmc_objects.specs.declared.orders.Signing.TheVariants.{Issued, Pending, Failed}
use Rattle.cmc_objects.specs.Defaults.{certificate_duration}
use Rattle.cmc_objects.specs.KeyPairs.{fields_with_key, is_one_key}
use Rattle.cmc_objects.specs.Requests.{is_duration_form, is_issuer_form, is_run_time, is_short_option}
use Rattle.cmc_answers.specs.Signings.{certificate_of_plan, issued, not_readable, plan_of, signing_of}
use Rattle.cmc_answers.proofs.IssuedLaws.{issued_read}
use Rattle.cmc_match.specs.Matches.{has_key, is_one_of}
use Rattle.cmc_rules.specs.Issuance.{is_certified, is_some_pair}
use Rattle.cmc_rules.specs.Orders.{default_row}
use Rattle.cmc_load_laws.proofs.AnsweredRequests.{IsSignedAt}
use Rattle.cmc_load_laws.proofs.GoodRequests.{IsGoodRequest}
use Rattle.cmc_load_laws.proofs.ShortCertificates.{certificate_short}

abbrev pub usual_plan : ℕ → ℤ → CertificateRequest → CertPlan
usual_plan number at r = plan_of number r at None 0 None

-- ---- what is signed

abbrev certificate_in : Signing → List ℕ
certificate_in (Issued certificate ca) = certificate
certificate_in Pending = []
certificate_in (Failed message) = []

signs_plan : (number : ℕ) (at : ℤ) (r : CertificateRequest) (good : IsGoodRequest r) → signing_of default_row number r at ≡ Issued (certificate_of_plan (usual_plan number at r) good.fields.names good.fields.key) []
unfolding signing_of
signs_plan number at r good =
    let plan = usual_plan number at r in
    ap (issued plan None []) good.read ∙ ap (λ (b : Bool). if b then Issued (certificate_of_plan plan good.fields.names good.fields.key) [] else not_readable) good.kind

certificate_is : (at : ℤ) (r : CertificateRequest) (good : IsGoodRequest r) (is : IsSignedAt at r) → r.status.certificate ≡ certificate_of_plan (usual_plan is.number at r) good.fields.names good.fields.key
unfolding certificate_of_plan
certificate_is at r good is = ap certificate_in (sym is.is ∙ signs_plan is.number at r good)

-- ---- its times

life_most : (asked : Option ℕ) → min (certificate_duration asked) 3153600000 ≤ 3153600000
life_most asked = omega arith

record HasTimes (plan : CertPlan) : Type 0 where
  begins : IsCertificateTime plan.not_before
  ends : IsCertificateTime plan.not_after
  ordered : plan.not_before ≤ℤ plan.not_after

times_by : (at : ℤ) (life : ℕ) → life ≤ 3153600000 → is_run_time at ≡ true
    → (IsCertificateTime (at -ℤ pos 0) × IsCertificateTime ((at -ℤ pos 0) +ℤ pos life)) × ((at -ℤ pos 0) ≤ℤ ((at -ℤ pos 0) +ℤ pos life))
times_by at life most is =
    let holds = and_parts (int_le (neg_ℤ (pos 599616000)) at) (int_le at (pos 250246627200)) is in
    let low = le-true (neg_ℤ (pos 599616000)) at holds.0 in
    let high = le-true at (pos 250246627200) holds.1 in
    (((omega (arith, ints, low, high), omega (arith, ints, low, high)), (omega (arith, ints, low, high), omega (arith, ints, low, high, most))), omega (arith, ints))

has_times : (number : ℕ) (at : ℤ) (r : CertificateRequest) → is_run_time at ≡ true → HasTimes (usual_plan number at r)
has_times number at r is = let t = times_by at (min (certificate_duration r.spec.duration) 3153600000) (life_most r.spec.duration) is in record { begins = t.0.0; ends = t.0.1; ordered = t.1 }

-- ---- it is read

some_of : {A : Type 0} (o : Option A) → is_some o ≡ true → IsSome o
some_of None is = absurd (cc is)
some_of (Some x) is = refl

within : (n : ℕ) → nat_le n 253 ≡ true → n ≤ 253
within n is = grind (arith, nat_tests)

pub certificate_read : (at : ℤ) (r : CertificateRequest) (good : IsGoodRequest r) (is : IsSignedAt at r) → certificate_fields_at r.status.certificate ≡ Some (fields_of_plan (usual_plan is.number at r) good.fields.names good.fields.key)
certificate_read at r good is =
    let plan = usual_plan is.number at r in
    let form = and_parts (is_issuer_form r.spec.issuer) (is_duration_form r.spec.duration) is.form in
    let name = (and_parts (nat_le (length r.spec.issuer.name) 253) (is_short_option r.spec.issuer.kind && is_short_option r.spec.issuer.group) form.0).0 in
    let times = has_times is.number at r is.timely in
    let read : IsCertificate (certificate_of_plan plan good.fields.names good.fields.key) (fields_of_plan plan good.fields.names good.fields.key) =
    issued_read plan r.spec.request good.fields None (request_found r.spec.request good.fields good.read) (some_of (key_kind_of good.fields.key) good.kind) times.begins times.ends times.ordered
    (certificate_short plan good.fields.names good.fields.key (within (length r.spec.issuer.name) name) good.short)
    in
    ap certificate_fields_at (certificate_is at r good is) ∙ certificate_again (certificate_of_plan plan good.fields.names good.fields.key) (fields_of_plan plan good.fields.names good.fields.key) read

-- ---- and is for the key of the request

pair_by : (key : Option PublicKey) (fields : RequestFields) (read : CertificateFields) → read.key ≡ fields.key → is_one_of key (Some fields) ≡ true → fields_with_key key (Some read) ≡ Some read
pair_by None fields read same is = absurd (cc is)
pair_by (Some key) fields read same is = ap (λ (b : Bool). if b then Some read else None) (ap (is_one_key key) same ∙ is)

pub pair_is : (at : ℤ) (r : CertificateRequest) (file : List ℕ) (good : IsGoodRequest r) (is : IsSignedAt at r) → has_key r file ≡ true
    → fields_with_key (key_file_at file) (certificate_fields_at r.status.certificate) ≡ Some (fields_of_plan (usual_plan is.number at r) good.fields.names good.fields.key)
unfolding has_key
pair_is at r file good is has =
    let read = fields_of_plan (usual_plan is.number at r) good.fields.names good.fields.key in
    ap (fields_with_key (key_file_at file)) (certificate_read at r good is)
    ∙ pair_by (key_file_at file) good.fields read refl (sym (ap (is_one_of (key_file_at file)) good.read) ∙ has)

pub certified : (at : ℤ) (r : CertificateRequest) (file : List ℕ) → IsGoodRequest r → IsSignedAt at r → has_key r file ≡ true → is_certified file r.status.certificate ≡ true
certified at r file good is has = ap is_some_pair (pair_is at r file good is has)
