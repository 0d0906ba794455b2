-- What is issued is read with the fields that it was made of.
use Rattle.std.proofs.Common.{◌≡◌, ℕ, ℤ, pos, ◌+ℤ◌, List, ◌∷◌, ◌++◌, true, length, Option, Some, None, ◌≤ℤ◌, refl, arith, length-append, replicate, IsSome, int_le}
use Rattle.std.specs.Prelude.{neg_ℤ}
use Rattle.std.proofs.lemmas.Int.{ints}
use Rattle.std.proofs.lemmas.List.{length-replicate}
use Rattle.std.specs.Int.{w64, to_be_bytes}
use Rattle.std.proofs.lemmas.Bool.{and_parts}
use Rattle.sha2.specs.Sha256.{sha256}
use Rattle.cmc_der.specs.Keys.{PublicKey, RequestFields, key_kind_of}
use Rattle.cmc_der.specs.Builders.{value}
use Rattle.cmc_time.specs.Asn1.{IsCertificateTime}
use Rattle.cmc_x509.specs.Certificates.{IsRequest, IsCertificate}
use Rattle.cmc_x509.specs.KeyFiles.{IsKeyFile}
use Rattle.cmc_x509_build.specs.Certificates.{fields_of_plan, certificate_body}
use Rattle.cmc_x509_build.specs.Keys.{IsWritable}
use Rattle.cmc_x509_build.specs.Octets.{signed_octets, signature_algorithm}
use Rattle.cmc_x509_build.specs.declared.certificates.CertPlan.{CertPlan}
use Rattle.cmc_x509_build.proofs.CertificateBuiltLaws.{planned_body_is, certificate_is}
use Rattle.cmc_x509_build.proofs.ServeLaws.{request_serves, key_file_serves}
use Rattle.cmc_der.proofs.SmallValues.{IsSmall, contents_small, front_small}
use Rattle.cmc_answers.specs.StandIns.{coordinate, stand_in_point, stand_in_key}
use Rattle.cmc_answers.specs.Signings.{certificate_of_plan, certified_key}
use Rattle.cmc_answers.specs.Temporary.{temporary_cert_plan}
use Rattle.cmc_objects.specs.Requests.{is_run_time}
use borrow.Author.Differences.{le-true}

coordinate_width : (number : ℕ) → length (coordinate number) ≡ 32
coordinate_width number = omega (arith, length-append (replicate 24 0) (to_be_bytes w64 number), length-replicate {A = ℕ} 24 0)

stand_in_writable : (number : ℕ) → IsWritable (stand_in_key number)
unfolding stand_in_point
stand_in_writable number = (
  tt,
  (
    coordinate number ++ coordinate number,
    refl,
    omega (arith, coordinate_width number, length-append (coordinate number) (coordinate number)),
  ),
)

certified_writable : (row_key : Option ℕ) (key : PublicKey) → IsWritable key → IsWritable (certified_key row_key key)
certified_writable None key writable = writable
certified_writable (Some number) key writable = stand_in_writable number

body_small : (body signature : List ℕ) → IsSmall (signed_octets body signature) → IsSmall body
unfolding signed_octets
body_small body signature small =
    front_small body (signature_algorithm ++ value 3 (0 ∷ signature))
    (contents_small 48 (body ++ (signature_algorithm ++ value 3 (0 ∷ signature))) small)

pub issued_read : (plan : CertPlan) (request : List ℕ) (csr : RequestFields) (row_key : Option ℕ)
    → IsRequest request csr → IsSome (key_kind_of csr.key)
    → IsCertificateTime plan.not_before → IsCertificateTime plan.not_after → plan.not_before ≤ℤ plan.not_after
    → IsSmall (certificate_of_plan plan csr.names (certified_key row_key csr.key))
    → IsCertificate (certificate_of_plan plan csr.names (certified_key row_key csr.key)) (fields_of_plan plan csr.names (certified_key row_key csr.key))
unfolding certificate_of_plan
issued_read plan request csr row_key is known begins ends ordered small =
    let serves = request_serves request csr is in
    let key = certified_key row_key csr.key in
    let body = certificate_body plan.issuer (fields_of_plan plan csr.names key) in
    certificate_is body (sha256 body) (fields_of_plan plan csr.names key)
    (planned_body_is plan csr.names key begins ends ordered (certified_writable row_key csr.key (serves.1 known)) serves.0
    (body_small body (sha256 body) small))
    small

-- ---- what stands in

run_time : (now : ℤ) → is_run_time now ≡ true → (IsCertificateTime now × IsCertificateTime (now +ℤ pos 7776000)) × (now ≤ℤ (now +ℤ pos 7776000))
run_time now is =
    let holds = and_parts (int_le (neg_ℤ (pos 599616000)) now) (int_le now (pos 250246627200)) is in
    let low = le-true (neg_ℤ (pos 599616000)) now holds.0 in
    let high = le-true now (pos 250246627200) holds.1 in
    (((omega (arith, ints, low, high), omega (arith, ints, low, high)), (omega (arith, ints, low, high), omega (arith, ints, low, high))), omega (arith, ints))

pub temporary_read : (request file : List ℕ) (csr : RequestFields) (key : PublicKey) (now : ℤ)
    → IsRequest request csr → IsKeyFile file key → is_run_time now ≡ true
    → IsSmall (certificate_of_plan (temporary_cert_plan now) csr.names key)
    → IsCertificate (certificate_of_plan (temporary_cert_plan now) csr.names key) (fields_of_plan (temporary_cert_plan now) csr.names key)
unfolding certificate_of_plan temporary_cert_plan
temporary_read request file csr key now is has time small =
    let serves = request_serves request csr is in
    let times = run_time now time in
    let plan = temporary_cert_plan now in
    let body = certificate_body plan.issuer (fields_of_plan plan csr.names key) in
    certificate_is body (sha256 body) (fields_of_plan plan csr.names key)
    (planned_body_is plan csr.names key times.0.0 times.0.1 times.1 (key_file_serves file key has) serves.0 (body_small body (sha256 body) small))
    small
