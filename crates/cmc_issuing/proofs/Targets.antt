-- The Secret has one public key with its certificate and its request.
use Rattle.std.proofs.Common.{◌≡◌, ℕ, ℤ, List, [], Bool, true, false, Option, Some, None, refl, sym, subst, ◌≤◌, arith}
use Rattle.std.specs.Prelude.{length, nat_le, if◌then◌else◌}
use Rattle.std.proofs.lemmas.Bool.Decides.{nat_tests}
use Rattle.cmc_der.specs.Keys.{PublicKey, CertificateFields, RequestFields}
use Rattle.cmc_x509.specs.KeyFiles.{IsKeyFile}
use Rattle.cmc_x509.specs.ReadKeys.{key_file_at}
use Rattle.cmc_x509.specs.Certificates.{IsCertificate}
use Rattle.cmc_x509.specs.ReadCertificates.{certificate_fields_at, request_fields_at}
use Rattle.cmc_x509.proofs.CertificateLaws.{certificate_found, request_found}
use Rattle.cmc_x509.proofs.FileLaws.{key_file_found}
use Rattle.cmc_objects.specs.declared.certificate.Certificate.{Certificate}
use Rattle.cmc_objects.specs.declared.request.CertificateRequest.{CertificateRequest}
use Rattle.cmc_objects.specs.declared.secret.Secret.{Secret as SecretObject}
use Rattle.cmc_objects.specs.Defaults.{key_algorithm, key_size}
use Rattle.cmc_objects.specs.Requests.{is_run_time, is_denied}
use Rattle.cmc_keys.proofs.KindLaws.{is_key_means}
use Rattle.cmc_objects.specs.KeyPairs.{is_one_key, fields_with_key}
use Rattle.cmc_match.specs.Facts.{fits}
use Rattle.cmc_match.specs.Marks.{asks_for_temporary}
use Rattle.cmc_match.specs.Matches.{has_key}
use Rattle.cmc_objects.proofs.KeyLaws.{key_found}
use Rattle.cmc_match.proofs.MatchLaws.{keys_match}
use Rattle.cmc_answers.specs.Signings.{certificate_of_plan}
use Rattle.cmc_answers.specs.Temporary.{temporary_cert_plan, temporary_of, temporary}
use Rattle.cmc_answers.proofs.IssuedLaws.{temporary_read}
use Rattle.cmc_rules.specs.Sound.{IsTarget, IsSigned, IsMarked}
use Rattle.cmc_rules.specs.Issuance.{is_some_pair, is_certified}
use Rattle.cmc_issuing.proofs.SecretWrites.{HasContent}

-- the certificate is readable, and its public key is that of the file
pub record IsCertified (file certificate : List ℕ) : Type 0 where
  pub fields : CertificateFields
  pub certificate_is : IsCertificate certificate fields
  pub key_is : IsKeyFile file fields.key

-- ---- a certificate of an issuer

read_by : (b : Bool) (fields : CertificateFields) → is_some_pair (if b then Some fields else None) ≡ true → b ≡ true
read_by true fields is = refl
read_by false fields is = absurd (cc is)

certified_by : (file certificate : List ℕ) (key : Option PublicKey) (read : Option CertificateFields) → key_file_at file ≡ key → certificate_fields_at certificate ≡ read → is_some_pair (fields_with_key key read) ≡ true → IsCertified file certificate
certified_by file certificate None read e f is = absurd (cc is)
certified_by file certificate (Some key) None e f is = absurd (cc is)
certified_by file certificate (Some key) (Some fields) e f is = record {
  fields = fields;
  certificate_is = certificate_found certificate fields f;
  key_is = subst (λ (k : PublicKey). IsKeyFile file k) (key_found key fields.key (read_by (is_one_key key fields.key) fields is)) (key_file_found file key e);
}

pub certified : (file certificate : List ℕ) → is_certified file certificate ≡ true → IsCertified file certificate
certified file certificate is = certified_by file certificate (key_file_at file) (certificate_fields_at certificate) refl refl is

-- ---- one that stands in

with_fields : (file certificate : List ℕ) (fields : CertificateFields) → IsCertificate certificate fields → IsKeyFile file fields.key → IsCertified file certificate
with_fields file certificate fields is has = record { fields = fields; certificate_is = is; key_is = has }

within_size : (n : ℕ) → nat_le n 16777216 ≡ true → n ≤ 16777216
within_size n is = grind (arith, nat_tests)

is_made : (made certificate : List ℕ) → Some made ≡ Some certificate → made ≡ certificate
is_made made certificate is = cc is

stands_by : (request file certificate : List ℕ) (now : ℤ) (csr : Option RequestFields) (key : Option PublicKey) → request_fields_at request ≡ csr → key_file_at file ≡ key → temporary_of now csr key ≡ Some certificate
    → is_run_time now ≡ true → nat_le (length certificate) 16777216 ≡ true → IsCertified file certificate
stands_by request file certificate now None key e f is time small = absurd (cc is)
stands_by request file certificate now (Some csr) None e f is time small = absurd (cc is)
stands_by request file certificate now (Some csr) (Some key) e f is time small =
    let made : List ℕ = certificate_of_plan (temporary_cert_plan now) csr.names key in
    let same : made ≡ certificate = is_made made certificate is in
    let size : length made ≤ 16777216 = subst (λ (octets : List ℕ). length octets ≤ 16777216) (sym same) (within_size (length certificate) small) in
    let has : IsKeyFile file key = key_file_found file key f in
    subst (IsCertified file) same (with_fields file made _ (temporary_read request file csr key now (request_found request csr e) has time size) has)

pub stands_in : (request file certificate : List ℕ) (now : ℤ) → temporary request file now ≡ Some certificate → nat_le (length certificate) 16777216 ≡ true → is_run_time now ≡ true → IsCertified file certificate
stands_in request file certificate now is small time = stands_by request file certificate now (request_fields_at request) (key_file_at file) refl refl is time small

-- ---- the target

target_of : (stand_in : Bool) (c : Certificate) (r : CertificateRequest) (file certificate ca : List ℕ) (k : SecretObject) → IsCertified file certificate → fits c.spec.key file ≡ true → has_key r file ≡ true
    → HasContent stand_in c file certificate ca k → IsTarget c r file k
target_of stand_in c r file certificate ca k read fit has content = record {
  namespace = content.namespace;
  name = content.name;
  unlabelled = content.unlabelled;
  has_key = content.has_key;
  fields = read.fields;
  pair = record {
    key = file;
    certificate = certificate;
    key_stands = content.has_key;
    certificate_stands = content.has_certificate;
    key_is = read.key_is;
    certificate_is = read.certificate_is;
  };
  requested = record {
    key = file;
    key_stands = content.has_key;
    fits = (is_key_means (key_algorithm c.spec.key) (key_size c.spec.key) file).0 fit;
    requested = (keys_match r file).0 has;
  };
}

pub signed_of : (c : Certificate) (r : CertificateRequest) (file : List ℕ) → is_certified file r.status.certificate ≡ true → fits c.spec.key file ≡ true → has_key r file ≡ true
    → (k : SecretObject) → HasContent false c file r.status.certificate r.status.ca k → IsSigned c r file k
signed_of c r file read fit has k content = record {
  target = target_of false c r file r.status.certificate r.status.ca k (certified file r.status.certificate read) fit has content;
  unmarked = content.marked;
  certificate = content.has_certificate;
}

-- what stands in is readable within the time of a run, in which its times can be written and read again
pub marked_of : (c : Certificate) (r : CertificateRequest) (file certificate : List ℕ) (now : ℤ) → (is_run_time now ≡ true → IsCertified file certificate) → temporary r.spec.request file now ≡ Some certificate
    → asks_for_temporary c ≡ true → is_denied r ≡ false → fits c.spec.key file ≡ true → has_key r file ≡ true
    → (k : SecretObject) → HasContent true c file certificate [] k → IsMarked c r file now k
marked_of c r file certificate now read is asks free fit has k content = record {
  target = λ time. target_of true c r file certificate [] k (read time) fit has content;
  marked = content.marked;
  stand_in = record {
    asked_for = asks;
    not_denied = free;
    stand_in = certificate;
    is_stand_in = is;
    certificate = content.has_certificate;
    no_ca = content.no_ca refl;
  };
}
