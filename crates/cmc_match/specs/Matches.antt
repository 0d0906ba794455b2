-- Whether a CertificateRequest asks for what a Certificate asks for, and for which key.
use Rattle.std.specs.Prelude.{◌≡◌, ℕ, ◌==◌, Bool, false, not, if◌then◌else◌, ◌&&◌, List, Option, Some, None}
use Rattle.std.specs.Str.{bytes_eq}
use Rattle.cmc_der.specs.Keys.{PublicKey, RequestFields}
use Rattle.cmc_x509.specs.KeyFiles.{IsKeyFile}
use Rattle.cmc_x509.specs.ReadKeys.{key_file_at}
use Rattle.cmc_x509.specs.Certificates.{IsRequest}
use Rattle.cmc_x509.specs.ReadCertificates.{request_fields_at}
use Rattle.cmc_objects.specs.declared.issuer.IssuerRef.{IssuerRef}
use Rattle.cmc_objects.specs.declared.certificate.CertSpec.{CertSpec}
use Rattle.cmc_objects.specs.declared.request.RequestSpec.{RequestSpec}
use Rattle.cmc_objects.specs.declared.request.CertificateRequest.{CertificateRequest}
use Rattle.cmc_objects.specs.Defaults.{issuer_kind, issuer_group, certificate_duration}
use Rattle.cmc_objects.specs.KeyPairs.{is_one_key}
use Rattle.cmc_match.specs.Sets.{IsSameSet, is_same_set}
use Rattle.cmc_match.specs.SubjectNames.{HasSubjectNames, has_names}

-- both name the same issuer: its name, and with their defaults its kind and its group
pub record IsSameIssuer (left right : IssuerRef) : Type 0 where
  pub name : left.name ≡ right.name
  pub kind : issuer_kind left ≡ issuer_kind right
  pub group : issuer_group left ≡ issuer_group right

-- The request asks for what the specification asks for: its certification request is readable and has the names,
-- and issuer, duration (with its default), the mark of a CA and the set of usages are the same.
pub record Matches (spec : CertSpec) (request : CertificateRequest) : Type 0 where
  pub fields : RequestFields
  pub readable : IsRequest request.spec.request fields
  pub names : HasSubjectNames spec fields.names
  pub issuer : IsSameIssuer spec.issuer request.spec.issuer
  pub duration : certificate_duration spec.duration ≡ certificate_duration request.spec.duration
  pub is_ca : spec.is_ca ≡ request.spec.is_ca
  pub usages : IsSameSet spec.usages request.spec.usages

-- the request's certification request is readable, and so is the key file, and both have one public key
pub record HasKey (request : CertificateRequest) (file : List ℕ) : Type 0 where
  pub fields : RequestFields
  pub readable : IsRequest request.spec.request fields
  pub key_is : IsKeyFile file fields.key

-- ---- the same as tests

abbrev pub is_same_issuer : IssuerRef → IssuerRef → Bool
is_same_issuer left right =
    bytes_eq left.name right.name
    && (bytes_eq (issuer_kind left) (issuer_kind right) && bytes_eq (issuer_group left) (issuer_group right))

abbrev pub is_same_flag : Bool → Bool → Bool
is_same_flag left right = if left then right else not right

unfoldable pub has_terms : CertSpec → RequestSpec → Bool
has_terms spec request =
    is_same_issuer spec.issuer request.issuer
    && ((certificate_duration spec.duration == certificate_duration request.duration)
    && (is_same_flag spec.is_ca request.is_ca && is_same_set spec.usages request.usages))

abbrev pub asks_for_names : CertSpec → Option RequestFields → Bool
asks_for_names spec None = false
asks_for_names spec (Some fields) = has_names spec fields.names

unfoldable pub matches : CertSpec → CertificateRequest → Bool
matches spec request = asks_for_names spec (request_fields_at request.spec.request) && has_terms spec request.spec

abbrev pub is_one_of : Option PublicKey → Option RequestFields → Bool
is_one_of None request = false
is_one_of (Some key) None = false
is_one_of (Some key) (Some fields) = is_one_key key fields.key

unfoldable pub has_key : CertificateRequest → List ℕ → Bool
has_key request file = is_one_of (key_file_at file) (request_fields_at request.spec.request)

-- what is read of the certification request of a request, if there is one
abbrev pub request_read : Option CertificateRequest → Option RequestFields
request_read None = None
request_read (Some request) = request_fields_at request.spec.request
