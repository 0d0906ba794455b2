-- What is known of the Secret of a Certificate.
use Rattle.std.specs.Prelude.{◌≡◌, ◌≢◌, ◌<◌, ◌⊎◌, length, ℕ, Bool, true, false, not, ◌&&◌, List, [], ◌∷◌, codes, Option, Some, None}
use Rattle.std.specs.Str.{bytes_eq}
use Rattle.cmc_meta.specs.PairLists.{text_by_key}
use Rattle.cmc_der.specs.Keys.{PublicKey, CertificateFields, RequestFields}
use Rattle.cmc_x509.specs.KeyFiles.{IsKeyFile}
use Rattle.cmc_x509.specs.Certificates.{IsCertificate}
use Rattle.cmc_objects.specs.declared.issuer.IssuerRef.{IssuerRef}
use Rattle.cmc_objects.specs.declared.secret.Secret.{Secret}
use Rattle.cmc_objects.specs.declared.key_spec.KeySpec.{KeySpec}
use Rattle.cmc_objects.specs.declared.certificate.CertSpec.{CertSpec}
use Rattle.cmc_objects.specs.declared.certificate.Certificate.{Certificate}
use Rattle.cmc_objects.specs.declared.request.CertificateRequest.{CertificateRequest}
use Rattle.cmc_objects.specs.Defaults.{issuer_kind, issuer_group, key_algorithm, key_size}
use Rattle.cmc_objects.specs.KeyPairs.{pair_of, is_paired, begins, ends}
use Rattle.cmc_policies.specs.Reasons.{Known}
use Rattle.cmc_keys.specs.Kinds.{IsKeyOf, is_key_of, is_public_of}
use Rattle.cmc_match.specs.Marks.{has_text, is_temporary}
use Rattle.cmc_match.specs.Matches.{HasKey, is_one_of, matches, has_key}
use Rattle.cmc_match.specs.Revisions.{current_request}

-- the private key of the Secret, and its certificate, both in DER
abbrev pub key_in : Secret → Option (List ℕ)
key_in secret = text_by_key secret.parts (codes "tls.key")

abbrev pub certificate_file_in : Secret → Option (List ℕ)
certificate_file_in secret = text_by_key secret.parts (codes "tls.crt")

-- the key and the certificate are readable, and the public key is that of the certificate
pub record IsPair (secret : Secret) (fields : CertificateFields) : Type 0 where
  pub key : List ℕ
  pub certificate : List ℕ
  pub key_stands : key_in secret ≡ Some key
  pub certificate_stands : certificate_file_in secret ≡ Some certificate
  pub key_is : IsKeyFile key fields.key
  pub certificate_is : IsCertificate certificate fields

-- a key and a certificate stand and are not empty, and the Secret is not marked as temporary
pub record IsFilled (secret : Secret) : Type 0 where
  pub key : List ℕ
  pub certificate : List ℕ
  pub key_stands : key_in secret ≡ Some key
  pub certificate_stands : certificate_file_in secret ≡ Some certificate
  pub key_given : 0 < length key
  pub certificate_given : 0 < length certificate
  pub not_temporary : text_by_key secret.meta.annotations (codes "cert-manager.io/temporary-certificate") ≢ Some (codes "true")

-- the annotations name the issuer, its kind and its group, with their defaults
pub record NamesIssuer (issuer : IssuerRef) (secret : Secret) : Type 0 where
  pub name : text_by_key secret.meta.annotations (codes "cert-manager.io/issuer-name") ≡ Some issuer.name
  pub kind : text_by_key secret.meta.annotations (codes "cert-manager.io/issuer-kind") ≡ Some (issuer_kind issuer)
  pub group : text_by_key secret.meta.annotations (codes "cert-manager.io/issuer-group") ≡ Some (issuer_group issuer)

-- the annotations name the Certificate of this name, or none
abbrev pub owner_text : Secret → Option (List ℕ)
owner_text secret = text_by_key secret.meta.annotations (codes "cert-manager.io/certificate-name")

abbrev pub NamesOwner : List ℕ → Secret → Type 0
NamesOwner name secret = (owner_text secret ≡ None) ⊎ (owner_text secret ≡ Some name)

-- the key is of the algorithm and the size that are asked for, and the request is for it
pub record HasRequestedKey (spec : KeySpec) (secret : Secret) (request : CertificateRequest) : Type 0 where
  pub key : List ℕ
  pub key_stands : key_in secret ≡ Some key
  pub fits : IsKeyOf (key_algorithm spec) (key_size spec) key
  pub requested : HasKey request key

-- ---- the same as a function

-- the fields of the certificate that the Secret's key and certificate are a pair with
unfoldable pub pair_in : Secret → Option CertificateFields
pair_in secret = pair_of (key_in secret) (certificate_file_in secret)

abbrev pub pair_at : Option Secret → Option CertificateFields
pair_at None = None
pair_at (Some secret) = pair_in secret

-- ---- the flags

-- the part stands and is not empty
abbrev pub is_non_empty : Option (List ℕ) → Bool
is_non_empty None = false
is_non_empty (Some []) = false
is_non_empty (Some (b ∷ bs)) = true

abbrev pub has_some_secret : Option Secret → Bool
has_some_secret None = false
has_some_secret (Some secret) = true

-- a key and a certificate are there, and are not marked as temporary
unfoldable pub is_filled : Option Secret → Bool
is_filled None = false
is_filled (Some secret) = is_non_empty (key_in secret) && (is_non_empty (certificate_file_in secret) && not (is_temporary secret))

unfoldable pub names_issuer : IssuerRef → Option Secret → Bool
names_issuer issuer None = false
names_issuer issuer (Some secret) =
    has_text secret.meta.annotations (codes "cert-manager.io/issuer-name") issuer.name
    && (has_text secret.meta.annotations (codes "cert-manager.io/issuer-kind") (issuer_kind issuer)
    && has_text secret.meta.annotations (codes "cert-manager.io/issuer-group") (issuer_group issuer))

abbrev pub is_absent_or : Option (List ℕ) → List ℕ → Bool
is_absent_or None name = true
is_absent_or (Some text) name = bytes_eq text name

unfoldable pub names_owner : List ℕ → Option Secret → Bool
names_owner name None = false
names_owner name (Some secret) = is_absent_or (owner_text secret) name

-- the key is of the algorithm and the size that are asked for
abbrev pub fits : KeySpec → List ℕ → Bool
fits spec key = is_key_of (key_algorithm spec) (key_size spec) key

-- the key fits the specification, and a current request stands whose certification request has its public key
abbrev pub is_requested : KeySpec → Option (List ℕ) → Option CertificateRequest → Bool
is_requested spec None current = false
is_requested spec (Some key) None = false
is_requested spec (Some key) (Some request) = fits spec key && has_key request key

-- the same of what was read of the key and of the current request's certification request
abbrev pub is_requested_as_read : KeySpec → Option PublicKey → Option RequestFields → Bool
is_requested_as_read spec None asked = false
is_requested_as_read spec (Some key) asked = is_public_of (key_algorithm spec) (key_size spec) (Some key) && is_one_of (Some key) asked

unfoldable pub has_requested_key : KeySpec → Option Secret → Option CertificateRequest → Bool
has_requested_key spec None current = false
has_requested_key spec (Some secret) current = is_requested spec (key_in secret) current

-- no current request stands, or it asks for what the specification asks for
abbrev pub is_unchanged : CertSpec → Option CertificateRequest → Bool
is_unchanged spec None = true
is_unchanged spec (Some request) = matches spec request

-- what the checks of a Certificate of this name look at: the Secret that it names, and its current request
abbrev pub known_of : CertSpec → List ℕ → Option Secret → Option CertificateRequest → Known
known_of spec name secret current = record {
  secret = has_some_secret secret;
  filled = is_filled secret;
  pair = is_paired (pair_at secret);
  issuer = names_issuer spec.issuer secret;
  owner = names_owner name secret;
  kind = has_requested_key spec.key secret current;
  request = is_unchanged spec current;
  not_before = begins (pair_at secret);
  not_after = ends (pair_at secret);
}

-- what is known of the Certificate's Secret and of the current one of its requests
abbrev pub known_for : Certificate → Option Secret → List CertificateRequest → Known
known_for certificate secret requests = known_of certificate.spec certificate.meta.name secret (current_request certificate.status.revision requests)
