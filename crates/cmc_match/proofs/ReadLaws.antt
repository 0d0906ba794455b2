-- What the checks of the key and of the request say of what was read of both once.
use Rattle.std.proofs.Common.{◌≡◌, ℕ, Bool, true, false, List, Option, Some, None, refl, sym}
use Rattle.std.specs.Prelude.{◌&&◌, ◌↔◌, IsTrue}
use Rattle.std.proofs.lemmas.Bool.{and_from, and_parts}
use Rattle.cmc_der.specs.Keys.{PublicKey, RequestFields}
use Rattle.cmc_x509.specs.ReadKeys.{key_file_at}
use Rattle.cmc_x509.specs.ReadCertificates.{request_fields_at}
use Rattle.cmc_keys.specs.Kinds.{is_key_of, is_public_of}
use Rattle.cmc_objects.specs.Defaults.{key_algorithm, key_size}
use Rattle.cmc_objects.specs.KeyPairs.{key_read}
use Rattle.cmc_objects.specs.declared.key_spec.KeySpec.{KeySpec}
use Rattle.cmc_objects.specs.declared.secret.Secret.{Secret}
use Rattle.cmc_objects.specs.declared.certificate.CertSpec.{CertSpec}
use Rattle.cmc_objects.specs.declared.request.CertificateRequest.{CertificateRequest}
use Rattle.cmc_match.specs.Matches.{Matches, HasKey, matches, has_key, request_read}
use Rattle.cmc_match.specs.Facts.{key_in, is_requested, is_requested_as_read, has_requested_key}
use Rattle.cmc_match.proofs.MatchLaws.{matching, keys_match}

none_right : (b : Bool) → (b && false) ≡ false
none_right true = refl
none_right false = refl

as_read : (spec : KeySpec) (file : List ℕ) (request : CertificateRequest) (key : Option PublicKey) (asked : Option RequestFields) → key_file_at file ≡ key → request_fields_at request.spec.request ≡ asked
    → (is_key_of (key_algorithm spec) (key_size spec) file && has_key request file) ≡ is_requested_as_read spec key asked
unfolding is_key_of has_key
as_read spec file request None asked e f = rw (e) refl
as_read spec file request (Some key) None e f = rw (e, f) refl
as_read spec file request (Some key) (Some fields) e f = rw (e, f) refl

alone : (spec : KeySpec) (key : Option PublicKey) → is_requested_as_read spec key None ≡ false
alone spec None = refl
alone spec (Some key) = none_right (is_public_of (key_algorithm spec) (key_size spec) (Some key))

by_parts : (spec : KeySpec) (key : Option (List ℕ)) (current : Option CertificateRequest) → is_requested spec key current ≡ is_requested_as_read spec (key_read key) (request_read current)
by_parts spec None current = refl
by_parts spec (Some file) None = sym (alone spec (key_file_at file))
by_parts spec (Some file) (Some request) = as_read spec file request (key_file_at file) (request_fields_at request.spec.request) refl refl

pub requested_as_read : (spec : KeySpec) (secret : Secret) (current : Option CertificateRequest) (key : Option PublicKey) (asked : Option RequestFields) → key ≡ key_read (key_in secret) → asked ≡ request_read current
    → has_requested_key spec (Some secret) current ≡ is_requested_as_read spec key asked
unfolding has_requested_key
requested_as_read spec secret current key asked e f = rw (e, f) (by_parts spec (key_in secret) current)

-- what the check of a key file says of the public key that was read of it
pub fitting_as_read : (spec : KeySpec) (file : List ℕ) (key : Option PublicKey) → key ≡ key_file_at file
    → is_key_of (key_algorithm spec) (key_size spec) file ≡ is_public_of (key_algorithm spec) (key_size spec) key
unfolding is_key_of
fitting_as_read spec file key e = rw (e) refl

-- a request that asks for what is wanted, with the key
pub answered : (spec : CertSpec) (request : CertificateRequest) (file : List ℕ) → IsTrue (matches spec request && has_key request file) ↔ (Matches spec request × HasKey request file)
answered spec request file =
    (λ h. ((matching spec request).0 (and_parts _ _ h).0, (keys_match request file).0 (and_parts _ _ h).1), λ h. and_from _ _ ((matching spec request).1 h.0) ((keys_match request file).1 h.1))
