-- A private key and a certificate of one public key.
use Rattle.std.specs.Prelude.{◌≡◌, ℕ, ℤ, pos, Bool, true, false, ◌&&◌, if◌then◌else◌, List, codes, Option, Some, None}
use Rattle.std.specs.Str.{bytes_eq}
use Rattle.cmc_meta.specs.PairLists.{text_by_key}
use Rattle.cmc_der.specs.Keys.{PublicKey, RsaKey, EcKey, OtherKey, CertificateFields, same_kind}
use Rattle.cmc_x509.specs.ReadKeys.{key_file_at}
use Rattle.cmc_x509.specs.ReadCertificates.{certificate_fields_at}
use Rattle.cmc_objects.specs.declared.pairing.Pairing.{Pairing}

-- the two keys have equal parts
unfoldable pub is_one_key : PublicKey → PublicKey → Bool
is_one_key (RsaKey m e) (RsaKey n f) = bytes_eq m n && bytes_eq e f
is_one_key (EcKey c p) (EcKey d q) = same_kind c d && bytes_eq p q
is_one_key (OtherKey w) (OtherKey v) = bytes_eq w v
is_one_key left right = false

abbrev pub fields_with_key : Option PublicKey → Option CertificateFields → Option CertificateFields
fields_with_key None certificate = None
fields_with_key (Some key) None = None
fields_with_key (Some key) (Some fields) = if is_one_key key fields.key then Some fields else None

-- the public key of a key file, if there is one
abbrev pub key_read : Option (List ℕ) → Option PublicKey
key_read None = None
key_read (Some file) = key_file_at file

-- the public key of the key file among the data of a Secret
abbrev pub public_among : List (List ℕ × List ℕ) → Option PublicKey
public_among parts = key_read (text_by_key parts (codes "tls.key"))

-- the fields of the certificate, where one stands and has this key
abbrev pub pair_with_key : Option PublicKey → Option (List ℕ) → Option CertificateFields
pair_with_key key None = None
pair_with_key key (Some certificate) = fields_with_key key (certificate_fields_at certificate)

abbrev pub pair_of : Option (List ℕ) → Option (List ℕ) → Option CertificateFields
pair_of None certificate = None
pair_of (Some key) None = None
pair_of (Some key) (Some certificate) = fields_with_key (key_file_at key) (certificate_fields_at certificate)

-- the fields of the certificate that a key and a certificate among the data of a Secret are a pair with
abbrev pub pair_among : List (List ℕ × List ℕ) → Option CertificateFields
pair_among parts = pair_of (text_by_key parts (codes "tls.key")) (text_by_key parts (codes "tls.crt"))

abbrev pub is_paired : Option CertificateFields → Bool
is_paired None = false
is_paired (Some fields) = true

-- the validity of the pair's certificate, 0 where there is no pair
abbrev pub begins : Option CertificateFields → ℤ
begins None = pos 0
begins (Some fields) = fields.not_before

abbrev pub ends : Option CertificateFields → ℤ
ends None = pos 0
ends (Some fields) = fields.not_after

-- this is what is known of the pair among the data
pub record IsPairing (parts : List (List ℕ × List ℕ)) (pairing : Pairing) : Type 0 where
  pub pair : pairing.pair ≡ is_paired (pair_among parts)
  pub begins_so : pairing.not_before ≡ begins (pair_among parts)
  pub ends_so : pairing.not_after ≡ ends (pair_among parts)
