-- Public keys, and the fields of certificates and requests, without where their octets lie in memory.
use Rattle.std.specs.Prelude.{ℕ, ℤ, ◌-◌, ◌^◌, ◌==◌, Bool, true, false, min, List, Option, Some, None}
use Rattle.std.specs.Borrow.{Bor}
use Rattle.cmc_der.specs.Integers.{bit_length}
use Rattle.cmc_der.specs.declared.fields.KeyKind.{KeyKind}
use Rattle.cmc_der.specs.declared.fields.KeyKind.TheVariants as kinds
use Rattle.cmc_der.specs.declared.fields.Spki.{Spki}
use Rattle.cmc_der.specs.declared.fields.Spki.TheVariants as keys
use Rattle.cmc_der.specs.declared.fields.Names.{Names}
use Rattle.cmc_der.specs.declared.fields.CertFields.{CertFields}
use Rattle.cmc_der.specs.declared.fields.CsrFields.{CsrFields}

-- a public key
pub data PublicKey : Type 0 where
  RsaKey : (modulus exponent : List ℕ) → PublicKey
  EcKey : (curve : KeyKind) (point : List ℕ) → PublicKey
  OtherKey : (whole : List ℕ) → PublicKey

abbrev pub key_shown : Spki → PublicKey
key_shown (keys.Rsa m e) = RsaKey m.now e.now
key_shown (keys.Ec c p) = EcKey c p.now
key_shown (keys.Other w) = OtherKey w.now

-- the common name, where there is one, and the contents octets of the alternative names
pub record SubjectNames : Type 0 where
  pub common : Option (List ℕ)
  pub alternative : List ℕ

abbrev pub text_shown : Option (Bor (List ℕ)) → Option (List ℕ)
text_shown None = None
text_shown (Some t) = Some t.now

abbrev pub names_shown : Names → SubjectNames
names_shown n = record { common = text_shown n.common; alternative = n.alternative.now }

-- the same algorithm and size
abbrev pub same_kind : KeyKind → KeyKind → Bool
same_kind (kinds.Rsa m) (kinds.Rsa n) = m == n
same_kind kinds.P256 kinds.P256 = true
same_kind kinds.P384 kinds.P384 = true
same_kind kinds.P521 kinds.P521 = true
same_kind _ _ = false

-- algorithm and size of a key: none for one of another algorithm
abbrev pub key_kind_of : PublicKey → Option KeyKind
key_kind_of (RsaKey m e) = Some (kinds.Rsa (min (bit_length m) (2 ^ 32 - 1)))
key_kind_of (EcKey c p) = Some c
key_kind_of (OtherKey w) = None

-- what is read of a certificate
pub record CertificateFields : Type 0 where
  pub serial : List ℕ
  pub not_before : ℤ
  pub not_after : ℤ
  pub key : PublicKey
  pub names : SubjectNames

abbrev pub cert_shown : CertFields → CertificateFields
cert_shown c = record { serial = c.serial.now; not_before = c.not_before; not_after = c.not_after; key = key_shown c.key; names = names_shown c.names }

-- what is read of a request
pub record RequestFields : Type 0 where
  pub key : PublicKey
  pub names : SubjectNames

abbrev pub csr_shown : CsrFields → RequestFields
csr_shown c = record { key = key_shown c.key; names = names_shown c.names }
