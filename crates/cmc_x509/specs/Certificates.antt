-- Certificates (RFC 5280, 4.1) and certification requests (RFC 2986, 4), and the fields that are read of them.
use Rattle.std.specs.Prelude.{◌≡◌, ℕ, ℤ, ◌≤◌, ◌≤ℤ◌, List, [], ◌∷◌, length, Option, Some, None}
use Rattle.cmc_der.specs.Values.{IsDerValue, BeginsWith}
use Rattle.cmc_der.specs.Keys.{CertificateFields, RequestFields}
use Rattle.cmc_x509.specs.declared.taking.TheConstants.{MAX_INPUT}
use Rattle.cmc_x509.specs.Options.{BeginsWithOptional}
use Rattle.cmc_x509.specs.Lists.{IsListOf}
use Rattle.cmc_x509.specs.PublicKeys.{AlgorithmIdentifier, BeginsWithAlgorithm, BeginsWithInteger, BeginsWithSpki}
use Rattle.cmc_x509.specs.Names.{BeginsWithName, IsExtension, IsRequestAttribute}
use Rattle.cmc_x509.specs.Times.{BeginsWithTime}

-- what is signed, and its signature: a SEQUENCE of a SEQUENCE with this body, an AlgorithmIdentifier and a
-- BIT STRING with no unused bits
pub record IsSignedSequence (octets body : List ℕ) : Type 0 where
  pub parts : List ℕ
  pub r0 : List ℕ
  pub r1 : List ℕ
  pub algorithm : AlgorithmIdentifier
  pub signature : List ℕ
  pub whole : IsDerValue octets 48 parts
  pub body_is : BeginsWith parts 48 body r0
  pub algorithm_is : BeginsWithAlgorithm r0 algorithm r1
  pub signature_is : IsDerValue r1 3 (0 ∷ signature)

-- version: not there, which is v1, or [0] with v3
abbrev pub IsVersionField : Option (List ℕ) → Type 0
IsVersionField None = Unit {0}
IsVersionField (Some octets) = IsDerValue octets 2 (2 ∷ [])

-- Validity: a SEQUENCE of two times, the second not before the first
pub record BeginsWithValidity (octets : List ℕ) (not_before not_after : ℤ) (rest : List ℕ) : Type 0 where
  pub body : List ℕ
  pub inner : List ℕ
  pub whole : BeginsWith octets 48 body rest
  pub first : BeginsWithTime body not_before inner
  pub second : BeginsWithTime inner not_after []
  pub ordered : not_before ≤ℤ not_after

-- a UniqueIdentifier: not there, or a BIT STRING with no unused bits
abbrev pub IsUniqueId : Option (List ℕ) → Type 0
IsUniqueId None = Unit {0}
IsUniqueId (Some octets) = (bits : List ℕ) × (octets ≡ 0 ∷ bits)

-- the alternative names: none, or those of the first such extension
abbrev pub or_none : Option (List ℕ) → List ℕ
or_none None = []
or_none (Some names) = names

-- extensions: not there, or a SEQUENCE of extensions, which give these alternative names
abbrev pub AreExtensions : Option (List ℕ) → List ℕ → Type 0
AreExtensions None alternative = alternative ≡ []
AreExtensions (Some octets) alternative = (body : List ℕ) × (found : Option (List ℕ)) × IsDerValue octets 48 body × IsListOf IsExtension body found × (alternative ≡ or_none found)

-- TBSCertificate: [0] version, serialNumber, signature, issuer, validity, subject, subjectPublicKeyInfo,
-- [1] issuerUniqueID, [2] subjectUniqueID and [3] extensions
pub record IsTbsCertificate (octets : List ℕ) (c : CertificateFields) : Type 0 where
  pub r0 : List ℕ
  pub r1 : List ℕ
  pub r2 : List ℕ
  pub r3 : List ℕ
  pub r4 : List ℕ
  pub r5 : List ℕ
  pub r6 : List ℕ
  pub r7 : List ℕ
  pub r8 : List ℕ
  pub version : Option (List ℕ)
  pub signature : AlgorithmIdentifier
  pub issuer : Option (List ℕ)
  pub issuer_id : Option (List ℕ)
  pub subject_id : Option (List ℕ)
  pub extensions : Option (List ℕ)
  pub version_stands : BeginsWithOptional octets 160 version r0
  pub version_is : IsVersionField version
  pub serial_is : BeginsWithInteger r0 c.serial r1
  pub signature_is : BeginsWithAlgorithm r1 signature r2
  pub issuer_is : BeginsWithName r2 issuer r3
  pub validity_is : BeginsWithValidity r3 c.not_before c.not_after r4
  pub subject_is : BeginsWithName r4 c.names.common r5
  pub key_is : BeginsWithSpki r5 c.key r6
  pub issuer_id_stands : BeginsWithOptional r6 129 issuer_id r7
  pub issuer_id_is : IsUniqueId issuer_id
  pub subject_id_stands : BeginsWithOptional r7 130 subject_id r8
  pub subject_id_is : IsUniqueId subject_id
  pub extensions_stand : BeginsWithOptional r8 163 extensions []
  pub extensions_are : AreExtensions extensions c.names.alternative

-- the octets, within the size that is read, are a certificate with these fields
pub record IsCertificate (octets : List ℕ) (c : CertificateFields) : Type 0 where
  pub within : length octets ≤ MAX_INPUT
  pub body : List ℕ
  pub signed : IsSignedSequence octets body
  pub is : IsTbsCertificate body c

-- CertificationRequestInfo: version 0, subject, subjectPKInfo and [0] attributes
pub record IsRequestInfo (octets : List ℕ) (c : RequestFields) : Type 0 where
  pub r0 : List ℕ
  pub r1 : List ℕ
  pub r2 : List ℕ
  pub attributes : List ℕ
  pub found : Option (List ℕ)
  pub version : BeginsWith octets 2 (0 ∷ []) r0
  pub subject_is : BeginsWithName r0 c.names.common r1
  pub key_is : BeginsWithSpki r1 c.key r2
  pub attributes_stand : IsDerValue r2 160 attributes
  pub attributes_are : IsListOf IsRequestAttribute attributes found
  pub alternative_is : c.names.alternative ≡ or_none found

-- the octets, within the size that is read, are a certification request with these fields
pub record IsRequest (octets : List ℕ) (c : RequestFields) : Type 0 where
  pub within : length octets ≤ MAX_INPUT
  pub body : List ℕ
  pub signed : IsSignedSequence octets body
  pub is : IsRequestInfo body c
