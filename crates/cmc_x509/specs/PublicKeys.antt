-- Public keys: SubjectPublicKeyInfo (RFC 5280, 4.1.2.7) of RSA keys (RFC 8017, A.1.1), of elliptic curve
-- keys (RFC 5480, 2), and of others.
use Rattle.std.specs.Prelude.{◌≡◌, ◌≢◌, ℕ, ◌*◌, ◌<◌, true, List, [], ◌∷◌, ◌++◌, length, Option, Some}
use Rattle.cmc_der.specs.declared.fields.KeyKind.{KeyKind}
use Rattle.cmc_der.specs.declared.fields.KeyKind.TheVariants.{Rsa, P256, P384, P521}
use Rattle.cmc_der.specs.Values.{IsDerValue, BeginsWith}
use Rattle.cmc_der.specs.Integers.{is_integer, signed}
use Rattle.cmc_der.specs.Keys.{PublicKey, RsaKey, EcKey, OtherKey}
use Rattle.cmc_x509.specs.declared.keys.Algorithm.{Algorithm}
use Rattle.cmc_x509.specs.declared.oids.TheConstants.{RSA_ENCRYPTION, EC_PUBLIC_KEY, SECP256R1, SECP384R1, SECP521R1}
use Rattle.cmc_x509.specs.Options.{Value, value_shown, IsAtMostOne}

-- an AlgorithmIdentifier (RFC 5280, 4.1.1.2): what it names, and its parameter
pub record AlgorithmIdentifier : Type 0 where
  pub oid : List ℕ
  pub parameter : Option Value

abbrev pub algorithm_shown : Algorithm → AlgorithmIdentifier
algorithm_shown a = record { oid = a.oid.now; parameter = value_shown a.parameter }

-- the octets begin with an AlgorithmIdentifier: a SEQUENCE of an OID and at most one value
pub record BeginsWithAlgorithm (octets : List ℕ) (a : AlgorithmIdentifier) (rest : List ℕ) : Type 0 where
  pub body : List ℕ
  pub inner : List ℕ
  pub whole : BeginsWith octets 48 body rest
  pub algorithm : BeginsWith body 6 a.oid inner
  pub parameters : IsAtMostOne inner a.parameter

-- the octets begin with an INTEGER of these contents octets
abbrev pub BeginsWithInteger : List ℕ → List ℕ → List ℕ → Type 0
BeginsWithInteger octets body rest = BeginsWith octets 2 body rest × (is_integer body ≡ true)

-- the octets spell a positive number with no zero in front
abbrev pub IsMagnitude : List ℕ → Type 0
IsMagnitude [] = ⊥
IsMagnitude (b ∷ bs) = 0 < b

-- the octets begin with a positive INTEGER, whose number these octets spell
abbrev pub BeginsWithPositive : List ℕ → List ℕ → List ℕ → Type 0
BeginsWithPositive octets magnitude rest = BeginsWith octets 2 (signed magnitude) rest × IsMagnitude magnitude

-- RSAPublicKey: a SEQUENCE of modulus and publicExponent, both positive
pub record IsRsaPublicKey (octets modulus exponent : List ℕ) : Type 0 where
  pub body : List ℕ
  pub inner : List ℕ
  pub whole : IsDerValue octets 48 body
  pub modulus_is : BeginsWithPositive body modulus inner
  pub exponent_is : BeginsWithPositive inner exponent []

-- the parameter of rsaEncryption (RFC 8017, A.1): NULL
abbrev pub IsNull : Option Value → Type 0
IsNull parameter = parameter ≡ Some (5, [])

-- the OID names this curve
abbrev pub NamesCurve : List ℕ → KeyKind → Type 0
NamesCurve oid P256 = oid ≡ SECP256R1
NamesCurve oid P384 = oid ≡ SECP384R1
NamesCurve oid P521 = oid ≡ SECP521R1
NamesCurve oid (Rsa bits) = ⊥

-- the parameter of id-ecPublicKey (RFC 5480, 2.1.1): the OID of this curve
abbrev pub IsCurve : Option Value → KeyKind → Type 0
IsCurve parameter curve = (oid : List ℕ) × (parameter ≡ Some (6, oid)) × NamesCurve oid curve

-- the octets of a coordinate
abbrev pub width : KeyKind → ℕ
width P256 = 32
width P384 = 48
width P521 = 66
width (Rsa bits) = 0

-- a point without compression (RFC 5480, 2.2): 04, and two coordinates in the curve's width
abbrev pub IsPoint : KeyKind → List ℕ → Type 0
IsPoint curve point = (coordinates : List ℕ) × (point ≡ 4 ∷ coordinates) × (length coordinates ≡ 2 * width curve)

-- the key bits that stand in this whole SubjectPublicKeyInfo are this key of that algorithm
abbrev pub ArePublicKeyBits : AlgorithmIdentifier → List ℕ → List ℕ → PublicKey → Type 0
ArePublicKeyBits a whole bits (RsaKey m e) = (a.oid ≡ RSA_ENCRYPTION) × IsNull a.parameter × IsRsaPublicKey bits m e
ArePublicKeyBits a whole bits (EcKey curve point) = (a.oid ≡ EC_PUBLIC_KEY) × IsCurve a.parameter curve × IsPoint curve point × (bits ≡ point)
ArePublicKeyBits a whole bits (OtherKey w) = (a.oid ≢ RSA_ENCRYPTION) × (a.oid ≢ EC_PUBLIC_KEY) × (w ≡ whole)

-- the octets are a SubjectPublicKeyInfo: a SEQUENCE of an AlgorithmIdentifier and a BIT STRING with no
-- unused bits, which is the key
pub record IsSpki (octets : List ℕ) (key : PublicKey) : Type 0 where
  pub body : List ℕ
  pub algorithm : AlgorithmIdentifier
  pub after : List ℕ
  pub bits : List ℕ
  pub whole : IsDerValue octets 48 body
  pub algorithm_is : BeginsWithAlgorithm body algorithm after
  pub bits_are : IsDerValue after 3 (0 ∷ bits)
  pub key_is : ArePublicKeyBits algorithm octets bits key

-- the octets begin with a SubjectPublicKeyInfo of this key
abbrev pub BeginsWithSpki : List ℕ → PublicKey → List ℕ → Type 0
BeginsWithSpki octets key rest = (whole : List ℕ) × IsSpki whole key × (octets ≡ whole ++ rest)
