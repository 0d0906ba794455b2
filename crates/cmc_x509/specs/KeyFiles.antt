-- Files of private keys: RSAPrivateKey (RFC 8017, A.1.2), ECPrivateKey (RFC 5915, 3) and PrivateKeyInfo
-- (RFC 5208, 5), and the public key that each states.
use Rattle.std.specs.Prelude.{◌≡◌, ℕ, zero, suc, ◌≤◌, ◌⊎◌, List, [], ◌∷◌, length, Option, Some, None}
use Rattle.cmc_der.specs.declared.fields.KeyKind.{KeyKind}
use Rattle.cmc_der.specs.Values.{IsDerValue, BeginsWith}
use Rattle.cmc_der.specs.Keys.{PublicKey, RsaKey, EcKey, OtherKey}
use Rattle.cmc_x509.specs.declared.oids.TheConstants.{RSA_ENCRYPTION, EC_PUBLIC_KEY}
use Rattle.cmc_x509.specs.declared.taking.TheConstants.{MAX_INPUT}
use Rattle.cmc_x509.specs.Options.{Value, BeginsWithOptional}
use Rattle.cmc_x509.specs.Lists.{IsListOf}
use Rattle.cmc_x509.specs.PublicKeys.{AlgorithmIdentifier, BeginsWithAlgorithm, BeginsWithInteger, BeginsWithPositive, IsNull, NamesCurve, IsCurve, IsPoint}
use Rattle.cmc_x509.specs.Names.{IsRequestAttribute}

-- the octets are so many INTEGERs
abbrev pub IsIntegers : ℕ → List ℕ → Type 0
IsIntegers zero octets = octets ≡ []
IsIntegers (suc n) octets = (body : List ℕ) × (rest : List ℕ) × BeginsWithInteger octets body rest × IsIntegers n rest

-- RSAPrivateKey of two primes: version 0, modulus and publicExponent, both positive, and privateExponent,
-- prime1, prime2, exponent1, exponent2 and coefficient
pub record IsRsaPrivateKey (octets modulus exponent : List ℕ) : Type 0 where
  pub body : List ℕ
  pub r0 : List ℕ
  pub r1 : List ℕ
  pub r2 : List ℕ
  pub whole : IsDerValue octets 48 body
  pub version : BeginsWith body 2 (0 ∷ []) r0
  pub modulus_is : BeginsWithPositive r0 modulus r1
  pub exponent_is : BeginsWithPositive r1 exponent r2
  pub others : IsIntegers 6 r2

-- the curve of a key, which is stated around it or inside it, and the same where in both places
abbrev pub IsAgreed : Option KeyKind → Option (List ℕ) → KeyKind → Type 0
IsAgreed None None curve = ⊥
IsAgreed (Some around) None curve = around ≡ curve
IsAgreed None (Some inside) curve = (oid : List ℕ) × IsDerValue inside 6 oid × NamesCurve oid curve
IsAgreed (Some around) (Some inside) curve = (oid : List ℕ) × IsDerValue inside 6 oid × NamesCurve oid curve × (around ≡ curve)

-- ECPrivateKey: version 1, privateKey, [0] the curve, and [1] the point, which must are there
pub record IsEcPrivateKey (around : Option KeyKind) (octets : List ℕ) (curve : KeyKind) (point : List ℕ) : Type 0 where
  pub body : List ℕ
  pub r0 : List ℕ
  pub r1 : List ℕ
  pub r2 : List ℕ
  pub secret : List ℕ
  pub parameters : Option (List ℕ)
  pub public_key : List ℕ
  pub whole : IsDerValue octets 48 body
  pub version : BeginsWith body 2 (1 ∷ []) r0
  pub secret_is : BeginsWith r0 4 secret r1
  pub parameters_are : BeginsWithOptional r1 160 parameters r2
  pub public_key_is : IsDerValue r2 161 public_key
  pub bits_are : IsDerValue public_key 3 (0 ∷ point)
  pub curve_is : IsAgreed around parameters curve
  pub point_is : IsPoint curve point

-- the curve that stands around an ECPrivateKey, if one does
abbrev pub IsAround : Option Value → Option KeyKind → Type 0
IsAround parameter None = parameter ≡ None
IsAround parameter (Some curve) = IsCurve parameter curve

-- the octets are the key of this algorithm
abbrev pub IsPrivateKeyOf : AlgorithmIdentifier → List ℕ → PublicKey → Type 0
IsPrivateKeyOf a octets (RsaKey m e) = (a.oid ≡ RSA_ENCRYPTION) × IsNull a.parameter × IsRsaPrivateKey octets m e
IsPrivateKeyOf a octets (EcKey curve point) = (a.oid ≡ EC_PUBLIC_KEY) × ((around : Option KeyKind) × IsAround a.parameter around × IsEcPrivateKey around octets curve point)
IsPrivateKeyOf a octets (OtherKey w) = ⊥

-- attributes, if they are there, as a request has them
abbrev pub AreAttributes : Option (List ℕ) → Type 0
AreAttributes None = Unit {0}
AreAttributes (Some octets) = (found : Option (List ℕ)) × IsListOf IsRequestAttribute octets found

-- PrivateKeyInfo: version 0, privateKeyAlgorithm, privateKey, and [0] attributes
pub record IsPrivateKeyInfo (octets : List ℕ) (key : PublicKey) : Type 0 where
  pub body : List ℕ
  pub r0 : List ℕ
  pub r1 : List ℕ
  pub r2 : List ℕ
  pub algorithm : AlgorithmIdentifier
  pub private_key : List ℕ
  pub attributes : Option (List ℕ)
  pub whole : IsDerValue octets 48 body
  pub version : BeginsWith body 2 (0 ∷ []) r0
  pub algorithm_is : BeginsWithAlgorithm r0 algorithm r1
  pub private_key_is : BeginsWith r1 4 private_key r2
  pub attributes_stand : BeginsWithOptional r2 160 attributes []
  pub attributes_are : AreAttributes attributes
  pub key_is : IsPrivateKeyOf algorithm private_key key

-- one of the three
abbrev pub IsPrivateKey : List ℕ → PublicKey → Type 0
IsPrivateKey octets (RsaKey m e) = IsRsaPrivateKey octets m e ⊎ IsPrivateKeyInfo octets (RsaKey m e)
IsPrivateKey octets (EcKey curve point) = IsEcPrivateKey None octets curve point ⊎ IsPrivateKeyInfo octets (EcKey curve point)
IsPrivateKey octets (OtherKey w) = ⊥

-- the octets, within the size that is read, are a private key with this public key
abbrev pub IsKeyFile : List ℕ → PublicKey → Type 0
IsKeyFile octets key = (length octets ≤ MAX_INPUT) × IsPrivateKey octets key
