-- The octets that requests and certificates are built of.
use Rattle.std.specs.Prelude.{ℕ, List, [], ◌∷◌, ◌++◌, Option, Some, None}
use Rattle.cmc_der.specs.Builders.{value}
use Rattle.cmc_der.specs.Integers.{integer_of}
use Rattle.cmc_der.specs.Keys.{PublicKey, RsaKey, EcKey, OtherKey}
use Rattle.cmc_der.specs.declared.fields.KeyKind.{KeyKind}
use Rattle.cmc_der.specs.declared.fields.KeyKind.TheVariants.{Rsa, P256, P384, P521}
use Rattle.cmc_x509_build.specs.declared.oids.TheConstants.{RSA_ENCRYPTION, EC_PUBLIC_KEY, SECP256R1, SECP384R1, SECP521R1, COMMON_NAME, SUBJECT_ALT_NAME, ECDSA_WITH_SHA256}
use Rattle.cmc_x509_build.specs.Addresses.{address_at}

-- the algorithm of each signature: ecdsa-with-SHA256, without a parameter (RFC 5758, 3.2)
abbrev pub signature_algorithm : List ℕ
signature_algorithm = value 48 (value 6 ECDSA_WITH_SHA256)

-- what is signed, and its signature
unfoldable pub signed_octets : List ℕ → List ℕ → List ℕ
signed_octets body signature = value 48 (body ++ (signature_algorithm ++ value 3 (0 ∷ signature)))

-- RSAPublicKey
abbrev pub rsa_octets : List ℕ → List ℕ → List ℕ
rsa_octets modulus exponent = value 48 (value 2 (integer_of modulus) ++ value 2 (integer_of exponent))

abbrev pub curve_oid : KeyKind → List ℕ
curve_oid P256 = SECP256R1
curve_oid P384 = SECP384R1
curve_oid P521 = SECP521R1
curve_oid (Rsa bits) = []

-- SubjectPublicKeyInfo of an algorithm, the octets of its parameter and those of a key
abbrev pub key_info : List ℕ → List ℕ → List ℕ → List ℕ
key_info algorithm parameter key =
    value 48 (value 48 (value 6 algorithm ++ parameter) ++ value 3 (0 ∷ key))

-- and of a key
unfoldable pub spki_octets : PublicKey → List ℕ
spki_octets (RsaKey modulus exponent) = key_info RSA_ENCRYPTION (value 5 []) (rsa_octets modulus exponent)
spki_octets (EcKey curve point) = key_info EC_PUBLIC_KEY (value 6 (curve_oid curve)) point
spki_octets (OtherKey whole) = whole

-- Name: none, or one with this commonName as a UTF8String
unfoldable pub name_octets : Option (List ℕ) → List ℕ
name_octets None = value 48 []
name_octets (Some text) = value 48 (value 49 (value 48 (value 6 COMMON_NAME ++ value 12 text)))

-- GeneralName of an IP address: none where the text writes none
abbrev pub address_value : Option (List ℕ) → List ℕ
address_value None = []
address_value (Some octets) = value 135 octets

abbrev pub address_octets : List ℕ → List ℕ
address_octets text = address_value (address_at text)

-- the contents octets of the extension subjectAltName's value (RFC 5280, 4.2.1.6), in an Extension that is
-- not critical
abbrev pub alternative_extension : List ℕ → List ℕ
alternative_extension names = value 48 (value 6 SUBJECT_ALT_NAME ++ value 4 (value 48 names))
