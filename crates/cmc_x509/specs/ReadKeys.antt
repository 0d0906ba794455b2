-- Reading public keys, and files of private keys, from the left.
use Rattle.std.specs.Prelude.{ℕ, ◌*◌, ◌==◌, ◌&&◌, nat_lt, nat_le, Bool, false, cond, List, [], ◌∷◌, length, Option, Some, None}
use Rattle.std.specs.Str.{bytes_eq}
use Rattle.cmc_der.specs.declared.fields.KeyKind.{KeyKind}
use Rattle.cmc_der.specs.declared.fields.KeyKind.TheVariants.{P256, P384, P521}
use Rattle.cmc_der.specs.Integers.{is_integer}
use Rattle.cmc_der.specs.Keys.{PublicKey, RsaKey, EcKey, OtherKey, same_kind}
use Rattle.cmc_x509.specs.declared.oids.TheConstants.{RSA_ENCRYPTION, EC_PUBLIC_KEY, SECP256R1, SECP384R1, SECP521R1}
use Rattle.cmc_x509.specs.declared.taking.TheConstants.{MAX_INPUT}
use Rattle.cmc_x509.specs.Options.{Value, ◌>>=◌, Taken, take_at, whole_at, end_at, only_at, at_most_one_at, optional_value_at}
use Rattle.cmc_x509.specs.Lists.{first_at}
use Rattle.cmc_x509.specs.PublicKeys.{AlgorithmIdentifier, width}
use Rattle.cmc_x509.specs.ReadNames.{request_attribute_of}

unfoldable pub algorithm_at : List ℕ → Option (AlgorithmIdentifier × List ℕ)
algorithm_at bs = do
  whole ← take_at 48 bs
  oid ← take_at 6 whole.0
  parameter ← at_most_one_at oid.1
  Some (record { oid = oid.0; parameter = parameter }, whole.1)

unfoldable pub integer_at : List ℕ → Option Taken
integer_at bs = do
  taken ← take_at 2 bs
  cond (is_integer taken.0) (Some taken) None

abbrev pub high_first : List ℕ → Option (List ℕ)
high_first [] = None
high_first (b ∷ bs) = cond (nat_le 128 b) (Some (b ∷ bs)) None

-- the octets of a positive number without a zero in front, of the contents octets of its INTEGER
abbrev pub magnitude_of : List ℕ → Option (List ℕ)
magnitude_of [] = None
magnitude_of (b ∷ bs) = cond (b == 0) (high_first bs) (cond (nat_lt b 128) (Some (b ∷ bs)) None)

unfoldable pub positive_at : List ℕ → Option Taken
positive_at bs = do
  taken ← take_at 2 bs
  magnitude ← magnitude_of taken.0
  Some (magnitude, taken.1)

-- the contents octets of the INTEGER at the front are these
unfoldable pub version_at : ℕ → List ℕ → Option (List ℕ)
version_at n bs = do
  taken ← take_at 2 bs
  cond (bytes_eq taken.0 (n ∷ [])) (Some taken.1) None

unfoldable pub rsa_public_at : List ℕ → Option PublicKey
rsa_public_at bs = do
  body ← only_at 48 bs
  modulus ← positive_at body
  exponent ← positive_at modulus.1
  end ← end_at exponent.1
  Some (RsaKey modulus.0 exponent.0)

abbrev pub curve_named : List ℕ → Option KeyKind
curve_named oid = cond (bytes_eq oid SECP256R1) (Some P256) (cond (bytes_eq oid SECP384R1) (Some P384) (cond (bytes_eq oid SECP521R1) (Some P521) None))

abbrev pub curve_of : Option Value → Option KeyKind
curve_of None = None
curve_of (Some v) = cond (v.0 == 6) (curve_named v.1) None

abbrev pub is_point : KeyKind → List ℕ → Bool
is_point curve [] = false
is_point curve (b ∷ bs) = (b == 4) && (length bs == 2 * width curve)

abbrev pub is_null : Option Value → Bool
is_null None = false
is_null (Some v) = (v.0 == 5) && (length v.1 == 0)

unfoldable pub point_at : KeyKind → List ℕ → Option PublicKey
point_at curve bits = cond (is_point curve bits) (Some (EcKey curve bits)) None

-- the bits of a BIT STRING with no unused bits, of its contents octets
unfoldable pub bits_of : List ℕ → Option (List ℕ)
bits_of [] = None
bits_of (b ∷ bs) = cond (b == 0) (Some bs) None

unfoldable pub public_key_at : AlgorithmIdentifier → List ℕ → List ℕ → Option PublicKey
public_key_at a whole bits =
    cond (bytes_eq a.oid RSA_ENCRYPTION) (cond (is_null a.parameter) (rsa_public_at bits) None)
    (cond (bytes_eq a.oid EC_PUBLIC_KEY) (curve_of a.parameter >>= (λ curve. point_at curve bits)) (Some (OtherKey whole)))

unfoldable pub spki_of : List ℕ → Option PublicKey
spki_of whole = do
  body ← only_at 48 whole
  algorithm ← algorithm_at body
  string ← only_at 3 algorithm.1
  bits ← bits_of string
  public_key_at algorithm.0 whole bits

unfoldable pub spki_at : List ℕ → Option (PublicKey × List ℕ)
spki_at bs = do
  taken ← whole_at bs
  key ← spki_of taken.0
  Some (key, taken.1)

-- ---- files of private keys

-- three INTEGERs, and the rest
unfoldable pub three_at : List ℕ → Option (List ℕ)
three_at bs = do
  first ← integer_at bs
  second ← integer_at first.1
  third ← integer_at second.1
  Some third.1

-- six INTEGERs, and the end
unfoldable pub six_at : List ℕ → Option ℕ
six_at bs = do
  middle ← three_at bs
  rest ← three_at middle
  end_at rest

unfoldable pub rsa_private_at : List ℕ → Option PublicKey
rsa_private_at bs = do
  body ← only_at 48 bs
  rest ← version_at 0 body
  modulus ← positive_at rest
  exponent ← positive_at modulus.1
  others ← six_at exponent.1
  Some (RsaKey modulus.0 exponent.0)

abbrev pub agreed : Option KeyKind → KeyKind → Option KeyKind
agreed None curve = Some curve
agreed (Some around) curve = cond (same_kind around curve) (Some curve) None

unfoldable pub curve_inside_at : Option KeyKind → List ℕ → Option KeyKind
curve_inside_at around inside = do
  oid ← only_at 6 inside
  curve ← curve_named oid
  agreed around curve

abbrev pub agreed_curve : Option KeyKind → Option (List ℕ) → Option KeyKind
agreed_curve around None = around
agreed_curve around (Some inside) = curve_inside_at around inside

unfoldable pub ec_private_at : Option KeyKind → List ℕ → Option PublicKey
ec_private_at around bs = do
  body ← only_at 48 bs
  rest ← version_at 1 body
  secret ← take_at 4 rest
  parameters ← optional_value_at 160 secret.1
  public_key ← only_at 161 parameters.1
  string ← only_at 3 public_key
  bits ← bits_of string
  curve ← agreed_curve around parameters.0
  point_at curve bits

abbrev pub attributes_at : Option (List ℕ) → Option ℕ
attributes_at None = Some 0
attributes_at (Some bs) = first_at request_attribute_of bs >>= (λ found. Some 0)

-- the curve around an ECPrivateKey, if there is one
abbrev pub around_of : Option Value → Option (Option KeyKind)
around_of None = Some None
around_of (Some v) = curve_of (Some v) >>= (λ curve. Some (Some curve))

unfoldable pub private_key_of_at : AlgorithmIdentifier → List ℕ → Option PublicKey
private_key_of_at a bs =
    cond (bytes_eq a.oid RSA_ENCRYPTION) (cond (is_null a.parameter) (rsa_private_at bs) None)
    (cond (bytes_eq a.oid EC_PUBLIC_KEY) (around_of a.parameter >>= (λ around. ec_private_at around bs)) None)

unfoldable pub private_key_info_at : List ℕ → Option PublicKey
private_key_info_at bs = do
  body ← only_at 48 bs
  rest ← version_at 0 body
  algorithm ← algorithm_at rest
  held ← take_at 4 algorithm.1
  attributes ← optional_value_at 160 held.1
  end ← end_at attributes.1
  ok ← attributes_at attributes.0
  private_key_of_at algorithm.0 held.0

abbrev pub or_else : Option PublicKey → Option PublicKey → Option PublicKey
or_else (Some key) other = Some key
or_else None other = other

unfoldable pub private_key_at : List ℕ → Option PublicKey
private_key_at bs = or_else (rsa_private_at bs) (or_else (ec_private_at None bs) (private_key_info_at bs))

-- the public key of a file of a private key
unfoldable pub key_file_at : List ℕ → Option PublicKey
key_file_at bs = cond (nat_le (length bs) MAX_INPUT) (private_key_at bs) None
