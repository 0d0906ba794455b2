-- The algorithm and the size of a key, and the files that hold a key of these.
use Rattle.std.specs.Prelude.{◌≡◌, ℕ, ◌==◌, ◌||◌, ◌&&◌, Bool, true, false, List, Option, Some, None}
use Rattle.cmc_der.specs.declared.fields.KeyKind.{KeyKind}
use Rattle.cmc_der.specs.declared.fields.KeyKind.TheVariants as kinds
use Rattle.cmc_der.specs.Keys.{PublicKey, key_kind_of}
use Rattle.cmc_x509.specs.KeyFiles.{IsKeyFile}
use Rattle.cmc_x509.specs.ReadKeys.{key_file_at}
use Rattle.cmc_objects.specs.declared.key_spec.Algorithm.{Algorithm}
use Rattle.cmc_objects.specs.declared.key_spec.Algorithm.TheVariants.{Rsa, Ecdsa}

-- the sizes that a key may be asked of: bits of an RSA modulus, and the widths of ECDSA curves
abbrev pub allows_size : Algorithm → ℕ → Bool
allows_size Rsa size = (size == 2048) || ((size == 3072) || ((size == 4096) || (size == 8192)))
allows_size Ecdsa size = (size == 256) || ((size == 384) || (size == 521))

abbrev pub algorithm_of : KeyKind → Algorithm
algorithm_of (kinds.Rsa bits) = Rsa
algorithm_of kinds.P256 = Ecdsa
algorithm_of kinds.P384 = Ecdsa
algorithm_of kinds.P521 = Ecdsa

abbrev pub size_of : KeyKind → ℕ
size_of (kinds.Rsa bits) = bits
size_of kinds.P256 = 256
size_of kinds.P384 = 384
size_of kinds.P521 = 521

-- the octets are a key file, in whichever encoding, whose public key is of this algorithm and size
pub record IsKeyOf (algorithm : Algorithm) (size : ℕ) (octets : List ℕ) : Type 0 where
  pub key : PublicKey
  pub kind : KeyKind
  pub file : IsKeyFile octets key
  pub kind_is : key_kind_of key ≡ Some kind
  pub algorithm_is : algorithm_of kind ≡ algorithm
  pub size_is : size_of kind ≡ size

-- ---- the same as a test

abbrev pub is_same_algorithm : Algorithm → Algorithm → Bool
is_same_algorithm Rsa Rsa = true
is_same_algorithm Ecdsa Ecdsa = true
is_same_algorithm left right = false

abbrev pub is_kind_of : Algorithm → ℕ → Option KeyKind → Bool
is_kind_of algorithm size None = false
is_kind_of algorithm size (Some kind) = is_same_algorithm (algorithm_of kind) algorithm && (size_of kind == size)

abbrev pub is_public_of : Algorithm → ℕ → Option PublicKey → Bool
is_public_of algorithm size None = false
is_public_of algorithm size (Some key) = is_kind_of algorithm size (key_kind_of key)

unfoldable pub is_key_of : Algorithm → ℕ → List ℕ → Bool
is_key_of algorithm size octets = is_public_of algorithm size (key_file_at octets)
