-- Files of private keys as they are written: RSAPrivateKey (RFC 8017, A.1.2), ECPrivateKey (RFC 5915, 3) and
-- PrivateKeyInfo (RFC 5208, 5).
use Rattle.std.specs.Prelude.{ℕ, List, [], ◌∷◌, ◌++◌}
use Rattle.cmc_der.specs.Builders.{value}
use Rattle.cmc_der.specs.Integers.{integer_of}

-- the INTEGER 1
abbrev pub one : List ℕ
one = value 2 (1 ∷ [])

-- RSAPrivateKey of version 0: the modulus, the public exponent 65537, and 1 for each of the six other numbers
unfoldable pub rsa_private_key : List ℕ → List ℕ
rsa_private_key modulus =
    value 48 (value 2 (0 ∷ []) ++ value 2 (integer_of modulus) ++ value 2 (1 ∷ 0 ∷ 1 ∷ [])
    ++ one ++ one ++ one ++ one ++ one ++ one)

-- [1] of an ECPrivateKey: the point, as a BIT STRING
abbrev pub public_key : List ℕ → List ℕ
public_key point = value 161 (value 3 (0 ∷ point))

-- ECPrivateKey of version 1, with the curve by its OID in [0]
unfoldable pub ec_private_key : List ℕ → List ℕ → List ℕ → List ℕ
ec_private_key curve secret point =
    value 48 (one ++ value 4 secret ++ value 160 (value 6 curve) ++ public_key point)

-- and without the curve, where it is stated around the key
unfoldable pub bare_ec_private_key : List ℕ → List ℕ → List ℕ
bare_ec_private_key secret point = value 48 (one ++ value 4 secret ++ public_key point)

-- PrivateKeyInfo of version 0: the algorithm by its OID, its parameter of this tag and contents, and the key
unfoldable pub private_key_info : List ℕ → ℕ → List ℕ → List ℕ → List ℕ
private_key_info algorithm tag parameter key =
    value 48 (value 2 (0 ∷ []) ++ value 48 (value 6 algorithm ++ value tag parameter) ++ value 4 key)
