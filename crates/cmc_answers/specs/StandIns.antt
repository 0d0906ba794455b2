-- The public key of a stand-in key. It is no key of use.
use Rattle.std.specs.Prelude.{ℕ, List, ◌∷◌, ◌++◌, replicate}
use Rattle.std.specs.Int.{w64, to_be_bytes}
use Rattle.cmc_der.specs.Keys.{PublicKey, EcKey}
use Rattle.cmc_der.specs.declared.fields.KeyKind.TheVariants.{P256}

-- the number in the 32 octets of a coordinate of P-256, the highest first
abbrev pub coordinate : ℕ → List ℕ
coordinate number = replicate 24 0 ++ to_be_bytes w64 number

-- the point whose coordinates both are the number, without compression (RFC 5480, 2.2)
unfoldable pub stand_in_point : ℕ → List ℕ
stand_in_point number = 4 ∷ (coordinate number ++ coordinate number)

-- the public key of the stand-in key of P-256 with this number
abbrev pub stand_in_key : ℕ → PublicKey
stand_in_key number = EcKey P256 (stand_in_point number)
