-- Public keys that a SubjectPublicKeyInfo is built of.
use Rattle.cmc_der.specs.Keys.{PublicKey, RsaKey, EcKey, OtherKey}
use Rattle.cmc_der.specs.declared.fields.KeyKind.{KeyKind}
use Rattle.cmc_der.specs.declared.fields.KeyKind.TheVariants.{Rsa, P256, P384, P521}
use Rattle.cmc_x509.specs.PublicKeys.{IsMagnitude, IsPoint}

-- an elliptic curve
abbrev pub IsNamedCurve : KeyKind → Type 0
IsNamedCurve P256 = Unit {0}
IsNamedCurve P384 = Unit {0}
IsNamedCurve P521 = Unit {0}
IsNamedCurve (Rsa bits) = ⊥

-- an RSA key of two positive numbers with no zero in front, or a point of a curve without compression
abbrev pub IsWritable : PublicKey → Type 0
IsWritable (RsaKey modulus exponent) = IsMagnitude modulus × IsMagnitude exponent
IsWritable (EcKey curve point) = IsNamedCurve curve × IsPoint curve point
IsWritable (OtherKey whole) = ⊥
