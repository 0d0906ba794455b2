-- The SubjectPublicKeyInfo that is built of a key is that of the key.
use Rattle.std.proofs.Common.{◌≡◌, ◌≢◌, ℕ, ◌%◌, true, List, [], ◌∷◌, ◌++◌, Some, refl, ap, arith, nat_lt}
use Rattle.std.proofs.lemmas.Bool.Decides.{nat_tests}
use Rattle.cmc_der.specs.declared.fields.KeyKind.{KeyKind}
use Rattle.cmc_der.specs.declared.fields.KeyKind.TheVariants.{Rsa, P256, P384, P521}
use Rattle.cmc_der.specs.Builders.{value}
use Rattle.cmc_der.specs.Integers.{integer_of, signed, trimmed}
use Rattle.cmc_der.specs.Keys.{PublicKey, RsaKey, EcKey, OtherKey}
use Rattle.cmc_x509.specs.PublicKeys.{BeginsWithAlgorithm, IsMagnitude, IsRsaPublicKey, IsCurve, ArePublicKeyBits, IsSpki, BeginsWithSpki}
use Rattle.cmc_x509_build.specs.declared.oids.TheConstants.{RSA_ENCRYPTION, EC_PUBLIC_KEY}
use Rattle.cmc_x509_build.specs.Octets.{key_info, rsa_octets, curve_oid, spki_octets}
use Rattle.cmc_x509_build.specs.Keys.{IsNamedCurve, IsWritable}
use Rattle.cmc_der.proofs.SmallValues.{IsSmall, contents_small, front_small, back_small, value_is, value_first, value_last}

-- octets with no zero in front are not trimmed
trimmed-magnitude : (m : List ℕ) → IsMagnitude m → trimmed m ≡ m
trimmed-magnitude [] h = absurd h
trimmed-magnitude (b ∷ bs) h = let test : nat_lt 0 b ≡ true = grind (arith, nat_tests) in rw test

integer_of-magnitude : (m : List ℕ) → IsMagnitude m → integer_of m ≡ signed m
integer_of-magnitude m h = ap signed (trimmed-magnitude m h)

rsa_is : (m e : List ℕ) → IsMagnitude m → IsMagnitude e → IsSmall (rsa_octets m e) → IsRsaPublicKey (rsa_octets m e) m e
rsa_is m e p q small =
    let numbers = value 2 (integer_of m) ++ value 2 (integer_of e) in
    let inside = contents_small 48 numbers small in
    record {
      body = numbers;
      inner = value 2 (integer_of e);
      whole = value_is 48 numbers (λ e. omega arith) small;
      modulus_is = (rw (← integer_of-magnitude m p) (value_first 2 (integer_of m) (value 2 (integer_of e)) (λ e. omega arith) inside), p);
      exponent_is = (rw (← integer_of-magnitude e q) (value_last 2 (integer_of e) (λ e. omega arith) (back_small (value 2 (integer_of m)) (value 2 (integer_of e)) inside)), q);
    }

-- an AlgorithmIdentifier with one value as its parameter
algorithm_is : (oid : List ℕ) (tag : ℕ) (parameter rest : List ℕ) → tag % 32 ≢ 31 → IsSmall (value 48 (value 6 oid ++ value tag parameter) ++ rest) → BeginsWithAlgorithm (value 48 (value 6 oid ++ value tag parameter) ++ rest) (record { oid = oid; parameter = Some (tag, parameter) }) rest
algorithm_is oid tag parameter rest low small =
    let inside = contents_small 48 (value 6 oid ++ value tag parameter) (front_small (value 48 (value 6 oid ++ value tag parameter)) rest small) in
    record {
      body = value 6 oid ++ value tag parameter;
      inner = value tag parameter;
      whole = value_first 48 (value 6 oid ++ value tag parameter) rest (λ e. omega arith) small;
      algorithm = value_first 6 oid (value tag parameter) (λ e. omega arith) inside;
      parameters = value_is tag parameter low (back_small (value 6 oid) (value tag parameter) inside);
    }

-- a SubjectPublicKeyInfo, of the key that its bits are
key_info_is : (oid : List ℕ) (tag : ℕ) (parameter bits : List ℕ) (key : PublicKey) → tag % 32 ≢ 31 → IsSmall (key_info oid (value tag parameter) bits) → ArePublicKeyBits (record { oid = oid; parameter = Some (tag, parameter) }) (key_info oid (value tag parameter) bits) bits key → IsSpki (key_info oid (value tag parameter) bits) key
key_info_is oid tag parameter bits key low small h =
    let identifier = value 48 (value 6 oid ++ value tag parameter) in
    let string = value 3 (0 ∷ bits) in
    let inside = contents_small 48 (identifier ++ string) small in
    record {
      body = identifier ++ string;
      algorithm = record { oid = oid; parameter = Some (tag, parameter) };
      after = string;
      bits = bits;
      whole = value_is 48 (identifier ++ string) (λ e. omega arith) small;
      algorithm_is = algorithm_is oid tag parameter string low inside;
      bits_are = value_is 3 (0 ∷ bits) (λ e. omega arith) (back_small identifier string inside);
      key_is = h;
    }

curve_is : (curve : KeyKind) → IsNamedCurve curve → IsCurve (Some (6, curve_oid curve)) curve
curve_is P256 h = (curve_oid P256, refl, refl)
curve_is P384 h = (curve_oid P384, refl, refl)
curve_is P521 h = (curve_oid P521, refl, refl)
curve_is (Rsa bits) h = absurd h

-- the bits of an RSA key stand within what is built of it
key_bits_small : (algorithm parameter bits : List ℕ) → IsSmall (key_info algorithm parameter bits) → IsSmall bits
key_bits_small algorithm parameter bits small =
    let identifier = value 48 (value 6 algorithm ++ parameter) in
    let inside = contents_small 48 (identifier ++ value 3 (0 ∷ bits)) small in
    omega (arith, contents_small 3 (0 ∷ bits) (back_small identifier (value 3 (0 ∷ bits)) inside))

pub spki_is : (key : PublicKey) → IsWritable key → IsSmall (spki_octets key) → IsSpki (spki_octets key) key
unfolding spki_octets
spki_is (RsaKey m e) h small =
    let bits_small = key_bits_small RSA_ENCRYPTION (value 5 []) (rsa_octets m e) small in
    key_info_is RSA_ENCRYPTION 5 [] (rsa_octets m e) (RsaKey m e) (λ e. omega arith) small (refl, refl, rsa_is m e h.0 h.1 bits_small)
spki_is (EcKey curve point) h small =
    key_info_is EC_PUBLIC_KEY 6 (curve_oid curve) point (EcKey curve point) (λ e. omega arith) small (refl, curve_is curve h.0, h.1, refl)
spki_is (OtherKey whole) h small = absurd h

-- also where others stand behind it
pub spki_first : (key : PublicKey) (rest : List ℕ) → IsWritable key → IsSmall (spki_octets key ++ rest) → BeginsWithSpki (spki_octets key ++ rest) key rest
spki_first key rest h small = (spki_octets key, spki_is key h (front_small (spki_octets key) rest small), refl)
