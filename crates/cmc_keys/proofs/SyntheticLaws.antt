-- Each stand-in key is a key of the algorithm and the size that it is made for.
use Rattle.std.proofs.Common.{◌≡◌, ℕ, ◌+◌, ◌-◌, ◌*◌, ◌≤◌, ◌<◌, true, [], ◌∷◌, ◌++◌, length, replicate, min, Option, Some, refl, sym, ap, subst, eqb, ◌^◌, arith, length-append, inl, inr}
use Rattle.std.proofs.lemmas.List.{length-replicate}
use Rattle.std.proofs.lemmas.Bool.{cases_Bool, eqb-true}
use Rattle.std.specs.Int.{w64, to_be_bytes}
use Rattle.cmc_der.specs.declared.fields.KeyKind.{KeyKind}
use Rattle.cmc_der.specs.declared.fields.KeyKind.TheVariants as kinds
use Rattle.cmc_der.specs.Keys.{RsaKey, EcKey, key_kind_of}
use Rattle.cmc_x509.specs.PublicKeys.{width, NamesCurve, IsPoint}
use Rattle.cmc_x509.specs.KeyFiles.{IsKeyFile}
use Rattle.cmc_objects.specs.declared.key_spec.Algorithm.{Algorithm}
use Rattle.cmc_objects.specs.declared.key_spec.Algorithm.TheVariants.{Rsa, Ecdsa}
use Rattle.cmc_objects.specs.declared.key_spec.Encoding.{Encoding}
use Rattle.cmc_objects.specs.declared.key_spec.Encoding.TheVariants.{Pkcs1, Pkcs8}
use Rattle.cmc_keys.specs.Kinds.{allows_size, algorithm_of, size_of, IsKeyOf}
use Rattle.cmc_keys.specs.declared.oids.TheConstants.{RSA_ENCRYPTION, EC_PUBLIC_KEY}
use Rattle.cmc_keys.specs.Files.{rsa_private_key, ec_private_key, bare_ec_private_key, private_key_info}
use Rattle.cmc_keys.specs.Synthetic.{number_octets, width_of, modulus_of, private_octets_of, point_of, curve_oid_of_size, synthetic_key}
use Rattle.cmc_der.proofs.SmallValues.{IsSmall}
use Rattle.cmc_keys.proofs.FileLaws.{rsa_size, ec_size, bare_ec_size, info_size, rsa_file, ec_file, bare_ec_file, info_file}

abbrev some : {A : Type 0} → A → Option A
some x = Some x

pub number_size : (width number : ℕ) → 8 ≤ width → length (number_octets width number) ≡ width
unfolding number_octets
number_size width number least = omega (arith, length-append (replicate (width - 8) 0) (to_be_bytes w64 number), length-replicate {A = ℕ} (width - 8) 0)

-- ---- RSA

-- both encodings of an RSA key
rsa_file_is : (size number : ℕ) (encoding : Encoding) → size < 10000 → 72 ≤ size → IsKeyFile (synthetic_key Rsa size encoding number) (RsaKey (modulus_of size number) (1 ∷ 0 ∷ 1 ∷ []))
rsa_file_is size number Pkcs1 most least =
    let modulus = modulus_of size number in
    let wide = number_size (width_of size - 1) number (omega arith) in
    let small : IsSmall (rsa_private_key modulus) = omega (arith, rsa_size modulus, wide) in
    (small, inl (rsa_file (number_octets (width_of size - 1) number) small))
rsa_file_is size number Pkcs8 most least =
    let modulus = modulus_of size number in
    let wide = number_size (width_of size - 1) number (omega arith) in
    let held = rsa_private_key modulus in
    let small : IsSmall held = omega (arith, rsa_size modulus, wide) in
    let whole : IsSmall (private_key_info RSA_ENCRYPTION 5 [] held) = omega (arith, info_size RSA_ENCRYPTION 5 [] held, rsa_size modulus, wide) in
    (whole, inr (info_file RSA_ENCRYPTION 5 [] held (RsaKey modulus (1 ∷ 0 ∷ 1 ∷ [])) (λ e. omega arith) (refl, refl, rsa_file (number_octets (width_of size - 1) number) small) whole))

rsa_key_is : (size number : ℕ) (encoding : Encoding) → size ≡ 8 * width_of size → size < 10000 → 72 ≤ size → IsKeyOf Rsa size (synthetic_key Rsa size encoding number)
rsa_key_is size number encoding whole most least =
    let behind = number_octets (width_of size - 1) number in
    let wide = number_size (width_of size - 1) number (omega arith) in
    let bits : min (8 * length behind + 8) (2 ^ 32 - 1) ≡ size = omega (arith, wide) in
    record {
      key = RsaKey (modulus_of size number) (1 ∷ 0 ∷ 1 ∷ []);
      kind = kinds.Rsa size;
      file = rsa_file_is size number encoding most least;
      kind_is = ap (λ (n : ℕ). some (kinds.Rsa n)) bits;
      algorithm_is = refl;
      size_is = refl;
    }

-- ---- ECDSA

-- what a curve of a width is
record IsCurveOf (curve : KeyKind) (size : ℕ) : Type 0 where
  pub kind_is : key_kind_of (EcKey curve []) ≡ Some curve
  pub algorithm_is : algorithm_of curve ≡ Ecdsa
  pub size_is : size_of curve ≡ size
  pub width_is : width curve ≡ width_of size
  pub named : NamesCurve (curve_oid_of_size size) curve
  pub short : length (curve_oid_of_size size) ≤ 8
  pub least : 57 ≤ size
  pub most : size < 10000

ec_point_is : (curve : KeyKind) (size number : ℕ) → IsCurveOf curve size → IsPoint curve (point_of size number)
ec_point_is curve size number is =
    let wide = number_size (width_of size) number (omega (arith, is.least)) in
    let secret = private_octets_of size number in
    (secret ++ secret, refl, rw is.width_is (omega (arith, wide, length-append secret secret)))

ec_file_is : (curve : KeyKind) (size number : ℕ) (encoding : Encoding) → IsCurveOf curve size → IsKeyFile (synthetic_key Ecdsa size encoding number) (EcKey curve (point_of size number))
ec_file_is curve size number Pkcs1 is =
    let secret = private_octets_of size number in
    let point = point_of size number in
    let wide = number_size (width_of size) number (omega (arith, is.least)) in
    let small : IsSmall (ec_private_key (curve_oid_of_size size) secret point) = omega (arith, is.short, is.most, ec_size (curve_oid_of_size size) secret point, wide, length-append secret secret) in
    (small, inl (ec_file curve (curve_oid_of_size size) secret point is.named (ec_point_is curve size number is) small))
ec_file_is curve size number Pkcs8 is =
    let secret = private_octets_of size number in
    let point = point_of size number in
    let wide = number_size (width_of size) number (omega (arith, is.least)) in
    let held = bare_ec_private_key secret point in
    let small : IsSmall held = omega (arith, is.most, bare_ec_size secret point, wide, length-append secret secret) in
    let whole : IsSmall (private_key_info EC_PUBLIC_KEY 6 (curve_oid_of_size size) held) = omega (arith, is.short, is.most, info_size EC_PUBLIC_KEY 6 (curve_oid_of_size size) held, bare_ec_size secret point, wide, length-append secret secret) in
    let stands = bare_ec_file curve secret point (ec_point_is curve size number is) small in
    (whole, inr (info_file EC_PUBLIC_KEY 6 (curve_oid_of_size size) held (EcKey curve point) (λ e. omega arith) (refl, (Some curve, (curve_oid_of_size size, refl, is.named), stands)) whole))

ec_key_is : (curve : KeyKind) (size number : ℕ) (encoding : Encoding) → IsCurveOf curve size → IsKeyOf Ecdsa size (synthetic_key Ecdsa size encoding number)
ec_key_is curve size number encoding is = record {
  key = EcKey curve (point_of size number);
  kind = curve;
  file = ec_file_is curve size number encoding is;
  kind_is = is.kind_is;
  algorithm_is = is.algorithm_is;
  size_is = is.size_is;
}

p256 : IsCurveOf kinds.P256 256
p256 = record { kind_is = refl; algorithm_is = refl; size_is = refl; width_is = refl; named = refl; short = omega arith; least = omega arith; most = omega arith }

p384 : IsCurveOf kinds.P384 384
p384 = record { kind_is = refl; algorithm_is = refl; size_is = refl; width_is = refl; named = refl; short = omega arith; least = omega arith; most = omega arith }

p521 : IsCurveOf kinds.P521 521
p521 = record { kind_is = refl; algorithm_is = refl; size_is = refl; width_is = refl; named = refl; short = omega arith; least = omega arith; most = omega arith }

-- ---- every size that is allowed

record IsRsaSize (size : ℕ) : Type 0 where
  pub whole : size ≡ 8 * width_of size
  pub most : size < 10000
  pub least : 72 ≤ size

rsa_sizes : (size : ℕ) → allows_size Rsa size ≡ true → IsRsaSize size
rsa_sizes size allowed =
    elim (cases_Bool (eqb size 2048)) [
      | inl a ↦ rw (eqb-true size 2048 a) (record { whole = refl; most = omega arith; least = omega arith })
      | inr a ↦ elim (cases_Bool (eqb size 3072)) [
        | inl b ↦ rw (eqb-true size 3072 b) (record { whole = refl; most = omega arith; least = omega arith })
        | inr b ↦ elim (cases_Bool (eqb size 4096)) [
          | inl c ↦ rw (eqb-true size 4096 c) (record { whole = refl; most = omega arith; least = omega arith })
          | inr c ↦ rw (eqb-true size 8192 (rw (a, b, c) at allowed)) (record { whole = refl; most = omega arith; least = omega arith })
        ]
      ]
    ]

pub synthetic_is : (algorithm : Algorithm) (size : ℕ) (encoding : Encoding) (number : ℕ) → allows_size algorithm size ≡ true → IsKeyOf algorithm size (synthetic_key algorithm size encoding number)
synthetic_is Rsa size encoding number allowed =
    let is = rsa_sizes size allowed in
    rsa_key_is size number encoding is.whole is.most is.least
synthetic_is Ecdsa size encoding number allowed =
    let P : ℕ → Type 0 = λ s. IsKeyOf Ecdsa s (synthetic_key Ecdsa s encoding number) in
    elim (cases_Bool (eqb size 256)) [
      | inl a ↦ subst P (sym (eqb-true size 256 a)) (ec_key_is kinds.P256 256 number encoding p256)
      | inr a ↦ elim (cases_Bool (eqb size 384)) [
        | inl b ↦ subst P (sym (eqb-true size 384 b)) (ec_key_is kinds.P384 384 number encoding p384)
        | inr b ↦ subst P (sym (eqb-true size 521 (rw (a, b) at allowed))) (ec_key_is kinds.P521 521 number encoding p521)
      ]
    ]

-- no file is longer than this
pub files_short : (size number : ℕ) → 72 ≤ size → size < 2 ^ 14 → length (rsa_private_key (modulus_of size number)) < 2 ^ 20
files_short size number least most =
    omega (arith, rsa_size (modulus_of size number), number_size (width_of size - 1) number (omega arith))
