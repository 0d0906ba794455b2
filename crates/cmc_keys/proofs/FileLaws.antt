-- The files of private keys that are written are read as the keys that they were written of.
use Rattle.std.proofs.Common.{◌≡◌, ◌≢◌, ℕ, ◌+◌, ◌%◌, ◌≤◌, List, [], ◌∷◌, ◌++◌, length, Some, None, refl, sym, subst, arith, append_assoc, length-append}
use Rattle.cmc_der.specs.declared.fields.KeyKind.{KeyKind}
use Rattle.cmc_der.specs.Values.{BeginsWith}
use Rattle.cmc_der.specs.Builders.{value}
use Rattle.cmc_der.specs.Integers.{integer_of}
use Rattle.cmc_der.specs.Keys.{PublicKey}
use Rattle.cmc_der.proofs.Sizes.{value_size, integer_size}
use Rattle.cmc_x509.specs.Options.{BeginsOtherwise}
use Rattle.cmc_x509.specs.PublicKeys.{AlgorithmIdentifier, BeginsWithAlgorithm, NamesCurve, IsPoint}
use Rattle.cmc_x509.specs.KeyFiles.{IsIntegers, IsRsaPrivateKey, IsEcPrivateKey, IsPrivateKeyOf, IsPrivateKeyInfo}
use Rattle.cmc_keys.specs.Files.{one, public_key, rsa_private_key, ec_private_key, bare_ec_private_key, private_key_info}
use Rattle.cmc_der.proofs.SmallValues.{IsSmall, contents_small, front_small, back_small, value_is, value_first, value_last}

-- ---- how long the files are

one_size : length one ≤ 7
one_size = value_size 2 (1 ∷ [])

pub rsa_size : (modulus : List ℕ) → length (rsa_private_key modulus) ≤ length modulus + 100
unfolding rsa_private_key
rsa_size modulus = omega (arith, length-append {A = ℕ}, value_size, integer_size, one_size)

pub ec_size : (curve secret point : List ℕ) → length (ec_private_key curve secret point) ≤ length curve + length secret + length point + 100
unfolding ec_private_key
ec_size curve secret point = omega (arith, length-append {A = ℕ}, value_size, one_size)

pub bare_ec_size : (secret point : List ℕ) → length (bare_ec_private_key secret point) ≤ length secret + length point + 100
unfolding bare_ec_private_key
bare_ec_size secret point = omega (arith, length-append {A = ℕ}, value_size, one_size)

pub info_size : (algorithm : List ℕ) (tag : ℕ) (parameter key : List ℕ) → length (private_key_info algorithm tag parameter key) ≤ length algorithm + length parameter + length key + 100
unfolding private_key_info
info_size algorithm tag parameter key = omega (arith, length-append {A = ℕ}, value_size)

-- ---- RSAPrivateKey

one_begins : (rest : List ℕ) → BeginsWith (one ++ rest) 2 (1 ∷ []) rest
one_begins rest = (one, value_is 2 (1 ∷ []) (λ e. omega arith) (omega (arith, one_size)), refl)

-- six INTEGERs of 1
abbrev six_ones : List ℕ
six_ones = one ++ (one ++ (one ++ (one ++ (one ++ one))))

six_integers : IsIntegers 6 six_ones
six_integers =
    let last : BeginsWith one 2 (1 ∷ []) [] = value_last 2 (1 ∷ []) (λ e. omega arith) (omega (arith, one_size)) in
    (1 ∷ [], _, (one_begins _, refl), (1 ∷ [], _, (one_begins _, refl), (1 ∷ [], _, (one_begins _, refl), (1 ∷ [], _, (one_begins _, refl), (1 ∷ [], _, (one_begins _, refl), (1 ∷ [], [], (last, refl), refl))))))

-- of a modulus whose first octet is 128, as it is for each stand-in key
pub rsa_file : (after : List ℕ) → IsSmall (rsa_private_key (128 ∷ after)) → IsRsaPrivateKey (rsa_private_key (128 ∷ after)) (128 ∷ after) (1 ∷ 0 ∷ 1 ∷ [])
unfolding rsa_private_key
rsa_file after small =
    let modulus = 128 ∷ after in
    let behind_modulus = value 2 (1 ∷ 0 ∷ 1 ∷ []) ++ six_ones in
    let behind_version = value 2 (integer_of modulus) ++ behind_modulus in
    let contents = value 2 (0 ∷ []) ++ behind_version in
    let written = value 2 (0 ∷ []) ++ value 2 (integer_of modulus) ++ value 2 (1 ∷ 0 ∷ 1 ∷ []) ++ one ++ one ++ one ++ one ++ one ++ one in
    let same : written ≡ contents = simp append_assoc in
    let fits : IsSmall (value 48 contents) = subst (λ (octets : List ℕ). IsSmall (value 48 octets)) same small in
    let inside = contents_small 48 contents fits in
    let after_version = back_small (value 2 (0 ∷ [])) behind_version inside in
    let after_modulus = back_small (value 2 (integer_of modulus)) behind_modulus after_version in
    let is : IsRsaPrivateKey (value 48 contents) modulus (1 ∷ 0 ∷ 1 ∷ []) = record {
      body = contents;
      r0 = behind_version;
      r1 = behind_modulus;
      r2 = six_ones;
      whole = value_is 48 contents (λ e. omega arith) fits;
      version = value_first 2 (0 ∷ []) behind_version (λ e. omega arith) inside;
      modulus_is = (value_first 2 (integer_of modulus) behind_modulus (λ e. omega arith) after_version, omega arith);
      exponent_is = (value_first 2 (1 ∷ 0 ∷ 1 ∷ []) six_ones (λ e. omega arith) after_modulus, omega arith);
      others = six_integers;
    } in
    subst (λ (octets : List ℕ). IsRsaPrivateKey (value 48 octets) modulus (1 ∷ 0 ∷ 1 ∷ [])) (sym same) is

-- ---- ECPrivateKey

-- with its curve inside
pub ec_file : (curve : KeyKind) (oid secret point : List ℕ) → NamesCurve oid curve → IsPoint curve point → IsSmall (ec_private_key oid secret point) → IsEcPrivateKey None (ec_private_key oid secret point) curve point
unfolding ec_private_key
ec_file curve oid secret point names is_point small =
    let behind_secret = value 160 (value 6 oid) ++ public_key point in
    let behind_version = value 4 secret ++ behind_secret in
    let contents = one ++ behind_version in
    let written = one ++ value 4 secret ++ value 160 (value 6 oid) ++ public_key point in
    let same : written ≡ contents = simp append_assoc in
    let fits : IsSmall (value 48 contents) = subst (λ (octets : List ℕ). IsSmall (value 48 octets)) same small in
    let inside = contents_small 48 contents fits in
    let after_version = back_small one behind_version inside in
    let after_secret = back_small (value 4 secret) behind_secret after_version in
    let last = back_small (value 160 (value 6 oid)) (public_key point) after_secret in
    let curve_small = contents_small 160 (value 6 oid) (front_small (value 160 (value 6 oid)) (public_key point) after_secret) in
    let is : IsEcPrivateKey None (value 48 contents) curve point = record {
      body = contents;
      r0 = behind_version;
      r1 = behind_secret;
      r2 = public_key point;
      secret = secret;
      parameters = Some (value 6 oid);
      public_key = value 3 (0 ∷ point);
      whole = value_is 48 contents (λ e. omega arith) fits;
      version = value_first 2 (1 ∷ []) behind_version (λ e. omega arith) inside;
      secret_is = value_first 4 secret behind_secret (λ e. omega arith) after_version;
      parameters_are = value_first 160 (value 6 oid) (public_key point) (λ e. omega arith) after_secret;
      public_key_is = value_is 161 (value 3 (0 ∷ point)) (λ e. omega arith) last;
      bits_are = value_is 3 (0 ∷ point) (λ e. omega arith) (contents_small 161 (value 3 (0 ∷ point)) last);
      curve_is = (oid, value_is 6 oid (λ e. omega arith) curve_small, names);
      point_is = is_point;
    } in
    subst (λ (octets : List ℕ). IsEcPrivateKey None (value 48 octets) curve point) (sym same) is

-- the point does not stand where the curve would
begins_otherwise : (point : List ℕ) → BeginsOtherwise 160 (public_key point)
unfolding value
begins_otherwise point = λ e. absurd (omega arith)

-- and with the curve around it
pub bare_ec_file : (curve : KeyKind) (secret point : List ℕ) → IsPoint curve point → IsSmall (bare_ec_private_key secret point) → IsEcPrivateKey (Some curve) (bare_ec_private_key secret point) curve point
unfolding bare_ec_private_key
bare_ec_file curve secret point is_point small =
    let behind_version = value 4 secret ++ public_key point in
    let contents = one ++ behind_version in
    let written = one ++ value 4 secret ++ public_key point in
    let same : written ≡ contents = simp append_assoc in
    let fits : IsSmall (value 48 contents) = subst (λ (octets : List ℕ). IsSmall (value 48 octets)) same small in
    let inside = contents_small 48 contents fits in
    let after_version = back_small one behind_version inside in
    let last = back_small (value 4 secret) (public_key point) after_version in
    let is : IsEcPrivateKey (Some curve) (value 48 contents) curve point = record {
      body = contents;
      r0 = behind_version;
      r1 = public_key point;
      r2 = public_key point;
      secret = secret;
      parameters = None;
      public_key = value 3 (0 ∷ point);
      whole = value_is 48 contents (λ e. omega arith) fits;
      version = value_first 2 (1 ∷ []) behind_version (λ e. omega arith) inside;
      secret_is = value_first 4 secret (public_key point) (λ e. omega arith) after_version;
      parameters_are = (refl, begins_otherwise point);
      public_key_is = value_is 161 (value 3 (0 ∷ point)) (λ e. omega arith) last;
      bits_are = value_is 3 (0 ∷ point) (λ e. omega arith) (contents_small 161 (value 3 (0 ∷ point)) last);
      curve_is = refl;
      point_is = is_point;
    } in
    subst (λ (octets : List ℕ). IsEcPrivateKey (Some curve) (value 48 octets) curve point) (sym same) is

-- ---- PrivateKeyInfo

pub info_file : (oid : List ℕ) (tag : ℕ) (parameter held : List ℕ) (key : PublicKey) → tag % 32 ≢ 31 → IsPrivateKeyOf (record { oid = oid; parameter = Some (tag, parameter) }) held key → IsSmall (private_key_info oid tag parameter held) → IsPrivateKeyInfo (private_key_info oid tag parameter held) key
unfolding private_key_info
info_file oid tag parameter held key low holds small =
    let algorithm : AlgorithmIdentifier = record { oid = oid; parameter = Some (tag, parameter) } in
    let named = value 6 oid ++ value tag parameter in
    let behind_version = value 48 named ++ value 4 held in
    let contents = value 2 (0 ∷ []) ++ behind_version in
    let written = value 2 (0 ∷ []) ++ value 48 named ++ value 4 held in
    let same : written ≡ contents = append_assoc (value 2 (0 ∷ [])) (value 48 named) (value 4 held) in
    let fits : IsSmall (value 48 contents) = subst (λ (octets : List ℕ). IsSmall (value 48 octets)) same small in
    let inside = contents_small 48 contents fits in
    let after_version = back_small (value 2 (0 ∷ [])) behind_version inside in
    let last = back_small (value 48 named) (value 4 held) after_version in
    let named_small = contents_small 48 named (front_small (value 48 named) (value 4 held) after_version) in
    let algorithm_is : BeginsWithAlgorithm behind_version algorithm (value 4 held) = record {
      body = named;
      inner = value tag parameter;
      whole = value_first 48 named (value 4 held) (λ e. omega arith) after_version;
      algorithm = value_first 6 oid (value tag parameter) (λ e. omega arith) named_small;
      parameters = value_is tag parameter low (back_small (value 6 oid) (value tag parameter) named_small);
    } in
    let is : IsPrivateKeyInfo (value 48 contents) key = record {
      body = contents;
      r0 = behind_version;
      r1 = value 4 held;
      r2 = [];
      algorithm = algorithm;
      private_key = held;
      attributes = None;
      whole = value_is 48 contents (λ e. omega arith) fits;
      version = value_first 2 (0 ∷ []) behind_version (λ e. omega arith) inside;
      algorithm_is = algorithm_is;
      private_key_is = value_last 4 held (λ e. omega arith) last;
      attributes_stand = (refl, tt);
      attributes_are = tt;
      key_is = holds;
    } in
    subst (λ (octets : List ℕ). IsPrivateKeyInfo (value 48 octets) key) (sym same) is
