-- A certification request for a usual Certificate, with an ECDSA key, is short.
use Rattle.std.proofs.Common.{◌≡◌, ◌≤◌, ◌+◌, ◌++◌, ℕ, List, [], ◌∷◌, length, true, Option, Some, sym, ap, ◌∙◌, arith}
use Rattle.std.proofs.lemmas.List.{length-append}
use Rattle.std.specs.Prelude.{flat_map}
use Rattle.cmc_der.specs.Builders.{value}
use Rattle.cmc_der.specs.Keys.{EcKey, OtherKey, PublicKey, RsaKey}
use Rattle.cmc_der.specs.declared.fields.KeyKind.{KeyKind}
use Rattle.cmc_der.specs.declared.fields.KeyKind.TheVariants as kinds
use Rattle.cmc_der.proofs.Sizes.{value_size}
use Rattle.cmc_x509.specs.PublicKeys.{IsPoint, width}
use Rattle.cmc_x509.specs.ReadKeys.{key_file_at}
use Rattle.cmc_x509.proofs.FileLaws.{key_file_found}
use Rattle.cmc_x509_build.specs.declared.oids.TheConstants.{COMMON_NAME, ECDSA_WITH_SHA256, EC_PUBLIC_KEY, EXTENSION_REQUEST, SUBJECT_ALT_NAME}
use Rattle.cmc_x509_build.specs.Keys.{IsWritable}
use Rattle.cmc_x509_build.specs.Octets.{alternative_extension, curve_oid, key_info, name_octets, signature_algorithm, signed_octets, spki_octets, address_octets}
use Rattle.cmc_x509_build.specs.Requests.{alternative_of, attributes_of, common_if_any, request_body}
use Rattle.cmc_x509_build.proofs.ServeLaws.{key_file_serves}
use Rattle.cmc_objects.specs.declared.certificate.CertSpec.{CertSpec}
use Rattle.cmc_objects.specs.declared.key_spec.Algorithm.{Algorithm}
use Rattle.cmc_objects.specs.declared.key_spec.Algorithm.TheVariants.{Ecdsa}
use Rattle.cmc_objects.specs.Defaults.{key_algorithm, key_size}
use Rattle.cmc_keys.specs.Kinds.{is_key_of, is_public_of}
use Rattle.cmc_match.specs.Facts.{fits}
use Rattle.cmc_rules.specs.RequestManager.{body_of, name_set}
use Rattle.cmc_load_laws.specs.Loads.{octets_of_names, octets_of_texts}

-- ---- names

tagged_short : (tag : ℕ) (texts : List (List ℕ)) → length (flat_map (value tag) texts) ≤ octets_of_texts texts
tagged_short tag [] = omega arith
tagged_short tag (text ∷ texts) = omega (arith, length-append (value tag text) (flat_map (value tag) texts), value_size tag text, tagged_short tag texts)

pub alternative_short : (spec : CertSpec) → spec.ip_addresses ≡ [] → length (alternative_of (name_set spec)) ≤ octets_of_texts spec.dns_names + (octets_of_texts spec.uris + octets_of_texts spec.emails)
unfolding alternative_of
alternative_short spec none =
    let dns : List ℕ = flat_map (value 130) spec.dns_names in
    let ips : List ℕ = flat_map address_octets spec.ip_addresses in
    let uris : List ℕ = flat_map (value 134) spec.uris in
    let emails : List ℕ = flat_map (value 129) spec.emails in
    omega (
      arith,
      length-append dns (ips ++ (uris ++ emails)),
      length-append ips (uris ++ emails),
      length-append uris emails,
      ap (λ (l : List (List ℕ)). length (flat_map address_octets l)) none,
      tagged_short 130 spec.dns_names,
      tagged_short 134 spec.uris,
      tagged_short 129 spec.emails,
    )

pub text_short : (text : List ℕ) → length (name_octets (Some text)) ≤ length text + 40
unfolding name_octets
text_short text = omega (
  arith,
  value_size 48 (value 49 (value 48 (value 6 COMMON_NAME ++ value 12 text))),
  value_size 49 (value 48 (value 6 COMMON_NAME ++ value 12 text)),
  value_size 48 (value 6 COMMON_NAME ++ value 12 text),
  length-append (value 6 COMMON_NAME) (value 12 text),
  value_size 6 COMMON_NAME,
  value_size 12 text,
)

pub common_short : (text : List ℕ) → length (name_octets (common_if_any text)) ≤ length text + 40
unfolding name_octets
common_short [] = omega (arith, value_size 48 [])
common_short (b ∷ bs) = text_short (b ∷ bs)

pub extension_short : (names : List ℕ) → length (alternative_extension names) ≤ length names + 40
extension_short names = omega (arith, value_size 48 (value 6 SUBJECT_ALT_NAME ++ value 4 (value 48 names)), length-append (value 6 SUBJECT_ALT_NAME) (value 4 (value 48 names)), value_size 6 SUBJECT_ALT_NAME, value_size 4 (value 48 names), value_size 48 names)

attributes_short : (names : List ℕ) → length (attributes_of names) ≤ length names + 100
attributes_short [] = omega arith
attributes_short (b ∷ bs) =
    let inner : List ℕ = value 48 (alternative_extension (b ∷ bs)) in
    omega (arith, value_size 48 (value 6 EXTENSION_REQUEST ++ value 49 inner), length-append (value 6 EXTENSION_REQUEST) (value 49 inner), value_size 6 EXTENSION_REQUEST, value_size 49 inner, value_size 48 (alternative_extension (b ∷ bs)), extension_short (b ∷ bs))

-- ---- an ECDSA key

curve_short : (curve : KeyKind) → length (curve_oid curve) ≤ 20
curve_short kinds.P256 = omega arith
curve_short kinds.P384 = omega arith
curve_short kinds.P521 = omega arith
curve_short (kinds.Rsa bits) = omega arith

width_short : (curve : KeyKind) → width curve ≤ 66
width_short kinds.P256 = omega arith
width_short kinds.P384 = omega arith
width_short kinds.P521 = omega arith
width_short (kinds.Rsa bits) = omega arith

info_short : (parameter point : List ℕ) → length (key_info EC_PUBLIC_KEY parameter point) ≤ length parameter + (length point + 60)
info_short parameter point =
    let algorithm : List ℕ = value 48 (value 6 EC_PUBLIC_KEY ++ parameter) in
    omega (
      arith,
      value_size 48 (algorithm ++ value 3 (0 ∷ point)),
      length-append algorithm (value 3 (0 ∷ point)),
      value_size 48 (value 6 EC_PUBLIC_KEY ++ parameter),
      length-append (value 6 EC_PUBLIC_KEY) parameter,
      value_size 6 EC_PUBLIC_KEY,
      value_size 3 (0 ∷ point),
    )

point_short : (curve : KeyKind) (point : List ℕ) → IsPoint curve point → length point ≤ 133
point_short curve point is = omega (arith, ap length is.1, is.2, width_short curve)

key_short : (curve : KeyKind) (point : List ℕ) → IsPoint curve point → length (spki_octets (EcKey curve point)) ≤ 230
unfolding spki_octets
key_short curve point is = omega (arith, info_short (value 6 (curve_oid curve)) point, value_size 6 (curve_oid curve), curve_short curve, point_short curve point is)

pub public_short : (size : ℕ) (key : PublicKey) → is_public_of Ecdsa size (Some key) ≡ true → IsWritable key → length (spki_octets key) ≤ 230
public_short size (RsaKey modulus exponent) is serves = absurd (cc is)
public_short size (EcKey curve point) is serves = key_short curve point serves.1
public_short size (OtherKey whole) is serves = absurd (cc is)

-- ---- the request

body_short : (spec : CertSpec) (key : PublicKey) → spec.ip_addresses ≡ [] → octets_of_names spec ≤ 1000000 → length (spki_octets key) ≤ 230 → length (body_of spec key) ≤ 1001000
unfolding body_of request_body
body_short spec key none few short =
    let alternative : List ℕ = alternative_of (name_set spec) in
    let subject : List ℕ = name_octets (common_if_any spec.common_name) in
    let attributes : List ℕ = value 160 (attributes_of alternative) in
    omega (
      arith,
      value_size 48 (value 2 (0 ∷ []) ++ (subject ++ (spki_octets key ++ attributes))),
      length-append (value 2 (0 ∷ [])) (subject ++ (spki_octets key ++ attributes)),
      value_size 2 (0 ∷ []),
      length-append subject (spki_octets key ++ attributes),
      length-append (spki_octets key) attributes,
      value_size 160 (attributes_of alternative),
      attributes_short alternative,
      alternative_short spec none,
      common_short spec.common_name,
      few,
      short,
    )

pub signed_short : (body signature : List ℕ) → length body ≤ 1001000 → length signature ≡ 32 → length (signed_octets body signature) ≤ 16777216
unfolding signed_octets
signed_short body signature short is =
    omega (
      arith,
      value_size 48 (body ++ (signature_algorithm ++ value 3 (0 ∷ signature))),
      length-append body (signature_algorithm ++ value 3 (0 ∷ signature)),
      length-append signature_algorithm (value 3 (0 ∷ signature)),
      value_size 48 (value 6 ECDSA_WITH_SHA256),
      value_size 6 ECDSA_WITH_SHA256,
      value_size 3 (0 ∷ signature),
      short,
      is,
    )

pub public_of_file : (spec : CertSpec) (file : List ℕ) (key : PublicKey) → key_algorithm spec.key ≡ Ecdsa → key_file_at file ≡ Some key → fits spec.key file ≡ true → is_public_of Ecdsa (key_size spec.key) (Some key) ≡ true
unfolding is_key_of
public_of_file spec file key curve reads fit =
    ap (λ (o : Option PublicKey). is_public_of Ecdsa (key_size spec.key) o) (sym reads) ∙ ap (λ (a : Algorithm). is_key_of a (key_size spec.key) file) (sym curve) ∙ fit

pub request_short : (spec : CertSpec) (file : List ℕ) (key : PublicKey) (signature : List ℕ) → key_algorithm spec.key ≡ Ecdsa → spec.ip_addresses ≡ [] → octets_of_names spec ≤ 1000000 → key_file_at file ≡ Some key → fits spec.key file ≡ true
    → length signature ≡ 32 → length (signed_octets (body_of spec key) signature) ≤ 16777216
request_short spec file key signature curve none few reads fit is =
    signed_short (body_of spec key) signature
    (body_short spec key none few (public_short (key_size spec.key) key (public_of_file spec file key curve reads fit) (key_file_serves file key (key_file_found file key reads)))) is
