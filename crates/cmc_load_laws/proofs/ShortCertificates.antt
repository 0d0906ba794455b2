-- The certificate for a short certification request is short.
use Rattle.std.proofs.Common.{◌≡◌, ◌≤◌, ◌+◌, ◌++◌, ℕ, ℤ, List, [], ◌∷◌, length, Bool, true, false, cond, Some, refl, arith}
use Rattle.std.proofs.lemmas.List.{length-append}
use Rattle.std.specs.Int.{w64, to_be_bytes}
use Rattle.std.specs.Prelude.{nat_lt}
use Rattle.sha2.specs.Sha256.{sha256}
use Rattle.cmc_der.specs.Builders.{value}
use Rattle.cmc_der.specs.Keys.{PublicKey, SubjectNames}
use Rattle.cmc_der.proofs.Sizes.{integer_size, value_size}
use Rattle.cmc_time.specs.declared.moment.Moment.{Moment}
use Rattle.cmc_time.specs.Asn1.{asn1_tag, asn1_text, generalized_time_text, utc_time_text}
use Rattle.cmc_time.specs.Moment.{moment_of}
use Rattle.cmc_x509_build.specs.declared.certificates.CertPlan.{CertPlan}
use Rattle.cmc_x509_build.specs.declared.oids.TheConstants.{ECDSA_WITH_SHA256}
use Rattle.cmc_x509_build.specs.Certificates.{certificate_body, fields_of_plan, first_octets, head_octets, names_extensions, serial_octets, subject_octets, time_octets, validity_octets}
use Rattle.cmc_x509_build.specs.Octets.{alternative_extension, name_octets, signature_algorithm, spki_octets}
use Rattle.cmc_x509_build.specs.Requests.{alternative_of, common_if_any, names_of}
use Rattle.cmc_objects.specs.declared.certificate.CertSpec.{CertSpec}
use Rattle.cmc_answers.specs.Signings.{certificate_of_plan}
use Rattle.cmc_keys.proofs.SignatureLaws.{signature_size}
use Rattle.cmc_rules.specs.RequestManager.{name_set}
use Rattle.cmc_load_laws.specs.Loads.{octets_of_names}
use Rattle.cmc_load_laws.proofs.ShortRequests.{alternative_short, common_short, extension_short, signed_short, text_short}

-- ---- what is the same in each certificate

text_by : (early : Bool) (m : Moment) → length (cond early (utc_time_text m) (generalized_time_text m)) ≡ cond early 13 15
text_by true m = refl
text_by false m = refl

text_size : (at : ℤ) → length (asn1_text at) ≡ cond (nat_lt (moment_of at).year 2050) 13 15
unfolding asn1_text
text_size at = text_by (nat_lt (moment_of at).year 2050) (moment_of at)

text_most : (early : Bool) → cond {A = ℕ} early 13 15 ≤ 15
text_most true = omega arith
text_most false = omega arith

time_short : (at : ℤ) → length (time_octets at) ≤ 21
time_short at = omega (arith, value_size (asn1_tag at) (asn1_text at), text_size at, text_most (nat_lt (moment_of at).year 2050))

validity_short : (from to : ℤ) → length (validity_octets from to) ≤ 48
validity_short from to = omega (arith, value_size 48 (time_octets from ++ time_octets to), length-append (time_octets from) (time_octets to), time_short from, time_short to)

serial_short : (serial : ℕ) → length (serial_octets serial) ≤ 9
serial_short serial = omega (arith, integer_size (to_be_bytes w64 serial))

first_short : (serial : List ℕ) → length serial ≤ 9 → length (first_octets serial) ≤ 60
first_short serial short =
    omega (
      arith,
      short,
      length-append (value 160 (value 2 (2 ∷ []))) (value 2 serial ++ signature_algorithm),
      value_size 160 (value 2 (2 ∷ [])),
      value_size 2 (2 ∷ []),
      length-append (value 2 serial) signature_algorithm,
      value_size 2 serial,
      value_size 48 (value 6 ECDSA_WITH_SHA256),
      value_size 6 ECDSA_WITH_SHA256,
    )

head_short : (serial issuer : List ℕ) (from to : ℤ) → length serial ≤ 9 → length (head_octets serial issuer from to) ≤ length issuer + 150
head_short serial issuer from to short =
    omega (
      arith,
      length-append (first_octets serial) (name_octets (Some issuer) ++ validity_octets from to),
      length-append (name_octets (Some issuer)) (validity_octets from to),
      first_short serial short,
      text_short issuer,
      validity_short from to,
    )

body_short : (plan : CertPlan) (names : SubjectNames) (key : PublicKey) → length plan.issuer ≤ 253 → length (subject_octets names key) ≤ 1000400 → length (certificate_body plan.issuer (fields_of_plan plan names key)) ≤ 1001000
unfolding certificate_body
body_short plan names key issuer short =
    let head : List ℕ = head_octets (serial_octets plan.serial) plan.issuer plan.not_before plan.not_after in
    omega (
      arith,
      value_size 48 (head ++ subject_octets names key),
      length-append head (subject_octets names key),
      head_short (serial_octets plan.serial) plan.issuer plan.not_before plan.not_after (serial_short plan.serial),
      issuer,
      short,
    )

pub certificate_short : (plan : CertPlan) (names : SubjectNames) (key : PublicKey) → length plan.issuer ≤ 253 → length (subject_octets names key) ≤ 1000400 → length (certificate_of_plan plan names key) ≤ 16777216
unfolding certificate_of_plan
certificate_short plan names key issuer short =
    let body : List ℕ = certificate_body plan.issuer (fields_of_plan plan names key) in
    signed_short body (sha256 body) (body_short plan names key issuer short) (signature_size body)

-- ---- the subject of a usual Certificate

extensions_short : (names : List ℕ) → length (names_extensions names) ≤ length names + 60
extensions_short [] = omega arith
extensions_short (b ∷ bs) = omega (arith, value_size 163 (value 48 (alternative_extension (b ∷ bs))), value_size 48 (alternative_extension (b ∷ bs)), extension_short (b ∷ bs))

pub subject_short : (spec : CertSpec) (key : PublicKey) → spec.ip_addresses ≡ [] → octets_of_names spec ≤ 1000000 → length (spki_octets key) ≤ 230 → length (subject_octets (names_of (name_set spec)) key) ≤ 1000400
subject_short spec key none few short =
    let alternative : List ℕ = alternative_of (name_set spec) in
    let common : List ℕ = name_octets (common_if_any spec.common_name) in
    omega (
      arith,
      length-append common (spki_octets key ++ names_extensions alternative),
      length-append (spki_octets key) (names_extensions alternative),
      common_short spec.common_name,
      extensions_short alternative,
      alternative_short spec none,
      few,
      short,
    )
