-- Certificates that are built (RFC 5280).
use Rattle.std.specs.Prelude.{ℕ, ℤ, List, [], ◌∷◌, ◌++◌, Some}
use Rattle.std.specs.Int.{w64, to_be_bytes}
use Rattle.cmc_der.specs.Builders.{value}
use Rattle.cmc_der.specs.Integers.{integer_of}
use Rattle.cmc_der.specs.Values.{IsDerValue}
use Rattle.cmc_der.specs.Keys.{PublicKey, CertificateFields, SubjectNames}
use Rattle.cmc_time.specs.Asn1.{asn1_tag, asn1_text}
use Rattle.cmc_x509.specs.Certificates.{IsTbsCertificate}
use Rattle.cmc_x509_build.specs.declared.certificates.CertPlan.{CertPlan}
use Rattle.cmc_x509_build.specs.Octets.{signature_algorithm, spki_octets, name_octets, alternative_extension}

-- the contents octets of the serial number
abbrev pub serial_octets : ℕ → List ℕ
serial_octets serial = integer_of (to_be_bytes w64 serial)

-- the fields of the certificate that the plan makes of these names and this key
abbrev pub fields_of_plan : CertPlan → SubjectNames → PublicKey → CertificateFields
fields_of_plan plan names key = record {
  serial = serial_octets plan.serial;
  not_before = plan.not_before;
  not_after = plan.not_after;
  key = key;
  names = names;
}

abbrev pub time_octets : ℤ → List ℕ
time_octets at = value (asn1_tag at) (asn1_text at)

abbrev pub validity_octets : ℤ → ℤ → List ℕ
validity_octets not_before not_after = value 48 (time_octets not_before ++ time_octets not_after)

-- [3] with the alternative names, where there are any
abbrev pub names_extensions : List ℕ → List ℕ
names_extensions [] = []
names_extensions (b ∷ bs) = value 163 (value 48 (alternative_extension (b ∷ bs)))

-- v3, serialNumber and signature
abbrev pub first_octets : List ℕ → List ℕ
first_octets serial = value 160 (value 2 (2 ∷ [])) ++ (value 2 serial ++ signature_algorithm)

-- and issuer and validity
abbrev pub head_octets : List ℕ → List ℕ → ℤ → ℤ → List ℕ
head_octets serial issuer not_before not_after =
    first_octets serial ++ (name_octets (Some issuer) ++ validity_octets not_before not_after)

-- subject, subjectPublicKeyInfo and extensions
abbrev pub subject_octets : SubjectNames → PublicKey → List ℕ
subject_octets names key = name_octets names.common ++ (spki_octets key ++ names_extensions names.alternative)

-- TBSCertificate with this issuer and these fields
unfoldable pub certificate_body : List ℕ → CertificateFields → List ℕ
certificate_body issuer fields =
    value 48 (head_octets fields.serial issuer fields.not_before fields.not_after
    ++ subject_octets fields.names fields.key)

-- the octets are a TBSCertificate with these fields
abbrev pub IsCertificateBody : List ℕ → CertificateFields → Type 0
IsCertificateBody octets fields =
    (contents : List ℕ) × IsDerValue octets 48 contents × IsTbsCertificate contents fields
