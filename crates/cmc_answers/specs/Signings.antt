-- What an issuer answers by the row that a scenario has for the question.
use Rattle.std.specs.Prelude.{ℕ, min, ℤ, pos, ◌+ℤ◌, ◌-ℤ◌, List, [], codes, Option, Some, None, unwrap_or, is_some, if◌then◌else◌}
use Rattle.sha2.specs.Sha256.{sha256}
use Rattle.cmc_der.specs.Keys.{PublicKey, RequestFields, SubjectNames, key_kind_of}
use Rattle.cmc_x509.specs.ReadCertificates.{request_fields_at}
use Rattle.cmc_x509_build.specs.Octets.{signed_octets}
use Rattle.cmc_x509_build.specs.Certificates.{fields_of_plan, certificate_body}
use Rattle.cmc_x509_build.specs.declared.certificates.CertPlan.{CertPlan}
use Rattle.cmc_objects.specs.Defaults.{certificate_duration}
use Rattle.cmc_objects.specs.declared.request.CertificateRequest.{CertificateRequest}
use Rattle.cmc_objects.specs.declared.rows.SignRow.{SignRow}
use Rattle.cmc_objects.specs.declared.rows.SignRow.TheVariants as rows
use Rattle.cmc_objects.specs.declared.orders.Signing.{Signing}
use Rattle.cmc_objects.specs.declared.orders.Signing.TheVariants.{Issued, Pending, Failed}
use Rattle.cmc_answers.specs.StandIns.{stand_in_key}

-- how long the certificate lasts, in seconds: as the row says, and else as the request asks, up to 36,500 days
abbrev pub lifetime_given : Option ℕ → Option ℕ → ℕ
lifetime_given (Some seconds) asked = seconds
lifetime_given None asked = min (certificate_duration asked) 3153600000

-- what the certificate says that the signing request does not: its serial number is the row's or the question's, its
-- issuer the one that the request names, and it begins so many seconds before the present moment
abbrev pub plan_of : ℕ → CertificateRequest → ℤ → Option ℕ → ℕ → Option ℕ → CertPlan
plan_of number request moment seconds before serial = record {
  serial = unwrap_or serial number;
  issuer = request.spec.issuer.name;
  not_before = moment -ℤ pos before;
  not_after = (moment -ℤ pos before) +ℤ pos (lifetime_given seconds request.spec.duration);
}

-- the key that is certified: the stand-in key of the row, where it has one, and else the request's
abbrev pub certified_key : Option ℕ → PublicKey → PublicKey
certified_key None key = key
certified_key (Some number) key = stand_in_key number

-- a body and its signature, which is the SHA-256 of the body
abbrev pub signed_certificate : List ℕ → List ℕ
signed_certificate body = signed_octets body (sha256 body)

-- the certificate of this plan, these names and this key
unfoldable pub certificate_of_plan : CertPlan → SubjectNames → PublicKey → List ℕ
certificate_of_plan plan names key = signed_certificate (certificate_body plan.issuer (fields_of_plan plan names key))

abbrev pub not_readable : Signing
not_readable = Failed (codes "The request is not readable")

-- the answer to a signing request that was read: it has to have an RSA or an ECDSA key
abbrev pub issued : CertPlan → Option ℕ → List ℕ → Option RequestFields → Signing
issued plan row_key ca None = not_readable
issued plan row_key ca (Some csr) =
    if is_some (key_kind_of csr.key) then Issued (certificate_of_plan plan csr.names (certified_key row_key csr.key)) ca else not_readable

-- the answer of a row to the question of this number about the request, at the moment; a free row may have any other
unfoldable pub signing_of : SignRow → ℕ → CertificateRequest → ℤ → Signing
signing_of (rows.Issue seconds before serial key ca) number request moment =
    issued (plan_of number request moment seconds before serial) key ca (request_fields_at request.spec.request)
signing_of rows.Pending number request moment = Pending
signing_of (rows.Fail message) number request moment = Failed message
signing_of (rows.Raw der) number request moment = Issued der []
signing_of rows.Free number request moment = Pending
