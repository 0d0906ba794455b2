-- The certificate that stands in while a request waits. No issuer signs it.
use Rattle.std.specs.Prelude.{ℕ, ℤ, pos, ◌+ℤ◌, List, codes, Option, Some, None}
use Rattle.cmc_der.specs.Keys.{PublicKey, RequestFields}
use Rattle.cmc_x509.specs.ReadCertificates.{request_fields_at}
use Rattle.cmc_x509.specs.ReadKeys.{key_file_at}
use Rattle.cmc_x509_build.specs.declared.certificates.CertPlan.{CertPlan}
use Rattle.cmc_answers.specs.Signings.{certificate_of_plan}

-- it lasts for 90 days from this moment on
unfoldable pub temporary_cert_plan : ℤ → CertPlan
temporary_cert_plan moment = record {
  serial = 1234567890;
  issuer = codes "cert-manager.local";
  not_before = moment;
  not_after = moment +ℤ pos 7776000;
}

-- it has the names of the signing request and the key of the key file, where both are readable
abbrev pub temporary_of : ℤ → Option RequestFields → Option PublicKey → Option (List ℕ)
temporary_of moment (Some csr) (Some key) = Some (certificate_of_plan (temporary_cert_plan moment) csr.names key)
temporary_of moment (Some csr) None = None
temporary_of moment None key = None

abbrev pub temporary : List ℕ → List ℕ → ℤ → Option (List ℕ)
temporary request file moment = temporary_of moment (request_fields_at request) (key_file_at file)
