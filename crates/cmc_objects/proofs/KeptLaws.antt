-- What is read of a certification request has alternative names that are a list of values.
use Rattle.std.proofs.Common.{◌≡◌, ℕ, List, Option, Some, None, sym}
use Rattle.std.specs.Prelude.{IfSome, option_map}
use Rattle.cmc_der.specs.declared.fields.CsrFields.{CsrFields}
use Rattle.cmc_der.specs.Keys.{csr_shown}
use Rattle.cmc_x509.specs.Lists.{IsValueList}
use Rattle.cmc_x509.specs.ReadCertificates.{request_fields_at}
use Rattle.cmc_x509.proofs.CertificateLaws.{request_names, request_found}

pub names_listed : (r : Option CsrFields) (bs : List ℕ) → option_map csr_shown r ≡ request_fields_at bs → IfSome r (λ c. IsValueList c.names.alternative.now)
names_listed (Some c) bs e = request_names bs (csr_shown c) (request_found bs (csr_shown c) (sym e))
names_listed None bs e = tt
