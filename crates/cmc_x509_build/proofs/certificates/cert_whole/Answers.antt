use Rattle.std.proofs.Common.{◌≤◌, ℕ, List, length, sym, subst}
use Rattle.std.proofs.lemmas.Result.{IfOk-weaker}
use Rattle.cmc_x509.specs.Certificates.{IsCertificate}
use Rattle.cmc_x509_build.proofs.CertificateBuiltLaws.{certificate_is}
use Rattle.cmc_x509_build.proofs.certificates.cert_whole.Goals as goal

pub returns-clause-is_read : goal.returns-clause-is_read
returns-clause-is_read c =
    IfOk-weaker c.signed.result _ _
    (λ whole e fields h small. let Q : List ℕ → Type 0 = λ octets. length octets ≤ 16777216 → IsCertificate octets fields in
    subst Q (sym e) (certificate_is c.args.body.now c.args.signature.now fields h) small) c.signed.ensures
