use Rattle.std.proofs.Common.{◌≤◌, ℕ, List, length, sym, subst}
use Rattle.std.proofs.lemmas.Result.{IfOk-weaker}
use Rattle.cmc_der.specs.Keys.{key_shown, names_shown}
use Rattle.cmc_x509_build.specs.Certificates.{IsCertificateBody, fields_of_plan}
use Rattle.cmc_x509_build.proofs.CertificateBuiltLaws.{planned_body_is}
use Rattle.cmc_x509_build.proofs.certificates.cert_body.Goals as goal

pub returns-clause-is_read : goal.returns-clause-is_read
returns-clause-is_read c =
    let names = names_shown c.args.csr.now.names in
    let key = key_shown c.args.key.now in
    IfOk-weaker c.built.result _ _
    (λ body e ordered writable are small. let Q : List ℕ → Type 0 = λ octets. length octets ≤ 16777216 → IsCertificateBody octets (fields_of_plan c.args.plan.now names key) in
    subst Q (sym e) (planned_body_is c.args.plan.now names key c.requires.begins_in_range c.requires.ends_in_range ordered writable are) small) c.built.ensures
