use Rattle.std.proofs.Common.{◌≤◌, ℕ, List, length, sym, subst}
use Rattle.std.proofs.lemmas.Result.{IfOk-weaker}
use Rattle.cmc_der.specs.Keys.{key_shown}
use Rattle.cmc_x509_build.specs.Requests.{IsRequestBody, names_of}
use Rattle.cmc_x509_build.proofs.RequestLaws.{built_body_is}
use Rattle.cmc_x509_build.proofs.requests.csr_body.Goals as goal

pub returns-clause-is_read : goal.returns-clause-is_read
returns-clause-is_read c =
    IfOk-weaker c.built.result _ _
    (λ body e writable small. let Q : List ℕ → Type 0 = λ octets. length octets ≤ 16777216 → IsRequestBody octets (record { key = key_shown c.args.key.now; names = names_of c.args.names.now }) in
    subst Q (sym e) (built_body_is (key_shown c.args.key.now) c.args.names.now writable) small) c.built.ensures
