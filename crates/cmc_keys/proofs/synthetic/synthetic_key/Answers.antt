use Rattle.std.proofs.Common.{ℕ, List, sym, subst}
use Rattle.std.proofs.lemmas.Result.{IfOk-weaker}
use Rattle.cmc_keys.specs.Kinds.{IsKeyOf}
use Rattle.cmc_keys.proofs.SyntheticLaws.{synthetic_is}
use Rattle.cmc_keys.proofs.synthetic.synthetic_key.Goals as goal

pub returns-clause-is_key : goal.returns-clause-is_key
returns-clause-is_key c =
    IfOk-weaker c.written.result _ _
    (λ file e. let P : List ℕ → Type 0 = λ octets. IsKeyOf c.args.algorithm c.args.size octets in
    subst P (sym e) (synthetic_is c.args.algorithm c.args.size c.args.encoding c.args.number c.requires)) c.written.ensures
