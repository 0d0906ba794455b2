use Rattle.std.proofs.Common.{Bool, sym, subst}
use Rattle.std.specs.Prelude.{◌↔◌, IsTrue}
use Rattle.cmc_match.specs.Matches.{HasKey, Matches}
use Rattle.cmc_match.proofs.ReadLaws.{answered}
use Rattle.cmc_match.proofs.matching.request_answers.Goals as goal

pub returns-clause-means : goal.returns-clause-means
returns-clause-means c =
    let P : Bool → Type 0 = λ b. IsTrue b ↔ (Matches c.args.spec.now c.args.request.now × HasKey c.args.request.now c.args.file.now) in
    subst P (sym c.answers.ensures) (answered c.args.spec.now c.args.request.now c.args.file.now)
