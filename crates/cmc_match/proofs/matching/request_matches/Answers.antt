use Rattle.std.proofs.Common.{Bool, sym, subst}
use Rattle.std.specs.Prelude.{◌↔◌, IsTrue}
use Rattle.cmc_match.specs.Matches.{Matches}
use Rattle.cmc_match.proofs.MatchLaws.{matching}
use Rattle.cmc_match.proofs.matching.request_matches.Goals as goal

pub returns-clause-means : goal.returns-clause-means
returns-clause-means c =
    let P : Bool → Type 0 = λ b. IsTrue b ↔ Matches c.args.spec.now c.args.request.now in
    subst P (sym c.matches.ensures) (matching c.args.spec.now c.args.request.now)
