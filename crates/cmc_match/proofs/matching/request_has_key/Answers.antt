use Rattle.std.proofs.Common.{Bool, sym, subst}
use Rattle.std.specs.Prelude.{◌↔◌, IsTrue}
use Rattle.cmc_match.specs.Matches.{HasKey}
use Rattle.cmc_match.proofs.MatchLaws.{keys_match}
use Rattle.cmc_match.proofs.matching.request_has_key.Goals as goal

pub returns-clause-means : goal.returns-clause-means
returns-clause-means c =
    let P : Bool → Type 0 = λ b. IsTrue b ↔ HasKey c.args.request.now c.args.file.now in
    subst P (sym c.has_key.ensures) (keys_match c.args.request.now c.args.file.now)
