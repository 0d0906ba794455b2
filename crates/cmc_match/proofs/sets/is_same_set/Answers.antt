use Rattle.std.proofs.Common.{Bool, sym, subst}
use Rattle.std.specs.Prelude.{◌↔◌, IsTrue}
use Rattle.cmc_match.specs.Sets.{IsSameSet}
use Rattle.cmc_match.proofs.SetLaws.{sets}
use Rattle.cmc_match.proofs.sets.is_same_set.Goals as goal

pub returns-clause-means : goal.returns-clause-means
returns-clause-means c =
    let P : Bool → Type 0 = λ b. IsTrue b ↔ IsSameSet c.args.left.now c.args.right.now in
    subst P (sym c.are_within_each_other.ensures) (sets c.args.left.now c.args.right.now)
