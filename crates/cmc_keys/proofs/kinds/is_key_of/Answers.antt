use Rattle.std.proofs.Common.{Bool, sym, subst}
use Rattle.std.specs.Prelude.{◌↔◌, IsTrue}
use Rattle.cmc_keys.specs.Kinds.{IsKeyOf}
use Rattle.cmc_keys.proofs.KindLaws.{is_key_means}
use Rattle.cmc_keys.proofs.kinds.is_key_of.Goals as goal

pub returns-clause-means : goal.returns-clause-means
returns-clause-means c =
    let P : Bool → Type 0 = λ b. IsTrue b ↔ IsKeyOf c.args.algorithm c.args.size c.args.octets.now in
    subst P (sym c.fits.ensures) (is_key_means c.args.algorithm c.args.size c.args.octets.now)
