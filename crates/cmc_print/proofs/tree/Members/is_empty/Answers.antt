use Rattle.cmc_print.proofs.Bare.{bare}
use Rattle.cmc_print.proofs.tree.Members.is_empty.Goals as goal

pub returns : goal.returns
returns c = bare _ _ c.is_empty.ensures
