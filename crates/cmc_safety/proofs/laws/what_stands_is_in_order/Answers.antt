use Rattle.cmc_safety.proofs.Standing.{in_order}
use Rattle.cmc_safety.proofs.laws.what_stands_is_in_order.Goals as goal

pub returns : goal.returns
returns c = in_order
