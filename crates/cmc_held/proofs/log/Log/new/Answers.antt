use Rattle.cmc_held.proofs.Lasts.{none_last}
use Rattle.cmc_held.proofs.log.Log.new.Goals as goal

pub invariant_of-result : goal.invariant_of-result
invariant_of-result c = rw c.new.ensures.items none_last
