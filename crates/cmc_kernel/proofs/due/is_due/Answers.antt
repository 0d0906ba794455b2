use Rattle.cmc_kernel.proofs.Idling.{due_at_first}
use Rattle.cmc_kernel.proofs.due.is_due.Goals as goal

pub returns-in-None : goal.returns-in-None
returns-in-None c = rw c.in-None.is (due_at_first _ _ _)
