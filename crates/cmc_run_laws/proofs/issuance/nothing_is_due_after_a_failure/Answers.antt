use Rattle.cmc_run_laws.proofs.Failing.{nothing_after_failure}
use Rattle.cmc_run_laws.proofs.issuance.nothing_is_due_after_a_failure.Goals as goal

pub returns : goal.returns
returns c = nothing_after_failure
