use Rattle.cmc_run_laws.proofs.Readied.{ready}
use Rattle.cmc_run_laws.proofs.at_rest.what_can_be_issued_is_ready_at_rest.Goals as goal

pub returns : goal.returns
returns c = ready
