use Rattle.cmc_run_laws.proofs.Settling.{settled}
use Rattle.cmc_run_laws.proofs.at_rest.each_certificate_is_settled_at_rest.Goals as goal

pub returns : goal.returns
returns c = settled
