use Rattle.cmc_run_laws.proofs.OwnRequests.{own_is_wanted}
use Rattle.cmc_run_laws.proofs.own.own_request_is_wanted.Goals as goal

pub returns : goal.returns
returns c = own_is_wanted
