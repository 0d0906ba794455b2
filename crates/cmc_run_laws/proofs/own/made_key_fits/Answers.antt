use Rattle.cmc_run_laws.proofs.OwnRequests.{made_fits}
use Rattle.cmc_run_laws.proofs.own.made_key_fits.Goals as goal

pub returns : goal.returns
returns c = made_fits
