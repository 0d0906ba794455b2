use Rattle.cmc_run_laws.proofs.Issued.{nothing_after_issuance}
use Rattle.cmc_run_laws.proofs.issuance.nothing_is_due_after_an_issuance.Goals as goal

pub returns : goal.returns
returns c = nothing_after_issuance
