use Rattle.cmc_safety.proofs.Completing.{completes}
use Rattle.cmc_safety.proofs.laws.undisturbed_issuing_completes.Goals as goal

pub returns : goal.returns
returns c = completes
