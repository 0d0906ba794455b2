use Rattle.cmc_safety.proofs.Safe.{safe}
use Rattle.cmc_safety.proofs.laws.runs_are_safe.Goals as goal

pub returns : goal.returns
returns c = safe
