use Rattle.cmc_safety.proofs.Barred.{never_invalid}
use Rattle.cmc_safety.proofs.laws.no_call_is_invalid.Goals as goal

pub returns : goal.returns
returns c = never_invalid
