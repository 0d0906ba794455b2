use Rattle.cmc_model.proofs.Verdicts.{verdicts_final}
use Rattle.cmc_model.proofs.laws.verdicts_stay.Goals as goal

pub returns : goal.returns
returns c = verdicts_final
