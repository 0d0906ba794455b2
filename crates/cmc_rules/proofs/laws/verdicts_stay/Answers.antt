use Rattle.cmc_rules.proofs.Answered.{verdicts_stay_in}
use Rattle.cmc_rules.proofs.laws.verdicts_stay.Goals as goal

pub returns : goal.returns
returns c = verdicts_stay_in
