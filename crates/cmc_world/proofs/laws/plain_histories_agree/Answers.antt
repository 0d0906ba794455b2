use Rattle.cmc_world.proofs.Determined.{plain_agree}
use Rattle.cmc_world.proofs.laws.plain_histories_agree.Goals as goal

pub returns : goal.returns
returns c = plain_agree
