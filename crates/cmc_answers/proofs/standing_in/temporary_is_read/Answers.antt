use Rattle.cmc_answers.proofs.IssuedLaws.{temporary_read}
use Rattle.cmc_answers.proofs.standing_in.temporary_is_read.Goals as goal

pub returns : goal.returns
returns c = temporary_read
