use Rattle.cmc_answers.proofs.IssuedLaws.{issued_read}
use Rattle.cmc_answers.proofs.laws.issued_is_read.Goals as goal

pub returns : goal.returns
returns c = issued_read
