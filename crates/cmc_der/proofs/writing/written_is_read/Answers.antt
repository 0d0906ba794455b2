use Rattle.cmc_der.proofs.Spelled.{value_begins}
use Rattle.cmc_der.proofs.writing.written_is_read.Goals as goal

pub returns : goal.returns
returns c = λ tag body rest low fits. value_begins tag body rest low fits
