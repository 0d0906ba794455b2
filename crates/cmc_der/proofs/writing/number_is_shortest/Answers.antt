use Rattle.cmc_der.proofs.Shortest.{integer_is}
use Rattle.cmc_der.proofs.writing.number_is_shortest.Goals as goal

pub returns : goal.returns
returns c = λ bytes. integer_is bytes
