use Rattle.cmc_der.proofs.Laws.{one_value}
use Rattle.cmc_der.proofs.reading.no_proper_prefix.Goals as goal

pub returns : goal.returns
returns c = λ first second rest tag other_tag body other_body. one_value first second tag other_tag body other_body rest
