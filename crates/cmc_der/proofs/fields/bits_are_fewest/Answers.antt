use Rattle.cmc_der.proofs.BitLengths.{bits_are}
use Rattle.cmc_der.proofs.fields.bits_are_fewest.Goals as goal

pub returns : goal.returns
returns c = λ octets h. bits_are octets h
