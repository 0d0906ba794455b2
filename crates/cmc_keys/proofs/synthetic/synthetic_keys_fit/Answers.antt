use Rattle.cmc_keys.proofs.SyntheticLaws.{synthetic_is}
use Rattle.cmc_keys.proofs.synthetic.synthetic_keys_fit.Goals as goal

pub returns : goal.returns
returns c algorithm size encoding number allowed = synthetic_is algorithm size encoding number allowed
