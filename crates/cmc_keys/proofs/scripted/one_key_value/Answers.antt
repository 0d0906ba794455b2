use Rattle.cmc_keys.proofs.ScriptedLaws.{one_value}
use Rattle.cmc_keys.proofs.scripted.one_key_value.Goals as goal

pub returns : goal.returns
returns c order a b bound h k = one_value order a b bound h k
