use Rattle.cmc_der.specs.Keys.{key_shown}
use Rattle.cmc_objects.proofs.KeyLaws.{key_value}
use Rattle.cmc_objects.proofs.pairing.is_one_key.Goals as goal

pub returns-clause-value : goal.returns-clause-value
returns-clause-value c = key_value c.same.result (key_shown c.args.left.now) (key_shown c.args.right.now) c.same.ensures
