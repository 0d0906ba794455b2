use Rattle.cmc_setup.proofs.Orderly.{switched}
use Rattle.cmc_setup.proofs.running.switched.Goals as goal

pub returns-in-Some-2 : goal.returns-in-Some-2
returns-in-Some-2 c = λ before tells. switched _ _ _ _ _ _ _ c.in-Some.ensures c.has.ensures c.if-has-on.false c.with.ensures tells
