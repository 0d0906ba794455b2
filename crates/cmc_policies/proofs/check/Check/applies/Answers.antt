-- What the closure answered is one of its answers at these facts.
use Rattle.std.proofs.Common.{refl}
use Rattle.cmc_policies.proofs.check.Check.applies.Goals as goal

pub returns : goal.returns
returns g c = c.requires.answers c.args.facts.now c.test.result (record { shown = c.args.facts; shows = refl; says = record { met = c.test.ensures } })
