use Rattle.cmc_setup.proofs.Orders.{place_found, no_place_found}
use Rattle.cmc_setup.proofs.roles.place_of.Goals as goal

pub returns-in-Some-clause-value : goal.returns-in-Some-clause-value
returns-in-Some-clause-value c = place_found c.args.roles.now c.args.role c.in-Some.place c.in-Some.ensures

pub returns-in-None-clause-value : goal.returns-in-None-clause-value
returns-in-None-clause-value c = no_place_found c.args.roles.now c.args.role c.in-None.ensures
