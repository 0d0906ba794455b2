use Rattle.cmc_load_ends.proofs.GeneratedLoads.{generated_is_load, generated_roles}
use Rattle.cmc_load_ends.proofs.loads.generated_scenario_is_a_load.Goals as goal

pub returns-clause-load : goal.returns-clause-load
returns-clause-load c = generated_is_load

pub returns-clause-roles : goal.returns-clause-roles
returns-clause-roles c = generated_roles
