use Rattle.cmc_scenario_laws.proofs.BoundRows.{what_is_read, what_is_made}
use Rattle.cmc_scenario_laws.proofs.scenarios.scenarios_leave_nothing_free.Goals as goal

pub returns-clause-read : goal.returns-clause-read
returns-clause-read c = what_is_read

pub returns-clause-made : goal.returns-clause-made
returns-clause-made c = what_is_made
