use Rattle.cmc_run_laws.proofs.NotForNothing.{not_for_nothing}
use Rattle.cmc_run_laws.proofs.ReasonsEnough.{reasons_enough}
use Rattle.cmc_run_laws.proofs.begins.no_pass_begins_for_nothing.Goals as goal

pub returns-clause-reason : goal.returns-clause-reason
returns-clause-reason c = not_for_nothing c.generated_names_are_free.ensures

pub returns-clause-count : goal.returns-clause-count
returns-clause-count c = λ s whole formed run. reasons_enough whole (not_for_nothing c.generated_names_are_free.ensures s whole formed run)
