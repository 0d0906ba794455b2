use Rattle.cmc_run_laws.proofs.RunningAlone as running
use Rattle.cmc_run_laws.proofs.calm.plain_passes_run_alone.Goals as goal

pub returns-clause-alone : goal.returns-clause-alone
returns-clause-alone c = running.alone c.generated_names_are_free.ensures

pub returns-clause-sees : goal.returns-clause-sees
returns-clause-sees c = running.sees c.generated_names_are_free.ensures

pub returns-clause-served : goal.returns-clause-served
returns-clause-served c = running.served c.generated_names_are_free.ensures
