use Rattle.std.proofs.Common.{length}
use Rattle.cmc_scenario_laws.proofs.scenarios.+steps_have_bytes.Given as goal

abbrev pub decreases-steps_have_bytes : goal.decreases-steps_have_bytes
decreases-steps_have_bytes l = length l.steps.now
