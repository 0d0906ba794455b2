use Rattle.std.proofs.Common.{subst}
use Rattle.std.specs.List.{AllByRecursion}
use Rattle.std.proofs.lemmas.List.{take_rest}
use Rattle.cmc_scenario_laws.specs.Steps.{HasStepBytes}
use Rattle.cmc_scenario_laws.proofs.OneMoreOf.{one_more}
use Rattle.cmc_scenario_laws.proofs.scenarios.+steps_have_bytes.Goals as goal

pub returns-in-len1-up : goal.returns-in-len1-up
returns-in-len1-up t c = one_more HasStepBytes _ _ c.in-len1-up.len_at_least c.first-item.is c.step_has_bytes.ensures (subst (AllByRecursion HasStepBytes) (take_rest c.args.steps.now 1) c.steps_have_bytes.ensures)
