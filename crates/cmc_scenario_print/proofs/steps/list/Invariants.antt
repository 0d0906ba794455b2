use Rattle.std.proofs.Common.{◌≡◌, map, take}
use Rattle.cmc_print.specs.Trees.{items_in}
use Rattle.cmc_scenario_print.specs.StepTrees.{step_tree}
use Rattle.cmc_scenario_print.proofs.steps.list.Given as goal

abbrev pub invariant-loop-step : goal.invariant-loop-step
invariant-loop-step l = items_in l.trees ≡ map step_tree (take l.step-index l.script)
