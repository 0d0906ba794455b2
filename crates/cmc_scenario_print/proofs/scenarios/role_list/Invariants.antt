use Rattle.std.proofs.Common.{◌≡◌, map, take}
use Rattle.cmc_print.specs.Trees.{items_in}
use Rattle.cmc_scenario_print.specs.ScenarioTree.{role_tree}
use Rattle.cmc_scenario_print.proofs.scenarios.role_list.Given as goal

abbrev pub invariant-loop-role : goal.invariant-loop-role
invariant-loop-role l = items_in l.trees ≡ map role_tree (take l.role-index l.roles)
