use Rattle.std.proofs.Common.{◌≡◌, map, take}
use Rattle.cmc_print.specs.Trees.{items_in}
use Rattle.cmc_scenario_print.specs.PolicyTrees.{policy_tree}
use Rattle.cmc_scenario_print.proofs.policies.list.Given as goal

abbrev pub invariant-loop-policy : goal.invariant-loop-policy
invariant-loop-policy l = items_in l.trees ≡ map policy_tree (take l.policy-index l.policies)
