use Rattle.std.proofs.Common.{◌≡◌, map, take}
use Rattle.cmc_print.specs.Trees.{items_in}
use Rattle.cmc_scenario_print.specs.PolicyTrees.{address_tree}
use Rattle.cmc_scenario_print.proofs.patterns.addresses.Given as goal

abbrev pub invariant-loop-pattern : goal.invariant-loop-pattern
invariant-loop-pattern l = items_in l.trees ≡ map address_tree (take l.pattern-index l.patterns)
