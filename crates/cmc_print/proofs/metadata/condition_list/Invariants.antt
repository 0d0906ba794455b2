use Rattle.std.proofs.Common.{◌≡◌, map, take}
use Rattle.cmc_print.specs.Printed.{condition_tree}
use Rattle.cmc_print.specs.Trees.{items_in}
use Rattle.cmc_print.proofs.metadata.condition_list.Given as goal

abbrev pub invariant-loop-item : goal.invariant-loop-item
invariant-loop-item l = items_in l.trees ≡ map condition_tree (take l.item-index l.conditions)
