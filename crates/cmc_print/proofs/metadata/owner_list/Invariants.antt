use Rattle.std.proofs.Common.{◌≡◌, map, take}
use Rattle.cmc_print.specs.Printed.{owner_tree}
use Rattle.cmc_print.specs.Trees.{items_in}
use Rattle.cmc_print.proofs.metadata.owner_list.Given as goal

abbrev pub invariant-loop-reference : goal.invariant-loop-reference
invariant-loop-reference l = items_in l.trees ≡ map owner_tree (take l.reference-index l.owners)
