use Rattle.std.proofs.Common.{◌≡◌, map, take}
use Rattle.cmc_print.specs.Trees.{items_in}
use Rattle.cmc_print.specs.Trees.{natural}
use Rattle.cmc_scenario_print.proofs.scenarios.numbers.Given as goal

abbrev pub invariant-loop-number : goal.invariant-loop-number
invariant-loop-number l = items_in l.trees ≡ map natural (take l.number-index l.numbers)
