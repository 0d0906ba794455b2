use Rattle.std.proofs.Common.{◌≡◌, map, take}
use Rattle.cmc_print.specs.Trees.{items_in}
use Rattle.cmc_scenario_print.specs.RowTrees.{sign_row_tree}
use Rattle.cmc_scenario_print.proofs.rows.reply_rows.Given as goal

abbrev pub invariant-loop-row : goal.invariant-loop-row
invariant-loop-row l = items_in l.trees ≡ map sign_row_tree (take l.row-index l.rows)
