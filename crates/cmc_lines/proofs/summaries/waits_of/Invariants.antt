use Rattle.std.proofs.Common.{◌≡◌, map, take}
use Rattle.cmc_print.specs.Trees.{items_in}
use Rattle.cmc_report.specs.Trees.{waiting_tree}
use Rattle.cmc_lines.proofs.summaries.waits_of.Given as goal

abbrev pub invariant-loop-waiting : goal.invariant-loop-waiting
invariant-loop-waiting l = items_in l.trees ≡ map waiting_tree (take l.waiting-index l.waits)
