use Rattle.std.proofs.Common.{◌≡◌, map, drop}
use Rattle.cmc_report.specs.Trees.{waiting_tree}
use Rattle.cmc_writer.specs.Additions.{with_values}
use Rattle.cmc_report.proofs.summaries.add_waits.Given as goal

abbrev pub invariant-loop-waiting : goal.invariant-loop-waiting
invariant-loop-waiting l = with_values l.printer (map waiting_tree (drop l.waiting-index l.waits)) ≡ with_values l.fn.printer (map waiting_tree l.waits)
