use Rattle.std.specs.List.{AllByRecursion}
use Rattle.cmc_scenario_laws.specs.Rows.{HasEntryBytes}
use Rattle.cmc_scenario_laws.proofs.laws.entries_have_bytes.Given as goal

abbrev pub invariant-loop-rows : goal.invariant-loop-rows
invariant-loop-rows l = AllByRecursion HasEntryBytes l.rows-iterator → AllByRecursion HasEntryBytes l.material.entries
