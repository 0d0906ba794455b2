use Rattle.std.proofs.Common.{◌≡◌, [], ◌++◌, take, reverse}
use Rattle.cmc_collect_run.specs.Printed.{entry_lines}
use Rattle.cmc_collect_run.proofs.text.push_entries.Given as goal

abbrev pub invariant-loop-place : goal.invariant-loop-place
invariant-loop-place l = (l.lines ≡ l.fn.lines ++ entry_lines (reverse (take l.place l.moments))) × (l.printer ≡ [])
