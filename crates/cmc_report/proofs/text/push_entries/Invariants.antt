use Rattle.std.proofs.Common.{◌≡◌, [], ◌++◌, take, reverse}
use Rattle.cmc_report.specs.Text.{entry_lines}
use Rattle.cmc_report.proofs.text.push_entries.Given as goal

abbrev pub invariant-loop-place : goal.invariant-loop-place
invariant-loop-place l = (l.lines ≡ l.fn.lines ++ entry_lines (reverse (take l.place l.entries))) × (l.printer ≡ [])
