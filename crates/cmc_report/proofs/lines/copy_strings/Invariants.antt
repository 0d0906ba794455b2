use Rattle.std.proofs.Common.{◌≡◌, map, take, string_bytes}
use Rattle.cmc_report.proofs.lines.copy_strings.Given as goal

abbrev pub invariant-loop-string : goal.invariant-loop-string
invariant-loop-string l = map string_bytes l.items.items ≡ map string_bytes (take l.string-index l.strings)
