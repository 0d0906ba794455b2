use Rattle.std.proofs.Common.{take}
use Rattle.std.specs.List.{All}
use Rattle.cmc_audit_laws.specs.Counted.{IsCountedEntry}
use Rattle.cmc_audit_laws.proofs.counted.each_is_counted.Given as goal

abbrev pub invariant-loop-entry : goal.invariant-loop-entry
invariant-loop-entry l = All IsCountedEntry (take l.entry-index l.entries)
