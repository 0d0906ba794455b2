use Rattle.std.proofs.Common.{take}
use Rattle.std.specs.List.{All}
use Rattle.cmc_audit_laws.specs.Typed.{IsTypedEntry}
use Rattle.cmc_audit_laws.proofs.typed.each_is_typed.Given as goal

abbrev pub invariant-loop-entry : goal.invariant-loop-entry
invariant-loop-entry l = All IsTypedEntry (take l.entry-index l.entries)
