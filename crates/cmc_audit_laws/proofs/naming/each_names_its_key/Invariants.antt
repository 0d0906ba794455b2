use Rattle.std.proofs.Common.{take}
use Rattle.std.specs.List.{All}
use Rattle.cmc_audit_laws.specs.AuditedYes.{NamesItsKey}
use Rattle.cmc_audit_laws.proofs.naming.each_names_its_key.Given as goal

abbrev pub invariant-loop-entry : goal.invariant-loop-entry
invariant-loop-entry l = All NamesItsKey (take l.entry-index l.entries)
