use Rattle.std.proofs.Common.{subst}
use Rattle.std.specs.List.{All}
use Rattle.cmc_audit_laws.specs.AuditedYes.{NamesItsKey}
use Rattle.cmc_audit_laws.proofs.Reversed.{all_reversed}
use Rattle.cmc_audit_laws.proofs.naming.entries_name_their_keys.Goals as goal

pub returns : goal.returns
returns c = subst (All NamesItsKey) c.as_slice.ensures (all_reversed NamesItsKey c.as_slice.result.now c.each_names_its_key.ensures)
