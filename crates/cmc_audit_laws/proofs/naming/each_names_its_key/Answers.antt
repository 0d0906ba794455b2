use Rattle.std.proofs.Common.{subst}
use Rattle.std.proofs.lemmas.List.{take_all}
use Rattle.std.proofs.lemmas.List.Elements.{All-more}
use Rattle.std.specs.List.{All}
use Rattle.cmc_audit_laws.specs.AuditedYes.{NamesItsKey}
use Rattle.cmc_audit_laws.proofs.naming.each_names_its_key.Goals as goal

pub loop-entry-preserved : goal.loop-entry-preserved
loop-entry-preserved c =
    All-more NamesItsKey c.args.entries.now c.loop-entry.entry-index c.entry-item.result c.loop-entry-test.true c.loop-entry.invariant (subst NamesItsKey c.entry-item.is c.entry_names_its_key.ensures)

pub returns : goal.returns
returns c = subst (All NamesItsKey) (take_all c.loop-entry.entry-index c.args.entries.now c.loop-entry-test.false) c.loop-entry.invariant
