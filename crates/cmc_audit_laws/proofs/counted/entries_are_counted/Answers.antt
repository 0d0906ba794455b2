use Rattle.std.proofs.Common.{subst}
use Rattle.std.proofs.lemmas.List.Elements.{recursion_from_All}
use Rattle.std.specs.List.{All}
use Rattle.cmc_audit_laws.specs.Counted.{IsCountedEntry}
use Rattle.cmc_audit_laws.proofs.Reversed.{all_reversed}
use Rattle.cmc_audit_laws.proofs.counted.entries_are_counted.Goals as goal

pub returns : goal.returns
returns c = recursion_from_All IsCountedEntry c.args.history.now.entries (subst (All IsCountedEntry) c.as_slice.ensures (all_reversed IsCountedEntry c.as_slice.result.now c.each_is_counted.ensures))
