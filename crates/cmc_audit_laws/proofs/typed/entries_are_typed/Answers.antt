use Rattle.std.proofs.Common.{subst}
use Rattle.std.proofs.lemmas.List.Elements.{recursion_from_All}
use Rattle.std.specs.List.{All}
use Rattle.cmc_audit_laws.specs.Typed.{IsTypedEntry}
use Rattle.cmc_audit_laws.proofs.Reversed.{all_reversed}
use Rattle.cmc_audit_laws.proofs.typed.entries_are_typed.Goals as goal

pub returns : goal.returns
returns c = recursion_from_All IsTypedEntry c.args.history.now.entries (subst (All IsTypedEntry) c.as_slice.ensures (all_reversed IsTypedEntry c.as_slice.result.now c.each_is_typed.ensures))
