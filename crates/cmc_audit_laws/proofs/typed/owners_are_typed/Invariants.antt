use Rattle.std.proofs.Common.{take}
use Rattle.std.specs.List.{All}
use Rattle.cmc_audit_laws.specs.Typed.{IsTypedOwner}
use Rattle.cmc_audit_laws.proofs.typed.owners_are_typed.Given as goal

abbrev pub invariant-loop-owner : goal.invariant-loop-owner
invariant-loop-owner l = All IsTypedOwner (take l.owner-index l.owners)
