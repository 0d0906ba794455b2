use Rattle.std.proofs.Common.{subst}
use Rattle.std.proofs.lemmas.List.{take_all}
use Rattle.std.proofs.lemmas.List.Elements.{All-more}
use Rattle.std.specs.List.{All}
use Rattle.cmc_audit_laws.specs.Typed.{IsTypedOwner}
use Rattle.cmc_audit_laws.proofs.typed.owners_are_typed.Goals as goal

pub loop-owner-preserved : goal.loop-owner-preserved
loop-owner-preserved c =
    All-more IsTypedOwner c.args.owners.now c.loop-owner.owner-index c.owner-item.result c.loop-owner-test.true c.loop-owner.invariant (subst IsTypedOwner c.owner-item.is c.owner_is_typed.ensures)

pub returns : goal.returns
returns c = subst (All IsTypedOwner) (take_all c.loop-owner.owner-index c.args.owners.now c.loop-owner-test.false) c.loop-owner.invariant
