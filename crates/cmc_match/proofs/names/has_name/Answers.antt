use Rattle.std.proofs.Common.{refl, sym}
use Rattle.cmc_match.proofs.NameLaws.{name_here, name_later, name_nowhere}
use Rattle.cmc_match.proofs.names.has_name.Goals as goal

pub returns-then-is_name : goal.returns-then-is_name
returns-then-is_name c =
    name_here c.loop-kind.rest.now c.in-Some.kind c.in-Some.contents.now c.in-Some.after.now c.args.tag c.args.name.now _ c.in-Some.ensures.some c.in-Some.ensures.more (sym c.if-is_name.ensures) c.loop-kind.invariant.left

pub loop-kind-preserved : goal.loop-kind-preserved
loop-kind-preserved c = record {
  list = c.in-Some.ensures.more;
  left = name_later c.loop-kind.rest.now c.in-Some.kind c.in-Some.contents.now c.in-Some.after.now c.args.tag c.args.name.now _ c.in-Some.ensures.some c.in-Some.ensures.more (sym c.if-is_name.ensures) c.loop-kind.invariant.left;
}

pub returns : goal.returns
returns c = name_nowhere c.loop-kind.rest.now c.args.tag c.args.name.now _ (c.in_default.ensures.end.0 refl) c.loop-kind.invariant.left
