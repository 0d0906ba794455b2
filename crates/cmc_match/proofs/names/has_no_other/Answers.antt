use Rattle.std.proofs.Common.{refl, sym}
use Rattle.cmc_match.proofs.NameLaws.{other_here, other_later, other_nowhere}
use Rattle.cmc_match.proofs.names.has_no_other.Goals as goal

pub returns-then-not-is_asked : goal.returns-then-not-is_asked
returns-then-not-is_asked c =
    other_here c.loop-kind.rest.now c.in-Some.kind c.in-Some.contents.now c.in-Some.after.now c.args.tag c.args.texts.now _ c.in-Some.ensures.some c.in-Some.ensures.more (sym c.if-not-is_asked.ensures) c.loop-kind.invariant.left

pub loop-kind-preserved : goal.loop-kind-preserved
loop-kind-preserved c = record {
  list = c.in-Some.ensures.more;
  left = other_later c.loop-kind.rest.now c.in-Some.kind c.in-Some.contents.now c.in-Some.after.now c.args.tag c.args.texts.now _ c.in-Some.ensures.some c.in-Some.ensures.more (sym c.if-not-is_asked.ensures) c.loop-kind.invariant.left;
}

pub returns : goal.returns
returns c = other_nowhere c.loop-kind.rest.now c.args.tag c.args.texts.now _ (c.in_default.ensures.end.0 refl) c.loop-kind.invariant.left
