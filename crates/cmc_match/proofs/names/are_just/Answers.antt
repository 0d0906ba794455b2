use Rattle.std.proofs.Common.{refl, sym, ◌∙◌}
use Rattle.cmc_match.proofs.NameLaws.{just_later, nothing_left}
use Rattle.cmc_match.proofs.names.are_just.Goals as goal

pub loop-kind-preserved : goal.loop-kind-preserved
loop-kind-preserved c = record {
  list = c.in-Some.ensures.more;
  order = just_later c.loop-kind.rest.now c.in-Some.kind c.in-Some.contents.now c.in-Some.after.now c.args.tag c.loop-kind.left.now c.in-Some-behind.others.now _ c.in-Some.ensures.some c.in-Some.ensures.more
      c.if-kind-tag.false c.in-Some-behind.ensures c.loop-kind.invariant.order;
}

pub returns : goal.returns
returns c = λ is. c.loop-kind.invariant.order (nothing_left c.loop-kind.rest.now c.args.tag c.loop-kind.left.now (c.in_default.ensures.end.0 refl) (sym c.is_empty.ensures ∙ is))
