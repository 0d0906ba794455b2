use Rattle.std.proofs.Common.{refl, sym, ap, ◌∙◌}
use Rattle.cmc_match.specs.SubjectNames.{names_tagged}
use Rattle.cmc_match.proofs.NameLaws.{no_name_left, order_later}
use Rattle.cmc_match.proofs.names.are_in_order.Goals as goal

pub loop-kind-preserved : goal.loop-kind-preserved
loop-kind-preserved c = record {
  list = c.in-Some.ensures.more;
  order = order_later c.loop-kind.rest.now c.in-Some.kind c.in-Some.contents.now c.in-Some.after.now c.args.tag c.loop-kind.left.now c.in-Some-left_behind.others.now _ c.in-Some.ensures.some c.in-Some.ensures.more
      c.in-Some-left_behind.ensures c.loop-kind.invariant.order;
}

pub returns : goal.returns
returns c = λ is. c.loop-kind.invariant.order (no_name_left c.loop-kind.rest.now c.args.tag c.loop-kind.left.now (c.in_default.ensures.end.0 refl) (sym c.is_empty.ensures ∙ is))
