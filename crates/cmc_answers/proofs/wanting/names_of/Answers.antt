use Rattle.std.proofs.Common.{refl, sym, ◌∙◌}
use Rattle.cmc_answers.proofs.GeneralNames.{name_added, name_passed, names_whole}
use Rattle.cmc_answers.proofs.wanting.names_of.Goals as goal

pub loop-own-preserved-in_ok-push : goal.loop-own-preserved-in_ok-push
loop-own-preserved-in_ok-push c = record {
  are_values = c.in-Some.ensures.more;
  so_far = name_added c.args.tag c.loop-own.names c.loop-own.rest.now c.in-Some.after.now (c.in-Some.own, c.in-Some.body.now) _
      c.in-Some.ensures.some c.in-Some.ensures.more (sym c.has_tag.ensures ∙ c.if-has_tag.true) c.loop-own.invariant.so_far
      c.in_ok-from_slice.field-0 c.push.new.self c.in_ok-from_slice.ensures c.in_ok-push.ensures.ok;
}

pub loop-own-preserved : goal.loop-own-preserved
loop-own-preserved c = record {
  are_values = c.in-Some.ensures.more;
  so_far = name_passed c.args.tag c.loop-own.names c.loop-own.rest.now c.in-Some.after.now (c.in-Some.own, c.in-Some.body.now) _
      c.in-Some.ensures.some c.in-Some.ensures.more (sym c.has_tag.ensures ∙ c.if-has_tag.false) c.loop-own.invariant.so_far;
}

pub returns : goal.returns
returns c = names_whole c.args.tag c.loop-own.names c.loop-own.rest.now _ (c.in_default.ensures.end.0 refl) c.loop-own.invariant.so_far
