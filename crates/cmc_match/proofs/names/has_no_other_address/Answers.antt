use Rattle.std.proofs.Common.{refl, sym}
use Rattle.cmc_match.specs.SubjectNames.{addresses_written}
use Rattle.cmc_match.proofs.NameLaws.{address_here, address_later, address_nowhere}
use Rattle.cmc_match.proofs.names.has_no_other_address.Goals as goal

pub returns-then-not-is_asked_address : goal.returns-then-not-is_asked_address
returns-then-not-is_asked_address c =
    address_here c.loop-kind.rest.now c.in-Some.kind c.in-Some.contents.now c.in-Some.after.now (addresses_written c.args.texts.now) _ c.in-Some.ensures.some c.in-Some.ensures.more (sym c.if-not-is_asked_address.ensures) c.loop-kind.invariant.left

pub loop-kind-preserved : goal.loop-kind-preserved
loop-kind-preserved c = record {
  list = c.in-Some.ensures.more;
  left = address_later c.loop-kind.rest.now c.in-Some.kind c.in-Some.contents.now c.in-Some.after.now (addresses_written c.args.texts.now) _ c.in-Some.ensures.some c.in-Some.ensures.more (sym c.if-not-is_asked_address.ensures) c.loop-kind.invariant.left;
}

pub returns : goal.returns
returns c = address_nowhere c.loop-kind.rest.now (addresses_written c.args.texts.now) _ (c.in_default.ensures.end.0 refl) c.loop-kind.invariant.left
