use Rattle.std.proofs.Common.{arith}
use Rattle.std.proofs.lemmas.List.{length-take}
use Rattle.cmrun.proofs.Prefixes.{at_each_error, consumed_more, consumed_within}
use Rattle.cmrun.proofs.source.read_all.Goals as goal

pub returns-then-count-left-clause-first_above : goal.returns-then-count-left-clause-first_above
returns-then-count-left-clause-first_above g c = λ _. consumed_more _ _ _ _ _ _ c.loop-count.invariant.consumed c.in-Ok.ensures.bytes.0
    (omega (arith, c.in-Ok.ensures.bound.0, c.in-Ok.ensures.bound.1, length-take c.min-room.result c.loop-count.piece))

pub returns-then-count-left-clause-part : goal.returns-then-count-left-clause-part
returns-then-count-left-clause-part g c = consumed_within _ _ _ _ _ _ c.loop-count.invariant.consumed c.in-Ok.ensures.bytes.0
    (omega (arith, c.in-Ok.ensures.bound.0, c.in-Ok.ensures.bound.1, length-take c.min-room.result c.loop-count.piece))

pub returns-in_err-extend_from_slice-clause-part : goal.returns-in_err-extend_from_slice-clause-part
returns-in_err-extend_from_slice-clause-part g c = at_each_error _ (consumed_within _ _ _ _ _ _ c.loop-count.invariant.consumed c.in-Ok.ensures.bytes.0
    (omega (arith, c.in-Ok.ensures.bound.0, c.in-Ok.ensures.bound.1, length-take c.min-room.result c.loop-count.piece)))
