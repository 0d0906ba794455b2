use Rattle.std.proofs.Common.{sym, ◌∙◌}
use Rattle.cmc_moves.proofs.Found.{found_here, found_later}
use Rattle.cmc_moves.proofs.user_writes.first_for.Goals as goal

pub returns-then-is_object_for : goal.returns-then-is_object_for
returns-then-is_object_for c =
    c.as_request.ensures
    ∙ found_here c.args.certificate.now c.args.revision (c.in-Some.field-0-0.now, c.in-Some.object.now) c.loop-object.object-iterator c.next.new.self c.args.objects.now.entries (sym c.is_object_for.ensures ∙ c.if-is_object_for.true) c.in-Some.ensures.steps c.loop-object.invariant

pub loop-object-preserved : goal.loop-object-preserved
loop-object-preserved c =
    found_later c.args.certificate.now c.args.revision (c.in-Some.field-0-0.now, c.in-Some.object.now) c.loop-object.object-iterator c.next.new.self c.args.objects.now.entries (sym c.is_object_for.ensures ∙ c.if-is_object_for.false) c.in-Some.ensures.steps c.loop-object.invariant
