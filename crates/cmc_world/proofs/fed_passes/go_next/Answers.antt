use Rattle.std.proofs.Common.{refl}
use Rattle.cmc_moves.specs.declared.moves.Move.TheVariants as moves
use Rattle.cmc_world.proofs.BeginsFed.{roomed}
use Rattle.cmc_world.proofs.Feeding.{fed_same, to_close}
use Rattle.cmc_world.proofs.fed_passes.go_next.Goals as goal

pub returns-in_err-closing-clause-fed : goal.returns-in_err-closing-clause-fed
returns-in_err-closing-clause-fed c = roomed c.args.kernel.now c.args.queues.now c.ready_to_end.new.queues c.ready_to_end.ensures.rows c.requires

pub returns-in_err-answer-clause-fed : goal.returns-in_err-answer-clause-fed
returns-in_err-answer-clause-fed c = fed_same c.args.kernel.now c.step_next.new.self c.ready_to_end.new.queues c.in_err-answer.ensures.err (roomed c.args.kernel.now c.args.queues.now c.ready_to_end.new.queues c.ready_to_end.ensures.rows c.requires)

pub close-requires-clause-left : goal.close-requires-clause-left
close-requires-clause-left c =
    to_close c.args.kernel.now c.step_next.new.self c.args.pass (moves.Next c.args.pass c.args.incarnation) c.in_ok-answer.answer c.in_ok-closing.closing c.ready_to_end.new.queues c.is_run.ensures.run c.step_next.ensures.run c.step_next.ensures.scenario refl c.in_ok-answer.ensures.leaves
    c.in_ok-closing.ensures.closing (roomed c.args.kernel.now c.args.queues.now c.ready_to_end.new.queues c.ready_to_end.ensures.rows c.requires)
