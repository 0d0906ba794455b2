use Rattle.std.proofs.Common.{sym, ◌∙◌}
use Rattle.cmc_moves.specs.declared.moves.Move.TheVariants as moves
use Rattle.cmc_world.proofs.BeginsFed.{begun_done, roomed}
use Rattle.cmc_world.proofs.Feeding.{fed_not_made, fed_same}
use Rattle.cmc_world.proofs.fed_begins.begin.Goals as goal

pub returns-in_err-room_at-clause-fed : goal.returns-in_err-room_at-clause-fed
returns-in_err-room_at-clause-fed c = roomed c.args.kernel.now c.args.queues.now c.room_at.new.queues c.room_at.ensures.rows c.requires

pub returns-in_err-answer-clause-fed : goal.returns-in_err-answer-clause-fed
returns-in_err-answer-clause-fed c = fed_same c.args.kernel.now c.step_begin.new.self c.room_at.new.queues c.in_err-answer.ensures.err (roomed c.args.kernel.now c.args.queues.now c.room_at.new.queues c.room_at.ensures.rows c.requires)

pub returns-clause-fed : goal.returns-clause-fed
returns-clause-fed c =
    begun_done c.args.kernel.now c.step_begin.new.self c.args.role c.args.key c.in_ok-own.own c.in_ok-seen.seen c.next_due-next.result c.args.queues.now c.room_at.new.queues c.begun.new.self c.in_ok-answer.answer c.in_ok-own.ensures
    c.step_begin.ensures.run c.step_begin.ensures.scenario c.in_ok-answer.ensures.answer c.in_ok-answer.ensures.leaves (sym c.is_done.ensures ∙ c.if-not-is_done.false) c.in_ok-seen.ensures.sees c.next_due-next.ensures c.room_at.ensures.rows c.begun.ensures.rows c.begun.ensures.others c.requires

pub returns-then-not-is_done-clause-fed : goal.returns-then-not-is_done-clause-fed
returns-then-not-is_done-clause-fed c =
    fed_not_made c.args.kernel.now c.step_begin.new.self (moves.Begin c.args.role c.args.key) c.in_ok-answer.answer c.room_at.new.queues c.is_run.ensures.run (sym c.is_done.ensures ∙ c.if-not-is_done.true) c.step_begin.ensures.scenario c.in_ok-answer.ensures.leaves
    (roomed c.args.kernel.now c.args.queues.now c.room_at.new.queues c.room_at.ensures.rows c.requires)
