use Rattle.std.proofs.Common.{sym, ◌∙◌}
use Rattle.cmc_moves.specs.declared.moves.Move.TheVariants as moves
use Rattle.cmc_world.proofs.BeginsFed.{due_fits, fit_room, begun_done, roomed}
use Rattle.cmc_world.proofs.Feeding.{fed_not_made, fed_same}
use Rattle.cmc_world.proofs.fed_begins.begin_due.Goals as goal

pub returns-in_err-place_at-clause-fed : goal.returns-in_err-place_at-clause-fed
returns-in_err-place_at-clause-fed c = roomed c.args.kernel.now c.args.queues.now c.place_at.new.queues c.place_at.ensures.rows c.requires.fed

pub returns-in_err-answer-clause-fed : goal.returns-in_err-answer-clause-fed
returns-in_err-answer-clause-fed c = fed_same c.args.kernel.now c.begin_due.new.self c.place_at.new.queues c.in_err-answer.ensures.err (roomed c.args.kernel.now c.args.queues.now c.place_at.new.queues c.place_at.ensures.rows c.requires.fed)

pub returns-clause-fed : goal.returns-clause-fed
returns-clause-fed c =
    begun_done c.args.kernel.now c.begin_due.new.self c.args.role c.args.key c.in_ok-own.own c.args.seen c.next_due-next.result c.args.queues.now c.place_at.new.queues c.begun.new.self c.in_ok-answer.answer c.in_ok-own.ensures
    c.begin_due.ensures.run c.begin_due.ensures.scenario c.in_ok-answer.ensures.answer c.in_ok-answer.ensures.leaves (sym c.is_done.ensures ∙ c.if-not-is_done.false) c.requires.sees c.next_due-next.ensures c.place_at.ensures.rows c.begun.ensures.rows c.begun.ensures.others c.requires.fed

pub returns-then-not-is_done-clause-fed : goal.returns-then-not-is_done-clause-fed
returns-then-not-is_done-clause-fed c =
    fed_not_made c.args.kernel.now c.begin_due.new.self (moves.Begin c.args.role c.args.key) c.in_ok-answer.answer c.place_at.new.queues c.is_run.ensures.run (sym c.is_done.ensures ∙ c.if-not-is_done.true) c.begin_due.ensures.scenario c.in_ok-answer.ensures.leaves
    (roomed c.args.kernel.now c.args.queues.now c.place_at.new.queues c.place_at.ensures.rows c.requires.fed)

pub place_at-requires : goal.place_at-requires
place_at-requires c =
    fit_room c.args.kernel.now c.args.role c.args.key c.in_ok-own.own c.args.queues.now c.in_ok-own.ensures c.requires.fed
    (due_fits c.args.kernel.now c.args.role c.args.key c.args.seen c.requires.running c.requires.free c.requires.due c.requires.queued c.requires.sees)
