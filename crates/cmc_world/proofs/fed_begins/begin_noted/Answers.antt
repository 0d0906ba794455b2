use Rattle.std.proofs.Common.{sym, ◌∙◌}
use Rattle.cmc_moves.specs.declared.moves.Move.TheVariants as moves
use Rattle.cmc_world.proofs.BeginsFed.{fit_due, fit_queued, fit_room, idle_fed, idle_fits}
use Rattle.cmc_world.proofs.Feeding.{fed_not_made, fed_same}
use Rattle.cmc_world.proofs.fed_begins.begin_noted.Goals as goal

pub begin_due-requires-clause-free : goal.begin_due-requires-clause-free
begin_due-requires-clause-free c = (idle_fits c.args.kernel.now c.args.role c.args.key c.args.queues.now c.is_run.ensures.run c.requires.fed c.requires.running c.requires.free c.requires.nothing).may.idle

pub begin_due-requires-clause-due : goal.begin_due-requires-clause-due
begin_due-requires-clause-due c = fit_due c.args.kernel.now c.args.role c.args.key c.args.seen c.requires.sees (idle_fits c.args.kernel.now c.args.role c.args.key c.args.queues.now c.is_run.ensures.run c.requires.fed c.requires.running c.requires.free c.requires.nothing)

pub begin_due-requires-clause-queued : goal.begin_due-requires-clause-queued
begin_due-requires-clause-queued c = fit_queued c.args.kernel.now c.args.role c.args.key (idle_fits c.args.kernel.now c.args.role c.args.key c.args.queues.now c.is_run.ensures.run c.requires.fed c.requires.running c.requires.free c.requires.nothing)

pub begun-requires-clause-row : goal.begun-requires-clause-row
begun-requires-clause-row c = fit_room c.args.kernel.now c.args.role c.args.key c.in_ok-own.own c.args.queues.now c.in_ok-own.ensures c.requires.fed (idle_fits c.args.kernel.now c.args.role c.args.key c.args.queues.now c.is_run.ensures.run c.requires.fed c.requires.running c.requires.free c.requires.nothing)

pub returns-in_err-answer-clause-fed : goal.returns-in_err-answer-clause-fed
returns-in_err-answer-clause-fed c = fed_same c.args.kernel.now c.begin_due.new.self c.args.queues.now c.in_err-answer.ensures.err c.requires.fed

pub returns-then-not-is_done-clause-fed : goal.returns-then-not-is_done-clause-fed
returns-then-not-is_done-clause-fed c =
    fed_not_made c.args.kernel.now c.begin_due.new.self (moves.Begin c.args.role c.args.key) c.in_ok-answer.answer c.args.queues.now c.is_run.ensures.run (sym c.is_done.ensures ∙ c.if-not-is_done.true) c.begin_due.ensures.scenario c.in_ok-answer.ensures.leaves c.requires.fed

pub returns-clause-fed : goal.returns-clause-fed
returns-clause-fed c =
    idle_fed c.args.kernel.now c.begin_due.new.self c.args.role c.args.key c.in_ok-own.own c.args.queues.now c.begun.new.self c.in_ok-answer.answer c.in_ok-own.ensures c.is_run.ensures.run c.begin_due.ensures.run c.begin_due.ensures.scenario c.in_ok-answer.ensures.leaves
    (sym c.is_done.ensures ∙ c.if-not-is_done.false) c.requires.running c.requires.free c.requires.nothing c.begun.ensures.rows c.begun.ensures.others c.requires.fed
