use Rattle.std.proofs.Common.{◌∙◌, sym, subst}
use Rattle.cmc_moves.specs.Answers.{Leaves}
use Rattle.cmc_moves.specs.declared.moves.Move.TheVariants as moves
use Rattle.cmc_moves.specs.declared.moves.Stepped.{Stepped}
use Rattle.cmc_moves.proofs.Tables.{the_done}
use Rattle.cmc_setup.specs.Setups.{IsSetup}
use Rattle.cmc_kernel.specs.Kept.{on, setting_of}
use Rattle.cmc_world.proofs.Awaiting.{ready_next}
use Rattle.cmc_world.proofs.Feeding.{fed_not_made, fed_same, to_turn}
use Rattle.cmc_world.proofs.fed_scripts.script.Goals as goal

pub perform-requires : goal.perform-requires
perform-requires c = ready_next (setting_of c.args.kernel.now.scenario) c.args.kernel.now.history c.args.ready c.requires.ready

pub turn-requires : goal.turn-requires
turn-requires c =
    to_turn c.args.kernel.now c.perform.new.self c.in_ok-ahead.ahead c.args.queues.now (subst IsSetup c.scenario.ensures c.events-events.ensures.setup).orderly c.is_run.ensures.run c.perform.ensures.run c.perform.ensures.scenario
    (subst (λ (a : Stepped). on Leaves c.args.kernel.now moves.Script a c.perform.new.self.history) (the_done c.in_ok-answer.answer (sym c.is_done.ensures ∙ c.if-not-is_done.false)) c.in_ok-answer.ensures.leaves) c.in_ok-ahead.ensures c.requires.fed

pub returns-in_err-answer-clause-fed : goal.returns-in_err-answer-clause-fed
returns-in_err-answer-clause-fed c = fed_same c.args.kernel.now c.perform.new.self c.args.queues.now c.in_err-answer.ensures.err c.requires.fed

pub returns-then-not-is_done-clause-fed : goal.returns-then-not-is_done-clause-fed
returns-then-not-is_done-clause-fed c =
    fed_not_made c.args.kernel.now c.perform.new.self moves.Script c.in_ok-answer.answer c.args.queues.now c.is_run.ensures.run (sym c.is_done.ensures ∙ c.if-not-is_done.true) c.perform.ensures.scenario c.in_ok-answer.ensures.leaves c.requires.fed
