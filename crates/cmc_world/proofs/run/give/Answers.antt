use Rattle.std.proofs.Common.{sym, subst}
use Rattle.cmc_rules.specs.Runs.{IsRun}
use Rattle.cmc_setup.specs.Setups.{Setup, IsSetup}
use Rattle.cmc_kernel.specs.Kept.{setting_of}
use Rattle.cmc_world.specs.declared.run.Turn.{Turn}
use Rattle.cmc_world.specs.Turns.{IsTurn}
use Rattle.cmc_moves.specs.declared.moves.Move.TheVariants as moves
use Rattle.cmc_world.proofs.Asking.{with_value}
use Rattle.cmc_world.proofs.Turns.{turned}
use Rattle.cmc_world.proofs.run.give.Goals as goal

pub returns-clause-turn : goal.returns-clause-turn
returns-clause-turn c =
    let u = c.args.world.now.scenario in
    let h = c.args.world.now.history in
    let k = c.step.new.self.history in
    let run = subst (λ (v : Setup). IsRun (setting_of v) k) c.step.ensures.scenario c.step.ensures.run in
    let setup = subst IsSetup c.scenario.ensures c.events-events.ensures.setup in
    subst (λ (t : Turn). IsTurn (setting_of u) h k t) (sym c.turn_after.ensures)
    (turned u h k (moves.Next c.args.going.pass c.args.going.incarnation) (moves.Give c.args.going.pass c.args.going.incarnation c.args.given) c.in_ok-answer.answer setup.orderly c.is_run.ensures.run c.requires.plain (with_value c.args.going.pass c.args.going.incarnation _ c.args.given c.requires.waits) run c.in_ok-answer.ensures.answer c.in_ok-answer.ensures.leaves)
