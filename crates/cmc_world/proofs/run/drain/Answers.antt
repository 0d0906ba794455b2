use Rattle.std.proofs.Common.{ap, arith, subst}
use Rattle.cmc_rules.specs.Runs.{IsFinished, IsRun}
use Rattle.cmc_setup.specs.Setups.{Setup}
use Rattle.cmc_kernel.specs.Kept.{Seen, on, setting_of}
use Rattle.cmc_world.specs.declared.run.Turn.{Turn}
use Rattle.cmc_world.specs.Turns.{IsTurn}
use Rattle.cmc_world.specs.Histories.{IsFull}
use Rattle.cmc_world.proofs.Turns.{driving_on, ended_from}
use Rattle.cmc_world.proofs.run.drain.Goals as goal
use Rattle.cmc_world.proofs.run.drain.Goals.{else-loop-turn-test, then-loop-turn-test+in_ok-take_turn+in-On+else-turn-events}

pub loop-turn-preserved : goal.loop-turn-preserved
loop-turn-preserved g c =
    driving_on c.args.world c.loop-turn.world c.take_turn.new.world c.loop-turn._turn c.loop-turn.invariant c.in_ok-take_turn.ensures.scenario
    (subst (λ (t : Turn). IsTurn (setting_of c.loop-turn.world.scenario) c.loop-turn.world.history c.take_turn.new.world.history t) c.in-On.is c.in_ok-take_turn.ensures.turn)

pub returns-in-Spent : goal.returns-in-Spent
returns-in-Spent g c =
    let t = subst (λ (u : Turn). IsTurn (setting_of c.loop-turn.world.scenario) c.loop-turn.world.history c.take_turn.new.world.history u) c.in-Spent.is c.in_ok-take_turn.ensures.turn in
    ended_from IsFull c.args.world c.loop-turn.world c.take_turn.new.world c.loop-turn._turn c.loop-turn.invariant c.in_ok-take_turn.ensures.scenario t.0 t.1

pub returns-in-Finished : goal.returns-in-Finished
returns-in-Finished g c =
    let t = subst (λ (u : Turn). IsTurn (setting_of c.loop-turn.world.scenario) c.loop-turn.world.history c.take_turn.new.world.history u) c.in-Finished.is c.in_ok-take_turn.ensures.turn in
    ended_from IsFinished c.args.world c.loop-turn.world c.take_turn.new.world c.loop-turn._turn c.loop-turn.invariant c.in_ok-take_turn.ensures.scenario t.0 t.1

-- each turn adds an entry, and there are more turns than entries that fit
pub unreachable-requires : goal.unreachable-requires
unreachable-requires g c = elim c.loop-turn-test.branch [
  | else-loop-turn-test w ↦ omega (arith, w.loop-turn-test.false, c.loop-turn.auto._turn-end)
  | then-loop-turn-test+in_ok-take_turn+in-On+else-turn-events w ↦
      let next = driving_on c.args.world c.loop-turn.world w.take_turn.new.world c.loop-turn._turn c.loop-turn.invariant w.in_ok-take_turn.ensures.scenario
      (subst (λ (t : Turn). IsTurn (setting_of c.loop-turn.world.scenario) c.loop-turn.world.history w.take_turn.new.world.history t) w.in-On.is w.in_ok-take_turn.ensures.turn) in
      let run : on IsRun w.take_turn.new.world = subst (λ (v : Seen). on IsRun v) w.world-is c.is_run.ensures.run in
      omega (arith, w.if-turn-events.false, next.long, run.short, ap (λ (u : Setup). u.events) next.same, c.events-events.ensures.value, ap (λ (u : Setup). u.events) c.scenario.ensures)
]
