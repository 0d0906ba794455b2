use Rattle.std.proofs.Common.{◌∙◌, ap, length, rules, arith, subst}
use Rattle.std.proofs.lemmas.Iterator.Adapters.{YieldsList-from_vec}
use Rattle.std.proofs.lemmas.Iterator.Consumers.{YieldsList-turn, YieldsList-end}
use Rattle.cmc_setup.specs.Setups.{Setup}
use Rattle.cmc_kernel.specs.Kept.{Seen, setting_of}
use Rattle.cmc_kernel.specs.Leads.{IsStep}
use Rattle.cmc_world.proofs.Courses.{led_more, led_all, led_some}
use Rattle.cmc_world.proofs.all_moves.make_all.Goals as goal

pub loop-step-preserved : goal.loop-step-preserved
loop-step-preserved c =
    let t = YieldsList-turn (YieldsList-from_vec c.args.moves.items (search rules) (search rules)) c.loop-step.yielded c.loop-step.step-iterator c.loop-step.yielded_by c.next.result c.next.new.self c.in-Some.step c.in-Some.is c.next.ensures.steps in
    let made = subst (λ (u : Setup). IsStep (setting_of u) c.loop-step.world.history c.in-Some.step c.make_one.new.world.history) c.loop-step.invariant.same c.in_ok-make_one.ensures.made in
    record {
      same = c.in_ok-make_one.ensures.scenario ∙ c.loop-step.invariant.same;
      led = led_more (setting_of c.args.world.now.scenario) c.args.moves.items c.loop-step.yielded c.in-Some.step c.args.world.now.history c.loop-step.world.history c.make_one.new.world.history t c.loop-step.invariant.led made;
    }

pub returns-in_err-make_one-clause-err : goal.returns-in_err-make_one-clause-err
returns-in_err-make_one-clause-err c =
    let some = led_some (setting_of c.args.world.now.scenario) c.args.moves.items (length c.loop-step.yielded) c.args.world.now.history c.loop-step.world.history c.make_one.new.world.history c.loop-step.invariant.led
    (ap (λ (w : Seen). w.history) c.in_err-make_one.ensures.err) in
    search rules

pub returns-clause-leads : goal.returns-clause-leads
returns-clause-leads c =
    let t = YieldsList-end (YieldsList-from_vec c.args.moves.items (search rules) (search rules)) c.loop-step.yielded c.loop-step.step-iterator c.loop-step.yielded_by c.next.result c.next.new.self c.in-None.is c.next.ensures.steps in
    led_all (setting_of c.args.world.now.scenario) c.args.moves.items (length c.loop-step.yielded) c.args.world.now.history c.loop-step.world.history (omega (arith, t.1)) c.loop-step.invariant.led
