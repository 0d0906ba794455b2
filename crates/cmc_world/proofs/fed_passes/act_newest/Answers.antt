use Rattle.std.proofs.Common.{ℕ, subst, sym}
use Rattle.std.proofs.lemmas.Result.{IfOk-weaker}
use Rattle.cmc_moves.specs.Prospects.{IsFirstAct}
use Rattle.cmc_setup.specs.Setups.{IsSetup}
use Rattle.cmc_kernel.specs.Kept.{setting_of}
use Rattle.cmc_world.proofs.Going.{open_present}
use Rattle.cmc_world.proofs.KeptActs.{acts_next}
use Rattle.cmc_world.proofs.fed_passes.act_newest.Goals as goal

pub act_first-requires-clause-first : goal.act_first-requires-clause-first
act_first-requires-clause-first c = subst (λ (n : ℕ). IsFirstAct (setting_of c.args.kernel.now.scenario) c.args.kernel.now.history n c.args.does) (sym c.requires.newest.newest) c.requires.first

pub returns-clause-answer : goal.returns-clause-answer
returns-clause-answer c =
    let u = c.args.kernel.now.scenario in
    let h = c.args.kernel.now.history in
    let orderly = (subst IsSetup c.scenario.ensures c.events-events.ensures.setup).orderly in
    let first = subst (λ (n : ℕ). IsFirstAct (setting_of u) h n c.args.does) (sym c.requires.newest.newest) c.requires.first in
    IfOk-weaker c.act_first.result _ _ (λ answer is. acts_next (setting_of u) h c.args.pass c.args.incarnation c.args.does answer (open_present u h orderly c.is_run.ensures.run) c.requires.newest.present first is) c.act_first.ensures.answer

pub returns-clause-leaves : goal.returns-clause-leaves
returns-clause-leaves c = IfOk-weaker c.act_first.result _ _ (λ answer is. is c.args.incarnation) c.act_first.ensures.leaves
