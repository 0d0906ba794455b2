use Rattle.std.specs.Prelude.{Ok}
use Rattle.cmc_kernel.specs.Kept.{setting_of}
use Rattle.cmc_moves.proofs.Decisions.{leaves_taken}
use Rattle.cmc_kernel.proofs.kernel.Kernel.step_decide.Goals as goal

pub returns-in_ok-answer-in-Does-clause-leaves : goal.returns-in_ok-answer-in-Does-clause-leaves
returns-in_ok-answer-in-Does-clause-leaves c =
    leaves_taken (setting_of c.args.self.now.scenario) c.args.self.now.history c.make_next.new.self.history c.args.pass c.args.named c.args.decided (Ok c.in_ok-answer-in-Does.answer) c.in_ok-answer-in-Does.ensures.leaves
