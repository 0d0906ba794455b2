use Rattle.cmc_kernel.specs.Kept.{setting_of}
use Rattle.cmc_moves.proofs.Decisions.{may_bare}
use Rattle.cmc_kernel.proofs.kernel.Kernel.can_decide.Goals as goal

pub returns : goal.returns
returns c = may_bare (setting_of c.args.self.now.scenario) c.args.self.now.history c.args.pass c.args.current.now c.is_formed.ensures c.is_run.ensures.run c.requires
