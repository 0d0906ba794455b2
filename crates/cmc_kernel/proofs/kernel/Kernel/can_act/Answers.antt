use Rattle.cmc_safety.proofs.MayAct.{may_act_views}
use Rattle.cmc_kernel.specs.Kept.{setting_of}
use Rattle.cmc_moves.proofs.Sounds.{each_sound}
use Rattle.cmc_kernel.proofs.kernel.Kernel.can_act.Goals as goal

pub returns : goal.returns
returns c = may_act_views each_sound (setting_of c.args.self.now.scenario) c.args.self.now.history c.is_formed.ensures c.is_run.ensures.run
