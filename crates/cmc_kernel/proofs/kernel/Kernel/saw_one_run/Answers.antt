use Rattle.cmc_held.proofs.OneRun.{saw_one_run}
use Rattle.cmc_kernel.specs.Kept.{setting_of}
use Rattle.cmc_kernel.proofs.kernel.Kernel.saw_one_run.Goals as goal

pub returns : goal.returns
returns c = saw_one_run (setting_of c.args.self.now.scenario) c.args.self.now.history c.args.role c.args.key.now c.is_run.ensures.run.legal
