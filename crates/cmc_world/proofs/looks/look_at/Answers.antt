use Rattle.cmc_kernel.specs.Kept.{setting_of}
use Rattle.cmc_world.proofs.Looking.{fresh_free}
use Rattle.cmc_world.proofs.looks.look_at.Goals as goal

pub see-requires-clause-free : goal.see-requires-clause-free
see-requires-clause-free c = fresh_free (setting_of c.args.kernel.now.scenario) c.args.kernel.now.history c.args.role c.args.key.now c.args.queues.now c.requires.fed c.requires.fresh
