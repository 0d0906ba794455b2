use Rattle.cmc_kernel.specs.Kept.{setting_of}
use Rattle.cmc_world.proofs.Undue.{views_dated}
use Rattle.cmc_world.proofs.fed_begins.dated_views.Goals as goal

pub returns-clause-dated : goal.returns-clause-dated
returns-clause-dated c =
    views_dated (setting_of c.args.kernel.now.scenario) c.args.kernel.now.history c.args.role c.args.key.now c.views.result c.is_formed.ensures c.is_run.ensures.run (c.can_act.ensures c.args.role c.args.key.now).dated c.views.ensures
