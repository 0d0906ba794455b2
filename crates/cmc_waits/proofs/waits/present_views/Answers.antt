use Rattle.cmc_objects.specs.declared.role.Role.TheVariants.{Issuing}
use Rattle.cmc_caches.specs.Posted.{caches_of}
use Rattle.cmc_kernel.specs.Kept.{setting_of}
use Rattle.cmc_waits.proofs.AllReady.{seen_of_all, dated_of_all}
use Rattle.cmc_waits.proofs.waits.present_views.Goals as goal

pub returns-clause-same : goal.returns-clause-same
returns-clause-same c =
    seen_of_all (setting_of c.args.kernel.now.scenario) c.args.kernel.now.history c.args.key.now (caches_of c.args.all.now Issuing) c.views.result c.is_run.ensures.run.legal c.requires c.views.ensures

pub returns-clause-dated : goal.returns-clause-dated
returns-clause-dated c =
    dated_of_all (setting_of c.args.kernel.now.scenario) c.args.kernel.now.history c.args.key.now (caches_of c.args.all.now Issuing) c.views.result c.is_run.ensures.run.legal c.is_run.ensures.order c.requires c.views.ensures
