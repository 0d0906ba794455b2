use Rattle.std.proofs.lemmas.Result.{IfOk-weaker}
use Rattle.cmc_objects.specs.declared.role.Role.TheVariants.{Issuing}
use Rattle.cmc_caches.specs.Posted.{caches_of}
use Rattle.cmc_kernel.specs.Kept.{setting_of}
use Rattle.cmc_waits.proofs.AllReady.{seen_of_all}
use Rattle.cmc_load_tests.proofs.Present.{may_of_all}
use Rattle.cmc_load_tests.proofs.left.present.Goals as goal

pub returns-clause-same : goal.returns-clause-same
returns-clause-same c =
    seen_of_all (setting_of c.args.kernel.now.scenario) c.args.kernel.now.history c.args.key.now (caches_of c.in_ok-all.all Issuing) c.views.result c.is_run.ensures.run.legal c.in_ok-all.ensures c.views.ensures

pub returns-clause-may : goal.returns-clause-may
returns-clause-may c =
    IfOk-weaker c.views.result _ _ (λ seen there. there.may)
    (may_of_all (setting_of c.args.kernel.now.scenario) c.args.kernel.now.history c.args.key.now (caches_of c.in_ok-all.all Issuing) c.views.result c.is_formed.ensures c.is_run.ensures.run c.in_ok-all.ensures c.views.ensures)

pub returns-clause-each : goal.returns-clause-each
returns-clause-each c =
    IfOk-weaker c.views.result _ _ (λ seen there. there.each)
    (may_of_all (setting_of c.args.kernel.now.scenario) c.args.kernel.now.history c.args.key.now (caches_of c.in_ok-all.all Issuing) c.views.result c.is_formed.ensures c.is_run.ensures.run c.in_ok-all.ensures c.views.ensures)
