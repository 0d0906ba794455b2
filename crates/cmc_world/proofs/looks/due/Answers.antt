use Rattle.std.proofs.Common.{Some, None, subst}
use Rattle.cmc_rules.specs.Acts.{act}
use Rattle.cmc_rules.specs.Desks.{desk}
use Rattle.cmc_model.specs.Histories.{moment}
use Rattle.cmc_moves.specs.Prospects.{IsProspect}
use Rattle.cmc_moves.specs.declared.acts.Prospect.{Prospect}
use Rattle.cmc_moves.specs.declared.acts.Prospect.TheVariants.{Does, Something}
use Rattle.cmc_pass.specs.declared.pass.Views.{Views}
use Rattle.cmc_kernel.specs.Kept.{setting_of}
use Rattle.cmc_world.proofs.Working.{work_found}
use Rattle.cmc_world.proofs.looks.due.Goals as goal

pub returns-in_ok-opening-in-Does : goal.returns-in_ok-opening-in-Does
returns-in_ok-opening-in-Does c =
    let s = setting_of c.args.kernel.now.scenario in
    let h = c.args.kernel.now.history in
    work_found s h c.args.role c.args.key.now c.args.seen (Some c.in-Does.does) c.in_ok-opening-in-Does.field-0 c.is_run.ensures.run.legal c.requires.sees c.requires.running c.requires.free
    (subst (λ (v : Views). IsProspect c.args.role (act c.args.role v (moment s h) (desk s h c.args.role v)) (Does c.in-Does.does)) c.deref.ensures
    (subst (λ (p : Prospect). IsProspect c.args.role (act c.args.role c.deref.result.now (moment s h) (desk s h c.args.role c.deref.result.now)) p) c.in-Does.is c.in_ok-prospect.ensures)) c.requires.due c.in_ok-opening-in-Does.ensures

pub returns-in_ok-opening-in-Something : goal.returns-in_ok-opening-in-Something
returns-in_ok-opening-in-Something c =
    let s = setting_of c.args.kernel.now.scenario in
    let h = c.args.kernel.now.history in
    work_found s h c.args.role c.args.key.now c.args.seen None c.in_ok-opening-in-Something.field-0 c.is_run.ensures.run.legal c.requires.sees c.requires.running c.requires.free
    (subst (λ (v : Views). IsProspect c.args.role (act c.args.role v (moment s h) (desk s h c.args.role v)) Something) c.deref.ensures
    (subst (λ (p : Prospect). IsProspect c.args.role (act c.args.role c.deref.result.now (moment s h) (desk s h c.args.role c.deref.result.now)) p) c.in-Something.is c.in_ok-prospect.ensures)) c.requires.due c.in_ok-opening-in-Something.ensures
