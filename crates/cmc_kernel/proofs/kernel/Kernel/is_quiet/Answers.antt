use Rattle.std.proofs.Common.{sym, subst}
use Rattle.cmc_model.specs.Histories.{moment}
use Rattle.cmc_pass.specs.declared.pass.Views.{Views}
use Rattle.cmc_rules.specs.Desks.{desk}
use Rattle.cmc_safety.specs.MayAct.{MayAct}
use Rattle.cmc_kernel.specs.Kept.{setting_of}
use Rattle.cmc_kernel.proofs.kernel.Kernel.is_quiet.Goals as goal

pub is_idle-requires : goal.is_idle-requires
is_idle-requires c =
    let s = setting_of c.args.self.now.scenario in
    let h = c.args.self.now.history in
    subst (λ (v : Views). MayAct v (moment s h) (desk s h c.args.role v)) (sym c.requires) (c.can_act.ensures c.args.role c.args.key.now)
