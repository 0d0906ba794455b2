use Rattle.std.proofs.Common.{◌≡◌, subst}
use Rattle.std.proofs.lemmas.Result.{IfOk-weaker}
use Rattle.std.specs.Prelude.{IfOk}
use Rattle.cmc_rules.specs.Views.{views}
use Rattle.cmc_kernel.specs.Kept.{Seen, on}
use Rattle.cmc_kernel.proofs.Judging.{saw}
use Rattle.cmc_kernel.proofs.kernel.Kernel.own_views.Goals as goal

pub returns : goal.returns
returns c =
    subst (λ (v : Seen). IfOk c.views.result (λ seen. seen ≡ on views v c.args.role c.args.key.now)) c.self.view_is
    (IfOk-weaker c.views.result _ _ (λ seen is. saw _ _ _ c.args.role c.args.key.now seen c.self.invariant is) c.views.ensures)
