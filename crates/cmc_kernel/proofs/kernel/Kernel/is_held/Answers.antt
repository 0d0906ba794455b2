use Rattle.std.proofs.Common.{◌≡◌, subst}
use Rattle.cmc_rules.specs.Scripts.{held}
use Rattle.cmc_kernel.specs.Kept.{Seen, on}
use Rattle.cmc_kernel.proofs.Judging.{kept_is}
use Rattle.cmc_kernel.proofs.kernel.Kernel.is_held.Goals as goal

pub returns : goal.returns
returns c =
    subst (λ (v : Seen). c.is_held.result ≡ on held v c.args.role c.args.kind) c.self.view_is
    (kept_is _ _ _ c.args.role c.args.kind c.get.result c.is_held.result c.self.invariant c.get.ensures c.is_held.ensures)
