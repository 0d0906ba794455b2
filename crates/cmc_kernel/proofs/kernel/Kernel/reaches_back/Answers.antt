use Rattle.std.proofs.Common.{◌∙◌, ◌≤◌, ◌+◌, List, ap, length, subst}
use Rattle.std.specs.Prelude.{◌↔◌, IsTrue}
use Rattle.cmc_model.specs.declared.write.Write.{Write}
use Rattle.cmc_model.specs.Histories.{accepted}
use Rattle.cmc_rules.specs.Positions.{position}
use Rattle.cmc_kernel.specs.Kept.{Seen, on}
use Rattle.cmc_kernel.proofs.Judging.{reached}
use Rattle.cmc_kernel.proofs.kernel.Kernel.reaches_back.Goals as goal

pub returns : goal.returns
returns c =
    subst (λ (v : Seen). IsTrue c.reaches.result ↔ (on accepted v ≤ position v.history c.args.role c.args.kind + v.scenario.window)) c.self.view_is
    (reached _ _ _ c.args.role c.args.kind c.get.result c.told_of-position.result c.accepted.result c.window.result c.reaches.result c.self.invariant c.get.ensures c.told_of-position.ensures (c.accepted.ensures ∙ ap (λ (ws : List Write). length ws) c.log.ensures.writes) c.window.ensures c.reaches.ensures)
