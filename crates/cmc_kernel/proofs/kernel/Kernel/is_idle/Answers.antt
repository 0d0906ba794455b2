use Rattle.std.proofs.Common.{sym, subst, rules, w64, ◌∙◌}
use Rattle.std.proofs.lemmas.Int.{to_z-of_z}
use Rattle.std.specs.Prelude.{◌↔◌, IsTrue, IfOk}
use Rattle.cmc_rules.specs.Rest.{IsIdle}
use Rattle.cmc_rules.specs.Desks.{desk}
use Rattle.cmc_model.specs.Histories.{moment}
use Rattle.cmc_safety.specs.MayAct.{MayAct}
use Rattle.cmc_kernel.specs.Kept.{setting_of, Seen, on}
use Rattle.cmc_kernel.proofs.Idling.{idle_by, on_first_desk}
use Rattle.cmc_kernel.proofs.kernel.Kernel.is_idle.Goals as goal

pub is_idle_of-requires : goal.is_idle_of-requires
is_idle_of-requires c =
    rw (to_z-of_z w64 c.self.inside.moment (search rules), c.self.invariant.held.moment, c.self.invariant.held.desk)
    (on_first_desk (setting_of c.self.inside.scenario) c.args.seen.now _ _ c.self.invariant.held.formed
    (subst (λ (v : Seen). MayAct c.args.seen.now (on moment v) (on desk v c.args.role c.args.seen.now)) (sym c.self.view_is) c.requires))

pub returns : goal.returns
returns c =
    subst (λ (v : Seen). IfOk c.is_idle_of.result (λ b. IsTrue b ↔ on IsIdle v c.args.role c.args.seen.now)) c.self.view_is
    (idle_by (setting_of c.self.inside.scenario) c.self.inside.history.entries c.args.role c.args.seen.now _ _ c.is_idle_of.result
    (to_z-of_z w64 c.self.inside.moment (search rules) ∙ c.self.invariant.held.moment) c.self.invariant.held.desk c.is_idle_of.ensures)
