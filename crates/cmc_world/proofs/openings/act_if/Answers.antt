use Rattle.std.proofs.Common.{ℕ, Option, sym, subst}
use Rattle.std.specs.Prelude.{IfSome}
use Rattle.cmc_pass.specs.declared.pass.Act.{Act}
use Rattle.cmc_rules.specs.Origins.{begun}
use Rattle.cmc_moves.specs.Prospects.{IsFirstAct}
use Rattle.cmc_kernel.specs.Kept.{setting_of}
use Rattle.cmc_world.proofs.openings.act_if.Goals as goal

pub act_first-requires-clause-first : goal.act_first-requires-clause-first
act_first-requires-clause-first c =
    let s = setting_of c.args.kernel.now.scenario in
    let h = c.args.kernel.now.history in
    subst (λ (n : ℕ). IsFirstAct s h n c.in-Some.does) (sym c.passes_begun-pass.ensures)
    (subst (λ (o : Option Act). IfSome o (IsFirstAct s h (begun s h))) c.in-Some.is (c.requires.first c.if-not-begun.false))
