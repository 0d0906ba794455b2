use Rattle.std.proofs.Common.{◌≡◌, ◌⊎◌, ℕ, List, Option, true, sym, subst}
use Rattle.std.specs.Prelude.{IfSome}
use Rattle.cmc_pass.specs.declared.pass.Act.{Act}
use Rattle.cmc_rules.specs.Origins.{begun}
use Rattle.cmc_moves.specs.Prospects.{IsFirstAct}
use Rattle.cmc_kernel.specs.Kept.{on}
use Rattle.cmc_world.specs.KeptLooks.{AreCurrent}
use Rattle.cmc_world.specs.declared.openings.Opening.{Opening}
use Rattle.cmc_world.proofs.KeptOver.{kept_gone, some_only_if, first_only_if}
use Rattle.cmc_world.proofs.world.World.step_next.Goals as goal

pub invariant_of-self-2 : goal.invariant_of-self-2
invariant_of-self-2 c = (
  c.go_kept.ensures.fed,
  kept_gone c.self.inside.kernel c.go_kept.new.kernel c.args.pass c.args.incarnation c.in_ok-answer.answer c.only_if-does.result c.is_idle-idle.result c.self.inside.kept c.forget_gone.new.self c.is_run.ensures.run c.go_kept.ensures.scenario
      c.in_ok-answer.ensures.leaves c.self.invariant.1 c.is_idle-idle.ensures
      (λ some. c.is_newest-newest.ensures (some_only_if c.is_newest-newest.result c.take_act.result c.only_if-does.result c.only_if-does.ensures some))
      (first_only_if (on IsFirstAct c.self.inside.kernel (on begun c.self.inside.kernel)) c.is_newest-newest.result c.take_act.result c.only_if-does.result c.only_if-does.ensures
      (subst (λ (a : Option Act). IfSome a (on IsFirstAct c.self.inside.kernel (on begun c.self.inside.kernel))) (sym c.take_act.ensures.taken) c.self.invariant.1.act))
      (subst (λ (n : ℕ). (c.forget_gone.new.self.told ≡ 0) ⊎ ((c.is_idle-idle.result ≡ true) × (c.forget_gone.new.self.told ≡ n))) c.take_act.ensures.told c.forget_gone.ensures.told) (c.forget_gone.ensures.act c.take_act.ensures.act) c.forget_gone.ensures.asked
      (λ s h all. c.forget_gone.ensures.looked s h (subst (λ (l : List Opening). AreCurrent s h l) (sym c.take_act.ensures.looked) all)),
)

pub returns-clause-answer : goal.returns-clause-answer
returns-clause-answer c = rw (← c.self.view_is) c.in_ok-answer.ensures.answer
