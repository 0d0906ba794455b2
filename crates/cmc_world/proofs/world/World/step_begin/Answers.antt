use Rattle.std.proofs.Common.{List, Option, sym, subst, ◌∙◌}
use Rattle.std.specs.Prelude.{IfSome}
use Rattle.cmc_pass.specs.declared.pass.Act.{Act}
use Rattle.cmc_rules.specs.Origins.{begun}
use Rattle.cmc_moves.specs.Prospects.{IsFirstAct}
use Rattle.cmc_kernel.specs.Kept.{on}
use Rattle.cmc_world.specs.KeptLooks.{AreCurrent}
use Rattle.cmc_world.specs.declared.openings.Opening.{Opening}
use Rattle.cmc_world.proofs.KeptOver.{kept_begun, kept_same}
use Rattle.cmc_world.proofs.world.World.step_begin.Goals as goal

pub invariant_of-self : goal.invariant_of-self
invariant_of-self c = (
  c.begin_kept.ensures.fed,
  kept_same c.self.inside.kernel c.begin_kept.new.kernel c.self.inside.kept c.take_act.new.self c.in_err-answer.ensures.err c.self.invariant.1 (c.take_act.ensures.told ∙ c.take_pass-opening.ensures.told) c.take_act.ensures.act
      (λ s h all. subst (λ (l : List Opening). AreCurrent s h l) (sym c.take_act.ensures.looked) (c.take_pass-opening.ensures.looked s h all)),
)

pub invariant_of-self-2 : goal.invariant_of-self-2
invariant_of-self-2 c = (
  c.begin_kept.ensures.fed,
  kept_begun c.self.inside.kernel c.begin_kept.new.kernel c.args.role c.args.key c.in_ok-answer.answer c.self.inside.kept c.begun.new.self c.begin_kept.ensures.scenario c.in_ok-answer.ensures.leaves c.self.invariant.1
      (c.begun.ensures.told ∙ c.take_act.ensures.told ∙ c.take_pass-opening.ensures.told)
      (λ s h all. subst (λ (l : List Opening). AreCurrent s h l) (sym (c.begun.ensures.looked ∙ c.take_act.ensures.looked)) (c.take_pass-opening.ensures.looked s h all))
      (subst (λ (a : Option Act). IfSome a (on IsFirstAct c.begin_kept.new.kernel (on begun c.begin_kept.new.kernel))) (sym c.begun.ensures.act) c.in_ok-answer.ensures.does),
)

pub returns-clause-answer : goal.returns-clause-answer
returns-clause-answer c = rw (← c.self.view_is) c.in_ok-answer.ensures.answer
