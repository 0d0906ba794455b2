use Rattle.cmc_world.proofs.KeptOver.{told_by_answer}
use Rattle.cmc_world.proofs.world.World.step_deliver.Goals as goal

pub invariant_of-self : goal.invariant_of-self
invariant_of-self c = (
  c.deliver.ensures.fed,
  told_by_answer c.self.inside.kernel c.deliver.new.kernel c.args.role c.args.kind c.args.to c.deliver.result c.self.inside.kept c.forget_told.new.self c.deliver.ensures.scenario c.deliver.ensures.leaves c.deliver.ensures.err c.self.invariant.1
      c.forget_told.ensures.below c.forget_told.ensures.told c.forget_told.ensures.act c.forget_told.ensures.looked,
)
