use Rattle.cmc_world.proofs.Feeding.{fed_new}
use Rattle.cmc_world.proofs.KeptOver.{nothing_kept}
use Rattle.cmc_world.proofs.world.World.seeded.Goals as goal

pub invariant_of-result : goal.invariant_of-result
invariant_of-result c = (
  fed_new c.args.scenario c.in_ok-kernel.kernel c.in_ok-queues.queues c.in_ok-kernel.ensures c.in_ok-queues.ensures,
  nothing_kept c.in_ok-kernel.kernel c.new-2.result c.new-2.ensures.told c.new-2.ensures.act c.new-2.ensures.looked,
)
