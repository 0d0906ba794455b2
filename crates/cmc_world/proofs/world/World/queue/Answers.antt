use Rattle.cmc_world.proofs.Telling.{queue_finds, queue_wakes, queue_work, queue_works}
use Rattle.cmc_world.proofs.world.World.queue.Goals as goal

pub returns-clause-wakes : goal.returns-clause-wakes
returns-clause-wakes c = rw (← c.self.view_is) (queue_wakes c.self.inside.kernel c.args.role c.self.inside.queues c.queue.result.now c.queue.ensures c.self.invariant.0)

pub returns-clause-finds : goal.returns-clause-finds
returns-clause-finds c = rw (← c.self.view_is) (queue_finds c.self.inside.kernel c.args.role c.self.inside.queues c.queue.result.now c.queue.ensures c.self.invariant.0)

pub returns-clause-working : goal.returns-clause-working
returns-clause-working c = rw (← c.self.view_is) (queue_works c.self.inside.kernel c.args.role c.self.inside.queues c.queue.result.now c.queue.ensures c.self.invariant.0)

pub returns-clause-work : goal.returns-clause-work
returns-clause-work c = (queue_work c.self.inside.kernel c.args.role c.self.inside.queues c.queue.result.now c.queue.ensures c.self.invariant.0)
