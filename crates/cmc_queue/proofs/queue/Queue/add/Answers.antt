use Rattle.cmc_queue.proofs.Waits.{found_by_adding}
use Rattle.cmc_queue.proofs.queue.Queue.add.Goals as goal

pub invariant_of-self : goal.invariant_of-self
invariant_of-self c = found_by_adding _ c.add_at.new.self c.args.key.now c.self.invariant (c.add_at.ensures.rows c.args.key.now c.in-Some.ensures.at)
