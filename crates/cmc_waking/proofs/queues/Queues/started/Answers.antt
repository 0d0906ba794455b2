use Rattle.cmc_waking.proofs.Eight.{put_is, put_others, queue_here}
use Rattle.cmc_waking.proofs.queues.Queues.started.Goals as goal

pub returns-clause-own : goal.returns-clause-own
returns-clause-own c = put_is c.self.inside.rows.items c.rank.result c.args.role c.index_mut.result.now c.args.queue (queue_here c.self.inside.rows.items c.rank.result c.args.role c.index_mut.result.now c.self.invariant c.rank.ensures c.index_mut.ensures.value)

pub returns-clause-others : goal.returns-clause-others
returns-clause-others c = rw (← c.self.view_is) (put_others c.self.inside.rows.items c.rank.result c.args.role c.index_mut.result.now c.args.queue (queue_here c.self.inside.rows.items c.rank.result c.args.role c.index_mut.result.now c.self.invariant c.rank.ensures c.index_mut.ensures.value))
