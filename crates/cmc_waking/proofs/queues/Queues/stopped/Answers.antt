use Rattle.std.proofs.Common.{◌≡◌}
use Rattle.cmc_meta.specs.declared.key.Key.{Key}
use Rattle.cmc_queue.specs.Queues.{row_of, Work}
use Rattle.cmc_queue.specs.Rows.{no_row}
use Rattle.cmc_waking.proofs.Eight.{put_new, put_others, queue_here}
use Rattle.cmc_waking.proofs.queues.Queues.stopped.Goals as goal

pub returns-clause-rows : goal.returns-clause-rows
returns-clause-rows c = put_new (λ (q : Work). (k : Key) → row_of q k ≡ no_row) c.self.inside.rows.items c.rank.result c.args.role c.index_mut.result.now c.seeded.result (queue_here c.self.inside.rows.items c.rank.result c.args.role c.index_mut.result.now c.self.invariant c.rank.ensures c.index_mut.ensures.value) c.seeded.ensures

pub returns-clause-others : goal.returns-clause-others
returns-clause-others c = rw (← c.self.view_is) (put_others c.self.inside.rows.items c.rank.result c.args.role c.index_mut.result.now c.seeded.result (queue_here c.self.inside.rows.items c.rank.result c.args.role c.index_mut.result.now c.self.invariant c.rank.ensures c.index_mut.ensures.value))
