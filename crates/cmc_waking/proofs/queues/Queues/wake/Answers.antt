use Rattle.std.proofs.Common.{◌≡◌}
use Rattle.std.proofs.lemmas.Result.{on_ok_weaker}
use Rattle.cmc_meta.specs.declared.key.Key.{Key}
use Rattle.cmc_caches.specs.Affected.{is_among}
use Rattle.cmc_queue.specs.Queues.{row_of, Work}
use Rattle.cmc_waking.specs.Feeds.{added_if}
use Rattle.cmc_waking.specs.Queues.{WakesSome}
use Rattle.cmc_waking.proofs.Eight.{put_others, put_own, queue_here}
use Rattle.cmc_waking.proofs.queues.Queues.wake.Goals as goal

pub returns-clause-rows : goal.returns-clause-rows
returns-clause-rows c = rw (← c.self.view_is) (on_ok_weaker c.wake_each.result (λ woken. put_own (λ (q p : Work). (k : Key) → row_of p k ≡ added_if (is_among c.args.keys.now k) (row_of q k)) c.self.inside.rows.items c.rank.result c.args.role c.index_mut.result.now c.wake_each.new.queue (queue_here c.self.inside.rows.items c.rank.result c.args.role c.index_mut.result.now c.self.invariant c.rank.ensures c.index_mut.ensures.value) woken) c.wake_each.ensures.rows)

pub returns-clause-some : goal.returns-clause-some
returns-clause-some c = rw (← c.self.view_is) (put_own (WakesSome c.args.keys.now) c.self.inside.rows.items c.rank.result c.args.role c.index_mut.result.now c.wake_each.new.queue (queue_here c.self.inside.rows.items c.rank.result c.args.role c.index_mut.result.now c.self.invariant c.rank.ensures c.index_mut.ensures.value) c.wake_each.ensures.some)

pub returns-clause-others : goal.returns-clause-others
returns-clause-others c = rw (← c.self.view_is) (put_others c.self.inside.rows.items c.rank.result c.args.role c.index_mut.result.now c.wake_each.new.queue (queue_here c.self.inside.rows.items c.rank.result c.args.role c.index_mut.result.now c.self.invariant c.rank.ensures c.index_mut.ensures.value))
