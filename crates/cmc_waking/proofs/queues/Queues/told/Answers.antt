use Rattle.std.proofs.Common.{◌≡◌, List, subst, sym}
use Rattle.cmc_meta.specs.declared.key.Key.{Key}
use Rattle.cmc_caches.specs.Affected.{is_among}
use Rattle.cmc_queue.specs.Queues.{row_of, Work}
use Rattle.cmc_waking.specs.Feeds.{row_delivered}
use Rattle.cmc_waking.specs.Queues.{queue_in, HasRooms}
use Rattle.cmc_waking.proofs.Eight.{from_own, put_others, put_own, queue_here}
use Rattle.cmc_waking.proofs.queues.Queues.told.Goals as goal

pub tell-requires : goal.tell-requires
tell-requires c = from_own (HasRooms c.args.keys.now) c.self.inside.rows.items c.rank.result c.args.role c.index_mut.result.now (queue_here c.self.inside.rows.items c.rank.result c.args.role c.index_mut.result.now c.self.invariant c.rank.ensures c.index_mut.ensures.value) (subst (λ (qs : List Work). (HasRooms c.args.keys.now) (queue_in qs c.args.role)) (sym c.self.view_is) c.requires)

pub returns-clause-rows : goal.returns-clause-rows
returns-clause-rows c = rw (← c.self.view_is) (put_own (λ (q p : Work). (k : Key) → row_of p k ≡ row_delivered (is_among c.args.keys.now k) c.args.kind c.args.to (row_of q k)) c.self.inside.rows.items c.rank.result c.args.role c.index_mut.result.now c.tell.new.queue (queue_here c.self.inside.rows.items c.rank.result c.args.role c.index_mut.result.now c.self.invariant c.rank.ensures c.index_mut.ensures.value) c.tell.ensures)

pub returns-clause-others : goal.returns-clause-others
returns-clause-others c = rw (← c.self.view_is) (put_others c.self.inside.rows.items c.rank.result c.args.role c.index_mut.result.now c.tell.new.queue (queue_here c.self.inside.rows.items c.rank.result c.args.role c.index_mut.result.now c.self.invariant c.rank.ensures c.index_mut.ensures.value))
