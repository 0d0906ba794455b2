use Rattle.std.proofs.Common.{◌≡◌, List, subst, sym, true}
use Rattle.cmc_queue.specs.Queues.{has_room, ChangesRow, KeepsRoom, Work}
use Rattle.cmc_waking.specs.Feeds.{closed}
use Rattle.cmc_waking.specs.Parked.{waits_for}
use Rattle.cmc_waking.specs.Queues.{queue_in, HasPlaceFor}
use Rattle.cmc_waking.proofs.Eight.{from_own, put_others, put_own, queue_here}
use Rattle.cmc_waking.proofs.queues.Queues.ended.Goals as goal

pub end-requires-clause-row : goal.end-requires-clause-row
end-requires-clause-row c = from_own (λ (q : Work). has_room q c.args.key.now ≡ true) c.self.inside.rows.items c.rank.result c.args.role c.index_mut.result.now (queue_here c.self.inside.rows.items c.rank.result c.args.role c.index_mut.result.now c.self.invariant c.rank.ensures c.index_mut.ensures.value) (subst (λ (qs : List Work). (λ (q : Work). has_room q c.args.key.now ≡ true) (queue_in qs c.args.role)) (sym c.self.view_is) c.requires.row)

pub end-requires-clause-place : goal.end-requires-clause-place
end-requires-clause-place c = from_own (HasPlaceFor (waits_for c.args.ending c.args.own c.args.at) c.args.key.now) c.self.inside.rows.items c.rank.result c.args.role c.index_mut.result.now (queue_here c.self.inside.rows.items c.rank.result c.args.role c.index_mut.result.now c.self.invariant c.rank.ensures c.index_mut.ensures.value) (subst (λ (qs : List Work). (HasPlaceFor (waits_for c.args.ending c.args.own c.args.at) c.args.key.now) (queue_in qs c.args.role)) (sym c.self.view_is) c.requires.place)

pub returns-clause-rows : goal.returns-clause-rows
returns-clause-rows c = rw (← c.self.view_is) (put_own (ChangesRow (closed c.args.ending c.args.own c.args.at) c.args.key.now) c.self.inside.rows.items c.rank.result c.args.role c.index_mut.result.now c.end.new.queue (queue_here c.self.inside.rows.items c.rank.result c.args.role c.index_mut.result.now c.self.invariant c.rank.ensures c.index_mut.ensures.value) c.end.ensures.rows)

pub returns-clause-others : goal.returns-clause-others
returns-clause-others c = rw (← c.self.view_is) (put_others c.self.inside.rows.items c.rank.result c.args.role c.index_mut.result.now c.end.new.queue (queue_here c.self.inside.rows.items c.rank.result c.args.role c.index_mut.result.now c.self.invariant c.rank.ensures c.index_mut.ensures.value))

pub returns-clause-room : goal.returns-clause-room
returns-clause-room c = rw (← c.self.view_is) (put_own (KeepsRoom) c.self.inside.rows.items c.rank.result c.args.role c.index_mut.result.now c.end.new.queue (queue_here c.self.inside.rows.items c.rank.result c.args.role c.index_mut.result.now c.self.invariant c.rank.ensures c.index_mut.ensures.value) c.end.ensures.room)
