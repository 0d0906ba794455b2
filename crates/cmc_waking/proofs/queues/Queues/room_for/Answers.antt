use Rattle.std.proofs.Common.{◌≡◌, true}
use Rattle.std.proofs.lemmas.Result.{on_ok_weaker}
use Rattle.cmc_queue.specs.Queues.{fresh_count, has_room, has_room_for, Work}
use Rattle.cmc_waking.proofs.Eight.{put_new, put_own, queue_here, rooms_put, rows_put}
use Rattle.cmc_waking.proofs.queues.Queues.room_for.Goals as goal

pub returns-clause-made : goal.returns-clause-made
returns-clause-made c = on_ok_weaker c.room_for.result (λ has. put_new (λ (q : Work). has_room q c.args.key.now ≡ true) c.self.inside.rows.items c.rank.result c.args.role c.index_mut.result.now c.room_for.new.self (queue_here c.self.inside.rows.items c.rank.result c.args.role c.index_mut.result.now c.self.invariant c.rank.ensures c.index_mut.ensures.value) has) c.room_for.ensures.made

pub returns-clause-place : goal.returns-clause-place
returns-clause-place c = on_ok_weaker c.room_for.result (λ has. put_new (λ (q : Work). has_room_for q c.args.parked.kind c.args.parked.version c.args.key.now ≡ true) c.self.inside.rows.items c.rank.result c.args.role c.index_mut.result.now c.room_for.new.self (queue_here c.self.inside.rows.items c.rank.result c.args.role c.index_mut.result.now c.self.invariant c.rank.ensures c.index_mut.ensures.value) has) c.room_for.ensures.place

pub returns-clause-rows : goal.returns-clause-rows
returns-clause-rows c = rw (← c.self.view_is) (rows_put c.self.inside.rows.items c.rank.result c.args.role c.index_mut.result.now c.room_for.new.self (queue_here c.self.inside.rows.items c.rank.result c.args.role c.index_mut.result.now c.self.invariant c.rank.ensures c.index_mut.ensures.value) c.room_for.ensures.rows)

pub returns-clause-room : goal.returns-clause-room
returns-clause-room c = rw (← c.self.view_is) (rooms_put c.self.inside.rows.items c.rank.result c.args.role c.index_mut.result.now c.room_for.new.self (queue_here c.self.inside.rows.items c.rank.result c.args.role c.index_mut.result.now c.self.invariant c.rank.ensures c.index_mut.ensures.value) c.room_for.ensures.room)

pub returns-clause-fresh : goal.returns-clause-fresh
returns-clause-fresh c = rw (← c.self.view_is) (put_own (λ (q p : Work). fresh_count p.rows ≡ fresh_count q.rows) c.self.inside.rows.items c.rank.result c.args.role c.index_mut.result.now c.room_for.new.self (queue_here c.self.inside.rows.items c.rank.result c.args.role c.index_mut.result.now c.self.invariant c.rank.ensures c.index_mut.ensures.value) c.room_for.ensures.fresh)
