use Rattle.std.proofs.Common.{◌≡◌, true}
use Rattle.std.proofs.lemmas.Result.{on_ok_weaker}
use Rattle.cmc_queue.specs.Queues.{fresh_count, has_room, has_room_to_find, Work}
use Rattle.cmc_waking.proofs.Eight.{put_new, put_own, queue_here, rooms_put, rows_put}
use Rattle.cmc_waking.proofs.queues.Queues.room_to_find.Goals as goal

pub returns-clause-made : goal.returns-clause-made
returns-clause-made c = on_ok_weaker c.room_to_find.result (λ has. put_new (λ (q : Work). has_room q c.args.key.now ≡ true) c.self.inside.rows.items c.rank.result c.args.role c.index_mut.result.now c.room_to_find.new.self (queue_here c.self.inside.rows.items c.rank.result c.args.role c.index_mut.result.now c.self.invariant c.rank.ensures c.index_mut.ensures.value) has) c.room_to_find.ensures.made

pub returns-clause-place : goal.returns-clause-place
returns-clause-place c = on_ok_weaker c.room_to_find.result (λ has. put_new (λ (q : Work). has_room_to_find q c.args.key.now ≡ true) c.self.inside.rows.items c.rank.result c.args.role c.index_mut.result.now c.room_to_find.new.self (queue_here c.self.inside.rows.items c.rank.result c.args.role c.index_mut.result.now c.self.invariant c.rank.ensures c.index_mut.ensures.value) has) c.room_to_find.ensures.place

pub returns-clause-rows : goal.returns-clause-rows
returns-clause-rows c = rw (← c.self.view_is) (rows_put c.self.inside.rows.items c.rank.result c.args.role c.index_mut.result.now c.room_to_find.new.self (queue_here c.self.inside.rows.items c.rank.result c.args.role c.index_mut.result.now c.self.invariant c.rank.ensures c.index_mut.ensures.value) c.room_to_find.ensures.rows)

pub returns-clause-room : goal.returns-clause-room
returns-clause-room c = rw (← c.self.view_is) (rooms_put c.self.inside.rows.items c.rank.result c.args.role c.index_mut.result.now c.room_to_find.new.self (queue_here c.self.inside.rows.items c.rank.result c.args.role c.index_mut.result.now c.self.invariant c.rank.ensures c.index_mut.ensures.value) c.room_to_find.ensures.room)

pub returns-clause-fresh : goal.returns-clause-fresh
returns-clause-fresh c = rw (← c.self.view_is) (put_own (λ (q p : Work). fresh_count p.rows ≡ fresh_count q.rows) c.self.inside.rows.items c.rank.result c.args.role c.index_mut.result.now c.room_to_find.new.self (queue_here c.self.inside.rows.items c.rank.result c.args.role c.index_mut.result.now c.self.invariant c.rank.ensures c.index_mut.ensures.value) c.room_to_find.ensures.fresh)
