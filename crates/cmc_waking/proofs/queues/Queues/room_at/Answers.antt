use Rattle.std.proofs.Common.{rules, w64, ◌≡◌, true}
use Rattle.std.proofs.lemmas.Int.{to_z-of_z}
use Rattle.std.proofs.lemmas.Result.{on_ok_weaker}
use Rattle.cmc_queue.specs.Queues.{fresh_count, has_room, has_room_at, Work}
use Rattle.cmc_waking.proofs.Eight.{put_new, put_own, queue_here, rooms_put, rows_put}
use Rattle.cmc_waking.proofs.queues.Queues.room_at.Goals as goal

pub returns-clause-made : goal.returns-clause-made
returns-clause-made c = on_ok_weaker c.room_at.result (λ has. put_new (λ (q : Work). has_room q c.args.key.now ≡ true) c.self.inside.rows.items c.rank.result c.args.role c.index_mut.result.now c.room_at.new.self (queue_here c.self.inside.rows.items c.rank.result c.args.role c.index_mut.result.now c.self.invariant c.rank.ensures c.index_mut.ensures.value) has) c.room_at.ensures.made

pub returns-clause-place : goal.returns-clause-place
returns-clause-place c =
    let same = to_z-of_z w64 c.args.at (search rules) in
    on_ok_weaker c.room_at.result (λ has. put_new (λ (q : Work). has_room_at q c.args.at c.args.key.now ≡ true) c.self.inside.rows.items c.rank.result c.args.role c.index_mut.result.now c.room_at.new.self (queue_here c.self.inside.rows.items c.rank.result c.args.role c.index_mut.result.now c.self.invariant c.rank.ensures c.index_mut.ensures.value) has) (simp same at c.room_at.ensures.place)

pub returns-clause-rows : goal.returns-clause-rows
returns-clause-rows c = rw (← c.self.view_is) (rows_put c.self.inside.rows.items c.rank.result c.args.role c.index_mut.result.now c.room_at.new.self (queue_here c.self.inside.rows.items c.rank.result c.args.role c.index_mut.result.now c.self.invariant c.rank.ensures c.index_mut.ensures.value) c.room_at.ensures.rows)

pub returns-clause-room : goal.returns-clause-room
returns-clause-room c = rw (← c.self.view_is) (rooms_put c.self.inside.rows.items c.rank.result c.args.role c.index_mut.result.now c.room_at.new.self (queue_here c.self.inside.rows.items c.rank.result c.args.role c.index_mut.result.now c.self.invariant c.rank.ensures c.index_mut.ensures.value) c.room_at.ensures.room)

pub returns-clause-fresh : goal.returns-clause-fresh
returns-clause-fresh c = rw (← c.self.view_is) (put_own (λ (q p : Work). fresh_count p.rows ≡ fresh_count q.rows) c.self.inside.rows.items c.rank.result c.args.role c.index_mut.result.now c.room_at.new.self (queue_here c.self.inside.rows.items c.rank.result c.args.role c.index_mut.result.now c.self.invariant c.rank.ensures c.index_mut.ensures.value) c.room_at.ensures.fresh)
