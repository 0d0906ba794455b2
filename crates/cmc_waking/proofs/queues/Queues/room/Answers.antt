use Rattle.std.proofs.lemmas.Result.{on_ok_weaker}
use Rattle.cmc_waking.specs.Queues.{HasRooms}
use Rattle.cmc_waking.proofs.Eight.{put_new, queue_here, rooms_put, rows_put}
use Rattle.cmc_waking.proofs.queues.Queues.room.Goals as goal

pub returns-clause-made : goal.returns-clause-made
returns-clause-made c = on_ok_weaker c.room_each.result (λ has. put_new (HasRooms c.args.keys.now) c.self.inside.rows.items c.rank.result c.args.role c.index_mut.result.now c.room_each.new.queue (queue_here c.self.inside.rows.items c.rank.result c.args.role c.index_mut.result.now c.self.invariant c.rank.ensures c.index_mut.ensures.value) has) c.room_each.ensures.made

pub returns-clause-rows : goal.returns-clause-rows
returns-clause-rows c = rw (← c.self.view_is) (rows_put c.self.inside.rows.items c.rank.result c.args.role c.index_mut.result.now c.room_each.new.queue (queue_here c.self.inside.rows.items c.rank.result c.args.role c.index_mut.result.now c.self.invariant c.rank.ensures c.index_mut.ensures.value) c.room_each.ensures.rows)

pub returns-clause-room : goal.returns-clause-room
returns-clause-room c = rw (← c.self.view_is) (rooms_put c.self.inside.rows.items c.rank.result c.args.role c.index_mut.result.now c.room_each.new.queue (queue_here c.self.inside.rows.items c.rank.result c.args.role c.index_mut.result.now c.self.invariant c.rank.ensures c.index_mut.ensures.value) c.room_each.ensures.room)
