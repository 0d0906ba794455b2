use Rattle.cmc_held.proofs.RowsOfPasts.{past_same, ready_in_new, room_kept, row_here}
use Rattle.cmc_held.proofs.role_memories.RoleMemories.ready.Goals as goal

pub returns-clause-room : goal.returns-clause-room
returns-clause-room c = rw (ready_in_new c.self.inside.rows.items c.rank.result c.args.role c.index_mut.result.now c.ready.new.self c.args.key.now (row_here c.self.inside.rows.items c.rank.result c.args.role c.index_mut.result.now c.self.invariant c.rank.ensures c.index_mut.ensures.value)) c.ready.ensures.room

pub returns-clause-same : goal.returns-clause-same
returns-clause-same c = rw (← c.self.view_is) (past_same c.self.inside.rows.items c.rank.result c.args.role c.index_mut.result.now c.ready.new.self (row_here c.self.inside.rows.items c.rank.result c.args.role c.index_mut.result.now c.self.invariant c.rank.ensures c.index_mut.ensures.value) c.ready.ensures.same)

pub returns-clause-keeps : goal.returns-clause-keeps
returns-clause-keeps c = rw (← c.self.view_is) (room_kept c.self.inside.rows.items c.rank.result c.args.role c.index_mut.result.now c.ready.new.self (row_here c.self.inside.rows.items c.rank.result c.args.role c.index_mut.result.now c.self.invariant c.rank.ensures c.index_mut.ensures.value) c.ready.ensures.keeps)
