use Rattle.cmc_held.proofs.RowsOfPasts.{past_forgotten, room_of_others, row_here}
use Rattle.cmc_held.proofs.role_memories.RoleMemories.start.Goals as goal

pub returns-clause-past : goal.returns-clause-past
returns-clause-past c = rw (← c.self.view_is) (past_forgotten c.self.inside.rows.items c.rank.result c.args.role c.index_mut.result.now c.clear.new.self (row_here c.self.inside.rows.items c.rank.result c.args.role c.index_mut.result.now c.self.invariant c.rank.ensures c.index_mut.ensures.value) c.clear.ensures)

pub returns-clause-room : goal.returns-clause-room
returns-clause-room c = rw (← c.self.view_is) (room_of_others c.self.inside.rows.items c.rank.result c.args.role c.index_mut.result.now c.clear.new.self (row_here c.self.inside.rows.items c.rank.result c.args.role c.index_mut.result.now c.self.invariant c.rank.ensures c.index_mut.ensures.value))
