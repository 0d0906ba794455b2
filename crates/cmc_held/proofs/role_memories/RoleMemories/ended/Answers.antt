use Rattle.cmc_rules.specs.Memory.{with_ending}
use Rattle.cmc_held.proofs.RowsOfPasts.{past_changed, room_kept, row_here}
use Rattle.cmc_held.proofs.role_memories.RoleMemories.ended.Goals as goal

pub returns-clause-past : goal.returns-clause-past
returns-clause-past c = rw (← c.self.view_is) (past_changed (with_ending c.args.ending) c.self.inside.rows.items c.rank.result c.args.role c.index_mut.result.now c.ended.new.self c.args.key.now (row_here c.self.inside.rows.items c.rank.result c.args.role c.index_mut.result.now c.self.invariant c.rank.ensures c.index_mut.ensures.value) c.ended.ensures.past)

pub returns-clause-room : goal.returns-clause-room
returns-clause-room c = rw (← c.self.view_is) (room_kept c.self.inside.rows.items c.rank.result c.args.role c.index_mut.result.now c.ended.new.self (row_here c.self.inside.rows.items c.rank.result c.args.role c.index_mut.result.now c.self.invariant c.rank.ensures c.index_mut.ensures.value) c.ended.ensures.room)
