use Rattle.std.proofs.Common.{sym, ◌∙◌}
use Rattle.cmc_rules.specs.Memory.{with_own}
use Rattle.cmc_held.proofs.RowsOfPasts.{past_changed, ready_in_row, room_kept, row_here}
use Rattle.cmc_held.proofs.role_memories.RoleMemories.wrote.Goals as goal

pub wrote-requires : goal.wrote-requires
wrote-requires c = sym (ready_in_row c.self.inside.rows.items c.rank.result c.args.role c.index_mut.result.now c.args.key.now (row_here c.self.inside.rows.items c.rank.result c.args.role c.index_mut.result.now c.self.invariant c.rank.ensures c.index_mut.ensures.value)) ∙ rw c.self.view_is c.requires

pub returns-clause-past : goal.returns-clause-past
returns-clause-past c = rw (← c.self.view_is) (past_changed (with_own c.args.kind c.args.version) c.self.inside.rows.items c.rank.result c.args.role c.index_mut.result.now c.wrote.new.self c.args.key.now (row_here c.self.inside.rows.items c.rank.result c.args.role c.index_mut.result.now c.self.invariant c.rank.ensures c.index_mut.ensures.value) c.wrote.ensures.past)

pub returns-clause-room : goal.returns-clause-room
returns-clause-room c = rw (← c.self.view_is) (room_kept c.self.inside.rows.items c.rank.result c.args.role c.index_mut.result.now c.wrote.new.self (row_here c.self.inside.rows.items c.rank.result c.args.role c.index_mut.result.now c.self.invariant c.rank.ensures c.index_mut.ensures.value) c.wrote.ensures.room)
