use Rattle.std.proofs.Common.{rules, sym, w64, ◌∙◌}
use Rattle.std.proofs.lemmas.Int.{to_z-of_z}
use Rattle.cmc_rules.specs.Memory.{with_begin}
use Rattle.cmc_held.proofs.RowsOfPasts.{past_changed, ready_in_row, room_kept, row_here}
use Rattle.cmc_held.proofs.role_memories.RoleMemories.begin.Goals as goal

pub begin-requires : goal.begin-requires
begin-requires c = sym (ready_in_row c.self.inside.rows.items c.rank.result c.args.role c.index_mut.result.now c.args.key.now (row_here c.self.inside.rows.items c.rank.result c.args.role c.index_mut.result.now c.self.invariant c.rank.ensures c.index_mut.ensures.value)) ∙ rw c.self.view_is c.requires

pub returns-clause-past : goal.returns-clause-past
returns-clause-past c = rw (← c.self.view_is) (past_changed (with_begin c.args.seen c.args.since) c.self.inside.rows.items c.rank.result c.args.role c.index_mut.result.now c.begin.new.self c.args.key.now (row_here c.self.inside.rows.items c.rank.result c.args.role c.index_mut.result.now c.self.invariant c.rank.ensures c.index_mut.ensures.value) (simp (to_z-of_z w64 c.args.since (search rules)) at c.begin.ensures.past))

pub returns-clause-room : goal.returns-clause-room
returns-clause-room c = rw (← c.self.view_is) (room_kept c.self.inside.rows.items c.rank.result c.args.role c.index_mut.result.now c.begin.new.self (row_here c.self.inside.rows.items c.rank.result c.args.role c.index_mut.result.now c.self.invariant c.rank.ensures c.index_mut.ensures.value) c.begin.ensures.room)
