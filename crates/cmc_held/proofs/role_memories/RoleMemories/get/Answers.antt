use Rattle.std.proofs.Common.{sym, ◌∙◌}
use Rattle.cmc_held.proofs.RowsOfPasts.{past_in_row, row_here}
use Rattle.cmc_held.proofs.role_memories.RoleMemories.get.Goals as goal

pub returns : goal.returns
returns c = rw (← c.self.view_is) (c.get.ensures ∙ sym (past_in_row c.self.inside.rows.items c.rank.result c.args.role c.index.result.now c.args.key.now (row_here c.self.inside.rows.items c.rank.result c.args.role c.index.result.now c.self.invariant c.rank.ensures c.index.ensures)))
