use Rattle.cmc_held.proofs.RowsOfPasts.{rows_empty}
use Rattle.cmc_held.proofs.role_memories.RoleMemories.new.Goals as goal

pub returns : goal.returns
returns c = rw c.in_ok-rows.ensures.items (rows_empty _ _ _ _ _ _ _ _ c.new.ensures c.new-2.ensures c.new-3.ensures c.new-4.ensures c.new-5.ensures c.new-6.ensures c.new-7.ensures c.new-8.ensures)
