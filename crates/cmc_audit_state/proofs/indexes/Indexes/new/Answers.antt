use Rattle.cmc_audit_state.proofs.Indexing.{indexed_none}
use Rattle.cmc_audit_state.proofs.indexes.Indexes.new.Goals as goal

pub returns : goal.returns
returns c = indexed_none _ c.new.ensures c.new-3.ensures c.new-4.ensures
