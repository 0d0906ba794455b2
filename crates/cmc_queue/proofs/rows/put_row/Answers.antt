use Rattle.indexmap.proofs.CallerLemmas.{keys-with_value_at, updates-with_value_at}
use Rattle.cmc_queue.proofs.OneRow.{key_eq-laws}
use Rattle.cmc_queue.proofs.RowOrder.{rewritten_by_set}
use Rattle.cmc_queue.proofs.rows.put_row.Goals as goal

pub returns-clause-rewritten : goal.returns-clause-rewritten
returns-clause-rewritten c = let k = c.requires in rewritten_by_set c.args.map.now.entries c.args.at k.0 c.args.was c.args.row k.1

pub returns-clause-keys : goal.returns-clause-keys
returns-clause-keys c = keys-with_value_at c.args.map.now c.args.at c.args.row

pub returns-clause-rows : goal.returns-clause-rows
returns-clause-rows c = λ key is k. (updates-with_value_at c.args.map.now c.args.at c.args.row key_eq-laws c.get_index_mut.ensures.unique key c.args.was is).0 k
