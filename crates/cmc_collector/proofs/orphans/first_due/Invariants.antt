use Rattle.cmc_collector.specs.Caches.{informer_object}
use Rattle.cmc_collector.proofs.Firsts.{RowsLeft, due_test}
use Rattle.cmc_collector.proofs.orphans.first_due.Given as goal

abbrev pub invariant-loop-key : goal.invariant-loop-key
invariant-loop-key l = RowsLeft l.rows.entries (due_test l.rows.entries (informer_object l.caches) l.given) l.key-iterator
