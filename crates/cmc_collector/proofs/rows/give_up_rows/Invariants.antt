use Rattle.std.proofs.Common.{◌≡◌, true}
use Rattle.cmc_meta.specs.declared.key.Key.{Key}
use Rattle.cmc_collector.specs.Caches.{informer_object}
use Rattle.cmc_collector.specs.CachePositions.{has_any_owner}
use Rattle.cmc_collector.specs.Rows.{has_examine_row, examination_under}
use Rattle.cmc_collector.proofs.rows.give_up_rows.Given as goal

abbrev pub invariant-loop-key : goal.invariant-loop-key
invariant-loop-key l = record {
  same : (k : Key) → examination_under l.rows k ≡ examination_under l.initial.rows k;
  keeps : (k : Key) → has_any_owner (informer_object l.caches k) ≡ true → has_examine_row l.initial.rows k ≡ true → has_examine_row l.rows k ≡ true;
}
