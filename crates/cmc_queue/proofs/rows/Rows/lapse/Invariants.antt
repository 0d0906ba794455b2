use Rattle.std.proofs.Common.{◌≡◌}
use Rattle.cmc_meta.specs.declared.key.Key.{Key}
use Rattle.cmc_queue.specs.Queues.{found_count}
use Rattle.cmc_queue.specs.Rows.{has_row}
use Rattle.cmc_queue.proofs.Ticking.{AreLapsing}
use Rattle.cmc_queue.proofs.rows.Rows.lapse.Given as goal

abbrev pub invariant-loop-at : goal.invariant-loop-at
invariant-loop-at l = record {
  lapsing : AreLapsing l.initial.self l.self;
  room : (k : Key) → has_row l.self k ≡ has_row l.initial.self k;
}

abbrev pub decreases-loop-at : goal.decreases-loop-at
decreases-loop-at l = found_count l.self
