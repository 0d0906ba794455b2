use Rattle.std.proofs.Common.{◌≡◌, take}
use Rattle.cmc_meta.specs.declared.key.Key.{Key}
use Rattle.cmc_queue.specs.Queues.{row_of, KeepsRoom}
use Rattle.cmc_caches.specs.Affected.{is_among}
use Rattle.cmc_waking.specs.Feeds.{added_if}
use Rattle.cmc_waking.proofs.feeding.add_each.Given as goal

abbrev pub invariant-loop-key : goal.invariant-loop-key
invariant-loop-key l = record {
  rows : (k : Key) → row_of l.queue k ≡ added_if (is_among (take l.key-index l.keys) k) (row_of l.fn.queue k);
  room : KeepsRoom l.fn.queue l.queue;
}
