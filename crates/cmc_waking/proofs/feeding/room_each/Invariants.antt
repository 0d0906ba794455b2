use Rattle.std.proofs.Common.{◌≡◌, take}
use Rattle.cmc_meta.specs.declared.key.Key.{Key}
use Rattle.cmc_queue.specs.Queues.{row_of, KeepsRoom}
use Rattle.cmc_waking.specs.Queues.{HasRooms}
use Rattle.cmc_waking.proofs.feeding.room_each.Given as goal

abbrev pub invariant-loop-key : goal.invariant-loop-key
invariant-loop-key l = record {
  made : HasRooms (take l.key-index l.keys) l.queue;
  rows : (k : Key) → row_of l.queue k ≡ row_of l.fn.queue k;
  room : KeepsRoom l.fn.queue l.queue;
}
