use Rattle.cmc_queue.specs.Rows.{ticked}
use Rattle.cmc_waking.proofs.Eight.{IsGone}
use Rattle.cmc_waking.proofs.queues.Queues.ticked.Given as goal

abbrev pub invariant-loop-queue : goal.invariant-loop-queue
invariant-loop-queue l = IsGone (ticked l.fn.now) l.initial.queue-items l.queue-items l.queue-index
