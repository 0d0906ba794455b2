use Rattle.cmc_queue.specs.Queues.{fresh_count}
use Rattle.cmc_waking.specs.Queues.{queue_in}
use Rattle.cmc_kernel.specs.Kept.{setting_of}
use Rattle.cmc_world.specs.Fed.{IsFed}
use Rattle.cmc_world.specs.KeptLooks.{IsKeptRight}
use Rattle.cmc_world.proofs.begins.first_fit.Given as goal

abbrev pub invariant-loop-key : goal.invariant-loop-key
invariant-loop-key l = IsFed (setting_of l.kernel.scenario) l.kernel.history l.queues × IsKeptRight (setting_of l.kernel.scenario) l.kernel.history l.kept

abbrev pub decreases-loop-key : goal.decreases-loop-key
decreases-loop-key l = fresh_count (queue_in l.queues l.role).rows
