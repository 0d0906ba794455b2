use Rattle.std.specs.Option.{option_copied}
use Rattle.cmc_queue.specs.Queues.{fresh_count}
use Rattle.cmc_waking.specs.Queues.{queue_in}
use Rattle.cmc_kernel.specs.Kept.{setting_of}
use Rattle.cmc_world.specs.Fed.{IsFed}
use Rattle.cmc_world.specs.KeptLooks.{IsKeptRight}
use Rattle.cmc_world.specs.Searches.{above_looked, IsReached}
use Rattle.cmc_world.proofs.pending.next_pending.Given as goal

abbrev pub invariant-loop-looked : goal.invariant-loop-looked
invariant-loop-looked l =
    IsFed (setting_of l.kernel.scenario) l.kernel.history l.queues
    × IsKeptRight (setting_of l.kernel.scenario) l.kernel.history l.kept
    × IsReached (setting_of l.kernel.scenario) l.kernel.history l.role (option_copied l.below) (above_looked (option_copied l.below) l.looked)

abbrev pub decreases-loop-looked : goal.decreases-loop-looked
decreases-loop-looked l = fresh_count (queue_in l.queues l.role).rows
