use Rattle.cmc_kernel.specs.Kept.{setting_of}
use Rattle.cmc_world.specs.Fed.{IsFed}
use Rattle.cmc_world.specs.KeptLooks.{IsKeptRight}
use Rattle.cmc_world.specs.Searches.{EachBefore, RestsWhereRunning}
use Rattle.cmc_world.proofs.rest.rests_in_each.Given as goal

abbrev pub invariant-loop-place : goal.invariant-loop-place
invariant-loop-place l = EachBefore (RestsWhereRunning (setting_of l.kernel.scenario) l.kernel.history) l.place × IsFed (setting_of l.kernel.scenario) l.kernel.history l.queues × IsKeptRight (setting_of l.kernel.scenario) l.kernel.history l.kept
