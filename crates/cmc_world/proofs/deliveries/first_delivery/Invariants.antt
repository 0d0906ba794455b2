use Rattle.cmc_kernel.specs.Kept.{setting_of}
use Rattle.cmc_world.specs.Searches.{HasNoneBefore, IsBehindInSome}
use Rattle.cmc_world.proofs.deliveries.first_delivery.Given as goal

abbrev pub invariant-loop-place : goal.invariant-loop-place
invariant-loop-place l = HasNoneBefore (IsBehindInSome (setting_of l.kernel.scenario) l.kernel.history) l.place
