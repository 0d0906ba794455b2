use Rattle.std.proofs.Common.{◌≡◌, take}
use Rattle.cmc_summary.proofs.summary.copy_waits.Given as goal

abbrev pub invariant-loop-waiting : goal.invariant-loop-waiting
invariant-loop-waiting l = l.items.items ≡ take l.waiting-index l.waits
