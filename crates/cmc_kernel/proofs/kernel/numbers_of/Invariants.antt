use Rattle.std.proofs.Common.{◌≡◌, take}
use Rattle.cmc_kernel.proofs.kernel.numbers_of.Given as goal

abbrev pub invariant-loop-item : goal.invariant-loop-item
invariant-loop-item l = l.numbers ≡ take l.item-index l.items
