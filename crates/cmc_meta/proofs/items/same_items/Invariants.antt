use Rattle.std.proofs.Common.{◌≡◌, take, length}
use Rattle.cmc_meta.proofs.items.same_items.Given as goal

abbrev pub invariant-loop-i : goal.invariant-loop-i
invariant-loop-i g l = (take l.i l.left ≡ take l.i l.right) × (length l.left ≡ length l.right)
