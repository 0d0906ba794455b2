use Rattle.std.proofs.Common.{◌≡◌, map, length}
use Rattle.cmc_cursor.specs.Readers.{sought_at}
use Rattle.cmc_cursor.specs.Seen.{shown}
use Rattle.cmc_cursor.proofs.dropping.seek.Given as goal

abbrev pub invariant-loop-left : goal.invariant-loop-left
invariant-loop-left l = sought_at l.name (map shown l.left) ≡ sought_at l.name (map shown l.rest)

abbrev pub decreases-loop-left : goal.decreases-loop-left
decreases-loop-left l = length l.left
