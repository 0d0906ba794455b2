use Rattle.std.proofs.Common.{◌≡◌, map, length}
use Rattle.cmc_cursor.specs.Readers.{dropped_at}
use Rattle.cmc_cursor.specs.Seen.{shown}
use Rattle.cmc_cursor.proofs.dropping.drop_rest.Given as goal

abbrev pub invariant-loop-left : goal.invariant-loop-left
invariant-loop-left l = dropped_at (map shown l.left) ≡ dropped_at (map shown l.rest)

abbrev pub decreases-loop-left : goal.decreases-loop-left
decreases-loop-left l = length l.left
