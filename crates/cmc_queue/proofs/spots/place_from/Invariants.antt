use Rattle.std.proofs.Common.{◌≡◌, ℕ, ◌<◌, ◌≤◌, Some, false}
use Rattle.std.specs.Prelude.{slice_get}
use Rattle.cmc_meta.specs.declared.key.Key.{Key}
use Rattle.cmc_queue.specs.declared.row.Row.{Row}
use Rattle.cmc_queue.specs.Rows.{qualifies}
use Rattle.cmc_queue.proofs.spots.place_from.Given as goal

abbrev pub invariant-loop-at : goal.invariant-loop-at
invariant-loop-at l = (i : ℕ) (e : Key × Row) → l.fn.from ≤ i → i < l.at → slice_get l.fn.map.entries i ≡ Some e → qualifies l.fn.sort e.1 ≡ false
