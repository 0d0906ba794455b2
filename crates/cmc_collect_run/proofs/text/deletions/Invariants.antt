use Rattle.std.proofs.Common.{◌≡◌, ◌≤◌, take}
use Rattle.std.specs.Prelude.{count_by}
use Rattle.cmc_collect_run.specs.Printed.{is_deletion}
use Rattle.cmc_collect_run.proofs.text.deletions.Given as goal

abbrev pub invariant-loop-moment : goal.invariant-loop-moment
invariant-loop-moment l = (l.count ≡ count_by is_deletion (take l.moment-index l.fn.moments)) × (l.count ≤ l.moment-index)
