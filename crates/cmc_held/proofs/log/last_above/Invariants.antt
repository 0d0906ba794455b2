use Rattle.std.proofs.Common.{◌≡◌, ◌-◌, take, reverse, length}
use Rattle.cmc_model.specs.Writes.{last_under}
use Rattle.cmc_held.proofs.log.last_above.Given as goal

abbrev pub invariant-loop-newer : goal.invariant-loop-newer
invariant-loop-newer l = last_under l.key (reverse l.writes) ≡ last_under l.key (reverse (take (length l.writes - l.newer) l.writes))
