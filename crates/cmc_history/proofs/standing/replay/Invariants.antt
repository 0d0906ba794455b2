use Rattle.std.proofs.Common.{◌≡◌, take, reverse}
use Rattle.cmc_history.specs.Replays.{replayed}
use Rattle.cmc_history.proofs.standing.replay.Given as goal

abbrev pub invariant-loop-entry : goal.invariant-loop-entry
invariant-loop-entry l = l.standing ≡ replayed l.fn.now l.position l.key (reverse (take l.entry-index l.entries))
