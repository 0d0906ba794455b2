use Rattle.cmc_caches.proofs.Walks.{IsLeft}
use Rattle.cmc_caches.proofs.walk.last_until.Given as goal

abbrev pub invariant-loop-newer : goal.invariant-loop-newer
invariant-loop-newer l = IsLeft l.position l.numbers l.newer
