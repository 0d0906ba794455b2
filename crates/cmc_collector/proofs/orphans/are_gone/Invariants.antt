use Rattle.std.proofs.Common.{◌≡◌, drop}
use Rattle.cmc_collector.specs.Caches.{informer_object}
use Rattle.cmc_collector.specs.CachePositions.{are_gone}
use Rattle.cmc_collector.proofs.orphans.are_gone.Given as goal

abbrev pub invariant-loop-owner : goal.invariant-loop-owner
invariant-loop-owner l = are_gone (informer_object l.caches) l.given l.namespace l.owners ≡ are_gone (informer_object l.caches) l.given l.namespace (drop l.owner-index l.owners)
