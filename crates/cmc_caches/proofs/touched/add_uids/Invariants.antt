use Rattle.std.proofs.Common.{◌≡◌, ◌++◌, map, take}
use Rattle.cmc_caches.proofs.touched.add_uids.Given as goal

abbrev pub invariant-loop-owner : goal.invariant-loop-owner
invariant-loop-owner l = l.uids ≡ l.initial.uids ++ map (λ owner. owner.uid) (take l.owner-index l.owners)
