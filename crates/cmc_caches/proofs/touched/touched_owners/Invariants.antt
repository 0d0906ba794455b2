use Rattle.cmc_caches.specs.Affected.{AreSameButOf, left_by}
use Rattle.cmc_caches.proofs.touched.touched_owners.Given as goal

abbrev pub invariant-loop-place : goal.invariant-loop-place
invariant-loop-place l = AreSameButOf l.uids (left_by l.writes l.kind l.from) (left_by l.writes l.kind l.place)
