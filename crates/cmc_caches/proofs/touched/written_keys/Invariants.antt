use Rattle.std.proofs.Common.{reverse}
use Rattle.cmc_caches.specs.Affected.{AreNamed, AreSameBut, left_by}
use Rattle.cmc_caches.proofs.touched.written_keys.Given as goal

abbrev pub invariant-loop-place : goal.invariant-loop-place
invariant-loop-place l = record {
  same : AreSameBut l.keys.items (left_by l.writes l.kind l.from) (left_by l.writes l.kind l.place);
  named : AreNamed l.kind (reverse l.writes) l.keys.items;
}
