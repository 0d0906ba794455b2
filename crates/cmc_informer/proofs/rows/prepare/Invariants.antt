use Rattle.std.proofs.Common.{◌≡◌, ◌≤◌, reverse}
use Rattle.cmc_meta.specs.declared.key.Key.{Key}
use Rattle.cmc_model.specs.Writes.{contents, is_known, of_kind, oldest}
use Rattle.cmc_informer.specs.Caches.{objects_in, after_writes}
use Rattle.cmc_informer.specs.Indexed.{HasRoomFor, IsIndexed}
use Rattle.cmc_informer.specs.Superseded.{has_seen, writes_of}
use Rattle.cmc_informer.proofs.rows.prepare.Given as goal

abbrev pub invariant-loop-place : goal.invariant-loop-place
invariant-loop-place l = record {
  above : l.from ≤ l.place;
  changes : after_writes (contents (of_kind l.kind (oldest l.place (reverse l.writes)))) (writes_of l.changes.items) ≡ contents (of_kind l.kind (oldest l.to (reverse l.writes)));
  room : HasRoomFor l.rows (writes_of l.changes.items);
  same : objects_in l.rows.slots ≡ objects_in l.initial.rows.slots;
  indexed : IsIndexed l.rows;
  seen : (k : Key) → has_seen l.seen k ≡ is_known k (writes_of l.changes.items);
}

abbrev pub decreases-loop-place : goal.decreases-loop-place
decreases-loop-place l = l.place
