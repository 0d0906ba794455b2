use Rattle.std.proofs.Common.{◌≡◌}
use Rattle.std.specs.Vec.Iter.{into_iter_items}
use Rattle.cmc_informer.specs.Caches.{objects_in, after_writes}
use Rattle.cmc_informer.specs.Indexed.{HasRoomFor, IsIndexed}
use Rattle.cmc_informer.specs.Superseded.{writes_of}
use Rattle.cmc_informer.proofs.rows.make.Given as goal

abbrev pub invariant-loop-it : goal.invariant-loop-it
invariant-loop-it l = record {
  objects : after_writes (objects_in l.rows.slots) (writes_of (into_iter_items l.it-iterator)) ≡ after_writes (objects_in l.initial.rows.slots) (writes_of l.fn.changes.items);
  room : HasRoomFor l.rows (writes_of (into_iter_items l.it-iterator));
  indexed : IsIndexed l.rows;
}
