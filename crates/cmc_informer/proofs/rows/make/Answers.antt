use Rattle.std.proofs.Common.{ap}
use Rattle.cmc_informer.specs.Superseded.{writes_of}
use Rattle.cmc_informer.proofs.Preparing.{made_next}
use Rattle.cmc_informer.proofs.Rooms.{rooms_left}
use Rattle.cmc_informer.proofs.rows.make.Goals as goal

pub loop-it-preserved : goal.loop-it-preserved
loop-it-preserved c = record {
  objects = made_next c.loop-it.rows c.change.new.rows (record { key = c.in-Some.it.key.now; object = c.in-Some.it.object }) _ _ _ (ap writes_of c.in-Some.ensures.steps.0) c.loop-it.invariant.objects c.change.ensures.objects;
  room = rooms_left c.loop-it.rows c.change.new.rows (record { key = c.in-Some.it.key.now; object = c.in-Some.it.object }) _ _ (ap writes_of c.in-Some.ensures.steps.0) c.change.ensures.keeps c.loop-it.invariant.room;
  indexed = c.change.ensures.indexed;
}
