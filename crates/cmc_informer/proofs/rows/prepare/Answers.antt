use Rattle.std.proofs.Common.{◌≡◌, ◌+◌, ◌-◌, get_or, arith, reverse, ap, ℕ, ◌∙◌}
use Rattle.cmc_model.specs.Writes.{contents, of_kind, oldest}
use Rattle.cmc_informer.specs.Caches.{after_writes}
use Rattle.cmc_informer.specs.Superseded.{writes_of}
use Rattle.cmc_informer.proofs.LastWrites.{last_next}
use Rattle.cmc_informer.proofs.rows.prepare.Goals as goal

pub loop-place-preserved : goal.loop-place-preserved
loop-place-preserved c =
    let at : get_or c.args.writes.now (c.loop-place.place - 1) c.index-writes-place.result ≡ c.index-writes-place.result = grind (arith, c.index-writes-place.is) in
    let next : c.loop-place.place - 1 + 1 ≡ c.loop-place.place = omega (arith, c.loop-place-test.true) in
    record {
      above = omega (arith, c.loop-place-test.true, c.loop-place.invariant.above);
      changes = last_next c.args.kind c.args.writes.now (c.loop-place.place - 1) c.index-writes-place.result (writes_of c.loop-place.changes.items) (writes_of c.prepare_one.new.changes.items) _
          (omega (arith, c.loop-place-test.true, c.loop-place.auto.place, c.requires.within)) at c.in_ok-prepare_one.ensures.changes
          (ap (λ (i : ℕ). after_writes (contents (of_kind c.args.kind (oldest i (reverse c.args.writes.now)))) (writes_of c.loop-place.changes.items)) next ∙ c.loop-place.invariant.changes);
      room = c.in_ok-prepare_one.ensures.room;
      same = c.in_ok-prepare_one.ensures.same ∙ c.loop-place.invariant.same;
      indexed = c.prepare_one.ensures.indexed;
      seen = c.in_ok-prepare_one.ensures.seen;
    }
