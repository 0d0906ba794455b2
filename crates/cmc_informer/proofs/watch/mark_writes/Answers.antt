use Rattle.std.proofs.Common.{◌≡◌, get_or, arith, sym, ◌∙◌, reverse}
use Rattle.std.proofs.lemmas.List.{length-reverse}
use Rattle.cmc_informer.proofs.Changes.{none_changed, changed_next}
use Rattle.cmc_informer.proofs.watch.mark_writes.Goals as goal

pub loop-place-init : goal.loop-place-init
loop-place-init c =
    let count = length-reverse c.args.writes.now in
    record {
      marks = λ k. c.new-marks.ensures k ∙ sym (none_changed c.args.kind c.args.from c.args.from (reverse c.args.writes.now) k (omega (arith, count, c.requires.above, c.requires.within)) (omega arith));
      above = omega arith;
    }

pub loop-place-preserved : goal.loop-place-preserved
loop-place-preserved c =
    let at : get_or c.args.writes.now c.loop-place.place c.index-writes-place.result ≡ c.index-writes-place.result = grind (arith, c.index-writes-place.is) in
    record {
      marks = λ k. changed_next c.args.kind c.args.from c.loop-place.place c.args.writes.now c.index-writes-place.result k _ _ c.loop-place.invariant.above
          (omega (arith, c.loop-place-test.true, c.requires.within)) at (c.in_ok-mark_one.ensures k) (c.loop-place.invariant.marks k);
      above = omega (arith, c.loop-place.invariant.above);
    }
