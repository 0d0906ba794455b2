use Rattle.std.proofs.Common.{arith, reverse, ◌∙◌, sym}
use Rattle.std.proofs.lemmas.List.{length-reverse}
use Rattle.cmc_informer.specs.Indexes.{mark_in}
use Rattle.cmc_informer.specs.Watches.{is_changed}
use Rattle.cmc_informer.proofs.Changes.{none_changed, same_changed}
use Rattle.cmc_informer.proofs.Changing.{keys_alike}
use Rattle.cmc_informer.proofs.OneMark.{no_keys}
use Rattle.cmc_informer.proofs.watch.Watch.changed.Goals as goal

pub returns-then-end-from : goal.returns-then-end-from
returns-then-end-from c =
    rw c.new.ensures (no_keys (λ k. is_changed c.args.kind c.args.from c.args.to c.args.self.now.writes k) (λ k.
    sym (same_changed c.args.kind c.args.from c.last_place-end.result c.args.to (reverse c.as_slice-writes.result.now) c.args.self.now.writes k c.last_place-end.ensures.same c.as_slice-writes.ensures)
    ∙ none_changed c.args.kind c.args.from c.last_place-end.result (reverse c.as_slice-writes.result.now) k (omega (arith, length-reverse c.as_slice-writes.result.now, c.last_place-end.ensures.within)) (omega (arith, c.if-end-from.true))))

pub returns : goal.returns
returns c =
    keys_alike c.in_ok-keys.keys (λ k. mark_in c.in_ok-marks.marks k) (λ k. is_changed c.args.kind c.args.from c.args.to c.args.self.now.writes k) c.in_ok-keys.ensures
    (λ k. c.in_ok-marks.ensures k ∙ same_changed c.args.kind c.args.from c.last_place-end.result c.args.to (reverse c.as_slice-writes.result.now) c.args.self.now.writes k c.last_place-end.ensures.same c.as_slice-writes.ensures)
