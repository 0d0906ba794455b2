use Rattle.std.proofs.Common.{◌+◌, arith, refl, reverse}
use Rattle.cmc_model.specs.declared.write.Write.{Write}
use Rattle.cmc_model.specs.Writes.{kind_eq}
use Rattle.cmc_model.proofs.Writes.{contents_of-next}
use Rattle.cmc_caches.specs.Affected.{left_by}
use Rattle.cmc_caches.proofs.Naming.{known_at, named_more, none_named}
use Rattle.cmc_caches.proofs.Touching.{same_more}
use Rattle.cmc_caches.proofs.touched.written_keys.Goals as goal

pub loop-place-init : goal.loop-place-init
loop-place-init c = record { same = λ q off. refl; named = none_named c.args.kind (reverse c.args.writes.now) c.new-keys.result.items c.new-keys.ensures.items }

pub loop-place-preserved : goal.loop-place-preserved
loop-place-preserved c =
    let w : Write = c.index-writes-place.result in
    let next = contents_of-next c.args.kind c.args.writes.now c.loop-place.place w (omega (arith, c.loop-place-test.true, c.requires.within)) in
    record {
      same = same_more (kind_eq w.key.kind c.args.kind) (left_by c.args.writes.now c.args.kind c.args.from) (left_by c.args.writes.now c.args.kind c.loop-place.place) (left_by c.args.writes.now c.args.kind (c.loop-place.place + 1)) c.loop-place.keys.items
          c.add_key.new.keys.items w.key w.object (rw c.index-writes-place.is next) c.in_ok-add_key.ensures c.loop-place.invariant.same;
      named = named_more (kind_eq w.key.kind c.args.kind) c.args.kind (reverse c.args.writes.now) c.loop-place.keys.items c.add_key.new.keys.items w.key refl c.in_ok-add_key.ensures
          (known_at c.args.writes.now c.loop-place.place w (omega (arith, c.loop-place-test.true, c.requires.within)) c.index-writes-place.is) c.loop-place.invariant.named;
    }
