use Rattle.std.proofs.Common.{◌+◌, arith, inl, refl, subst}
use Rattle.cmc_model.specs.declared.write.Write.{Write}
use Rattle.cmc_model.specs.Objects.{Objects, object_at}
use Rattle.cmc_model.specs.Writes.{kind_eq}
use Rattle.cmc_model.proofs.Writes.{contents_of-next}
use Rattle.cmc_caches.specs.Affected.{AddsOwners, left_by}
use Rattle.cmc_caches.proofs.Touching.{foreign_more}
use Rattle.cmc_caches.proofs.touched.touched_owners.Goals as goal

pub loop-place-init : goal.loop-place-init
loop-place-init c = λ u off q. inl refl

pub loop-place-preserved : goal.loop-place-preserved
loop-place-preserved c =
    let w : Write = c.index-writes-place.result in
    let next = contents_of-next c.args.kind c.args.writes.now c.loop-place.place w (omega (arith, c.loop-place-test.true, c.requires.within)) in
    foreign_more (kind_eq w.key.kind c.args.kind) (left_by c.args.writes.now c.args.kind c.args.from) (left_by c.args.writes.now c.args.kind c.loop-place.place) (left_by c.args.writes.now c.args.kind (c.loop-place.place + 1)) c.loop-place.uids c.add_owners_of_kind.new.uids w.key w.object
    (rw c.index-writes-place.is next)
    (λ is. subst (λ (m : Objects). AddsOwners (object_at m w.key) w.object c.loop-place.uids c.add_owners_of_kind.new.uids) c.requires.holds (c.in_ok-add_owners_of_kind.ensures.hit is)) c.in_ok-add_owners_of_kind.ensures.miss c.loop-place.invariant
