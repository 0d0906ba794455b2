use Rattle.std.proofs.Common.{◌≡◌, ◌+◌, ◌-◌, true, sym, ◌∙◌, arith}
use Rattle.cmc_model.specs.Generated as spec
use Rattle.cmc_store.proofs.Free.{free_more}
use Rattle.cmc_store.proofs.generating.free_name.Goals as goal

pub loop-room-preserved : goal.loop-room-preserved
loop-room-preserved c =
    let one : c.loop-room.room ≡ (c.loop-room.room - 1) + 1 = omega (arith, c.loop-room-test.true) in
    let taken : spec.has_number c.args.catalogue.now c.args.object.now c.loop-room.number ≡ true = cc (c.in_ok-name.ensures, c.in_ok-has_name.ensures, c.if-not-branch.false, c.meta.ensures) in
    record {
      sum = omega (arith, one, c.loop-room.invariant.sum);
      found = sym (free_more c.loop-room.room (c.loop-room.room - 1) (spec.has_number c.args.catalogue.now c.args.object.now) c.loop-room.number one taken) ∙ c.loop-room.invariant.found;
    }
