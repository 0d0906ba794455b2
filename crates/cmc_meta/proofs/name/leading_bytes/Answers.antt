use Rattle.std.proofs.Common.{arith}
use Rattle.cmc_meta.proofs.Leading.{room_for_one}
use Rattle.cmc_meta.proofs.name.leading_bytes.Goals as goal

pub overflow_mul-number : goal.overflow_mul-number
overflow_mul-number c =
    let room = room_for_one c.loop-place.place c.args.bytes.now (λ i. omega (arith, c.type_inv.bytes i)) c.loop-place-test.true in
    let is = c.loop-place.invariant.number_is in
    omega (arith, room, is)

pub overflow_add-number : goal.overflow_add-number
overflow_add-number c =
    let room = room_for_one c.loop-place.place c.args.bytes.now (λ i. omega (arith, c.type_inv.bytes i)) c.loop-place-test.true in
    let is = c.loop-place.invariant.number_is in
    let byte = c.byte_at.type_inv in
    let same = c.from.ensures in
    omega (arith, room, is, byte, same)
