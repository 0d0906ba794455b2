use Rattle.std.proofs.Common.{◌≡◌, ◌+◌, ◌-◌, false, ◌&&◌, arith}
use Rattle.std.specs.Prelude.{◌==◌}
use Rattle.cmc_store.proofs.Digits.{off_least, off_rest, turn}
use Rattle.cmc_store.proofs.names.low_digits.Goals as goal
use Rattle.cmc_store.proofs.names.low_digits.Goals.{else-rest-eq0-via-then-rest-eq0+else-least-eq0, else-rest-eq0-via-else-rest-eq0}

pub loop-room-preserved : goal.loop-room-preserved
loop-room-preserved c =
    let off : ((c.loop-room.rest == 0) && (c.loop-room.least == 0)) ≡ false =
    elim c.else-rest-eq0.branch [
      | else-rest-eq0-via-then-rest-eq0+else-least-eq0 w ↦ off_least c.loop-room.rest c.loop-room.least w.if-least-eq0.false
      | else-rest-eq0-via-else-rest-eq0 w ↦ off_rest c.loop-room.rest c.loop-room.least w.if-rest-eq0.false
    ] in
    let one : c.loop-room.room ≡ (c.loop-room.room - 1) + 1 = omega (arith, c.loop-room-test.true) in
    turn c.loop-room.digits.items _ _ c.loop-room.room (c.loop-room.room - 1) c.loop-room.least _ c.loop-room.rest _ one off c.in_ok-push.ensures.items c.digit.ensures c.saturating_sub-least.ensures c.loop-room.invariant
