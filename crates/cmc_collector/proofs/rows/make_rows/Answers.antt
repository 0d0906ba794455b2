use Rattle.std.proofs.Common.{◌∙◌}
use Rattle.cmc_collector.specs.Rows.{has_examine_row}
use Rattle.cmc_collector.proofs.Looping.{room_more}
use Rattle.cmc_collector.proofs.rows.make_rows.Goals as goal

pub loop-key-preserved : goal.loop-key-preserved
loop-key-preserved c = record {
  room = room_more (λ k. has_examine_row c.loop-key.rows k) (λ k. has_examine_row c.room.new.self k) c.args.keys.now c.loop-key.key-index c.key-item.result c.loop-key-test.true c.key-item.is c.loop-key.invariant.room c.in_ok-room.ensures.keeps c.in_ok-room.ensures.room;
  same = λ k. c.in_ok-room.ensures.same k ∙ c.loop-key.invariant.same k;
  keeps = λ k has. c.in_ok-room.ensures.keeps k (c.loop-key.invariant.keeps k has);
}

pub returns-in_err-room-clause-same : goal.returns-in_err-room-clause-same
returns-in_err-room-clause-same c = λ k. c.room.ensures.same k ∙ c.loop-key.invariant.same k

pub returns-in_err-room-clause-keeps : goal.returns-in_err-room-clause-keeps
returns-in_err-room-clause-keeps c = λ k has. c.room.ensures.keeps k (c.loop-key.invariant.keeps k has)
