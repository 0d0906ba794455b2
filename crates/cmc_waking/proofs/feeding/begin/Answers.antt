use Rattle.cmc_queue.specs.Rows.{taken}
use Rattle.cmc_waking.specs.Feeds.{timed_too}
use Rattle.cmc_waking.proofs.Feeds.{changes_twice, place_at_stays, room_twice}
use Rattle.cmc_waking.proofs.feeding.begin.Goals as goal

pub time-requires-clause-row : goal.time-requires-clause-row
time-requires-clause-row c = c.take.ensures.room.rows c.args.key.now c.requires.row

pub time-requires-clause-place : goal.time-requires-clause-place
time-requires-clause-place c = place_at_stays c.args.next c.args.key.now c.args.queue.now c.take.new.self c.take.ensures.room c.requires.place

pub returns-clause-rows : goal.returns-clause-rows
returns-clause-rows c = changes_twice taken (timed_too c.args.next) c.args.key.now c.args.queue.now c.take.new.self c.time.new.queue c.take.ensures.rows c.time.ensures.rows

pub returns-clause-room : goal.returns-clause-room
returns-clause-room c = room_twice c.args.queue.now c.take.new.self c.time.new.queue c.take.ensures.room c.time.ensures.room
