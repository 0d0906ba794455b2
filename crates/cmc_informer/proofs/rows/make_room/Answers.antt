use Rattle.cmc_informer.proofs.Changing.{objects_alike}
use Rattle.cmc_informer.proofs.FoundAlike.{indexed_same, room_for_alike}
use Rattle.cmc_informer.proofs.rows.make_room.Goals as goal

pub returns-in_err-room-clause-same : goal.returns-in_err-room-clause-same
returns-in_err-room-clause-same c = objects_alike c.args.rows.now.slots c.room.new.self c.in_err-room.ensures.same

pub returns-in_err-room_for_owners-clause-same : goal.returns-in_err-room_for_owners-clause-same
returns-in_err-room_for_owners-clause-same c = objects_alike c.args.rows.now.slots c.room.new.self c.in_ok-room.ensures.same

pub returns-in_err-room_for_uid-clause-same : goal.returns-in_err-room_for_uid-clause-same
returns-in_err-room_for_uid-clause-same c = objects_alike c.args.rows.now.slots c.room.new.self c.in_ok-room.ensures.same

pub returns-in_err-room_for_target-clause-same : goal.returns-in_err-room_for_target-clause-same
returns-in_err-room_for_target-clause-same c = objects_alike c.args.rows.now.slots c.room.new.self c.in_ok-room.ensures.same

pub returns-clause-same : goal.returns-clause-same
returns-clause-same c = objects_alike c.args.rows.now.slots c.room.new.self c.in_ok-room.ensures.same

pub returns-then-branch-clause-room : goal.returns-then-branch-clause-room
returns-then-branch-clause-room c =
    room_for_alike (record c.args.rows.now { slots = c.room.new.self }) c.args.key.now c.args.object.now (indexed_same c.args.rows.now c.room.new.self c.requires c.in_ok-room.ensures.same)
    c.in_ok-room.ensures.room (c.in_ok-room.ensures.alike c.if-branch.true)

pub returns-then-branch-clause-same : goal.returns-then-branch-clause-same
returns-then-branch-clause-same c = objects_alike c.args.rows.now.slots c.room.new.self c.in_ok-room.ensures.same
