use Rattle.std.proofs.Common.{refl, sym, subst, List}
use Rattle.cmc_model.specs.declared.write.Write.{Write}
use Rattle.cmc_informer.specs.Indexed.{HasRoomFor}
use Rattle.cmc_informer.specs.Superseded.{writes_of}
use Rattle.cmc_informer.proofs.LastWrites.{change_added}
use Rattle.cmc_informer.proofs.Rooms.{room_added, rooms_stay}
use Rattle.cmc_informer.proofs.rows.prepare_new.Goals as goal

pub returns-clause-changes : goal.returns-clause-changes
returns-clause-changes c = change_added c.args.changes.now.items c.push.new.self.items _ c.in_ok-object.object c.args.write.now c.in_ok-push.ensures.items refl c.in_ok-object.ensures

pub returns-clause-room : goal.returns-clause-room
returns-clause-room c =
    subst (λ (ws : List Write). HasRoomFor c.make_room.new.rows ws)
    (sym (change_added c.args.changes.now.items c.push.new.self.items _ c.in_ok-object.object c.args.write.now c.in_ok-push.ensures.items refl c.in_ok-object.ensures))
    (room_added c.make_room.new.rows (writes_of c.args.changes.now.items) c.args.write.now (rooms_stay c.args.rows.now c.make_room.new.rows (writes_of c.args.changes.now.items) c.in_ok-make_room.ensures.keeps c.requires.room) c.in_ok-make_room.ensures.room)
