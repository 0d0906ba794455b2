use Rattle.std.proofs.Common.{◌≡◌, ℕ, ℤ, Some, rules, subst, sym, arith}
use Rattle.std.proofs.lemmas.Int.{to_z-of_z}
use Rattle.std.specs.Int.{w64}
use Rattle.cmc_objects.specs.Objects.{version_of}
use Rattle.cmc_objects.specs.declared.call.Call.TheVariants as calls
use Rattle.cmc_model.specs.Replies.{IsReply}
use Rattle.cmc_collector.specs.declared.entry.CollectEntry.TheVariants as entries
use Rattle.cmc_collect_moves.specs.declared.moves.CollectMove.TheVariants.{Examine}
use Rattle.cmc_collector.specs.Moves.{IsStoreReply, IsEntry, with_entry}
use Rattle.cmc_collector.specs.Replays.{Collecting, on, setting}
use Rattle.cmc_collector.proofs.Keeping.{delete_entry}
use Rattle.cmc_collector.proofs.Seeing.{answered, calls_fit, current_row, deleted_at, going_in, grown, room_in, seen}
use Rattle.cmc_collector.proofs.collection.Collection.delete.Goals as goal

pub delete_with_room-requires : goal.delete_with_room-requires
delete_with_room-requires c =
    let low = calls_fit c.self.inside.events c.self.inside.server c.self.inside.caches c.self.inside.rows c.self.inside.entries.moments c.self.invariant in
    let room = room_in c.self.inside.events c.self.inside.server c.self.inside.entries.moments _ c.self.view_is c.requires.room in
    omega (arith, low, room)

pub set-requires : goal.set-requires
set-requires c =
    current_row c.self.inside.events c.self.inside.server c.self.inside.caches c.self.inside.rows c.self.inside.entries.moments c.args.key c.args.examination.now c.self.invariant
    (going_in c.self.inside.events c.self.inside.server c.self.inside.entries.moments _ c.args.key c.args.examination.now c.self.view_is c.requires.going)

pub invariant_of-self-2 : goal.invariant_of-self-2
invariant_of-self-2 c =
    deleted_at c.self.inside.events c.self.inside.server c.delete_with_room.new.server c.self.inside.caches c.self.inside.rows c.set.new.self c.self.inside.entries.moments c.push.new.self.moments _ c.args.key c.args.examination.now c.version-version.result c.in_ok-reply.reply
    c.version-version.ensures c.self.invariant
    (going_in c.self.inside.events c.self.inside.server c.self.inside.entries.moments _ c.args.key c.args.examination.now c.self.view_is c.requires.going) c.requires.last
    c.in_ok-reply.ensures.reply
    c.in_ok-reply.ensures.after (rw c.in_ok-reply.ensures.same at c.push.ensures) (room_in c.self.inside.events c.self.inside.server c.self.inside.entries.moments _ c.self.view_is c.requires.room) c.set.ensures.rows c.set.ensures.room

pub returns-clause-ok : goal.returns-clause-ok
returns-clause-ok c =
    let same = to_z-of_z w64 c.args.now (search rules) in
    let at_seen = subst (λ (n : ℕ). IsReply c.self.inside.server.faults c.self.inside.server.state (calls.Delete c.args.key (Some n)) c.in_ok-reply.reply) c.version-version.ensures c.in_ok-reply.ensures.reply in (
      entries.Delete c.args.key c.version-version.result c.in_ok-reply.reply,
      subst (λ (n : ℕ). on (IsEntry (Examine c.args.key) (entries.Delete c.args.key n c.in_ok-reply.reply)) c.args.self.now) (sym c.version-version.ensures)
          (delete_entry (setting c.args.self.now) c.args.self.now.moments c.args.key c.args.examination.now c.in_ok-reply.reply c.requires.going c.requires.last
          (subst (λ (v : Collecting). on (IsStoreReply (calls.Delete c.args.key (Some (version_of c.args.examination.now.object))) c.in_ok-reply.reply) v) c.self.view_is
          (answered c.self.inside.events c.self.inside.server c.self.inside.caches c.self.inside.rows c.self.inside.entries.moments (calls.Delete c.args.key (Some (version_of c.args.examination.now.object))) c.in_ok-reply.reply c.self.invariant at_seen))),
      subst (λ (n : ℤ). seen c.delete_with_room.new.server c.self.inside.events c.push.new.self.moments ≡ with_entry n (entries.Delete c.args.key c.version-version.result c.in_ok-reply.reply) c.args.self.now) same
          (grown c.self.inside.events c.self.inside.server c.delete_with_room.new.server c.self.inside.entries.moments c.push.new.self.moments c.args.self.now _ (calls.Delete c.args.key (Some c.version-version.result)) c.in_ok-reply.reply (entries.Delete c.args.key c.version-version.result c.in_ok-reply.reply) c.in_ok-reply.ensures.after (rw c.in_ok-reply.ensures.same at c.push.ensures) c.self.view_is),
    )
