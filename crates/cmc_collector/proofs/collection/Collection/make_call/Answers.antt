use Rattle.std.proofs.Common.{◌≡◌, ℤ, refl, rules, subst, arith}
use Rattle.std.proofs.lemmas.Int.{to_z-of_z}
use Rattle.std.specs.Int.{w64}
use Rattle.cmc_collector.specs.declared.entry.CollectEntry.TheVariants as entries
use Rattle.cmc_collector.specs.Moves.{IsStoreReply, with_entry}
use Rattle.cmc_collector.specs.Replays.{Collecting, on}
use Rattle.cmc_collector.proofs.Seeing.{answered, called_seen, calls_fit, grown, room_in, seen}
use Rattle.cmc_collector.proofs.collection.Collection.make_call.Goals as goal

pub call_with_room-requires : goal.call_with_room-requires
call_with_room-requires c =
    let low = calls_fit c.self.inside.events c.self.inside.server c.self.inside.caches c.self.inside.rows c.self.inside.entries.moments c.self.invariant in
    let room = room_in c.self.inside.events c.self.inside.server c.self.inside.entries.moments _ c.self.view_is c.requires in
    omega (arith, low, room)

pub invariant_of-self-2 : goal.invariant_of-self-2
invariant_of-self-2 c =
    called_seen c.self.inside.events c.self.inside.server c.call_with_room.new.server c.self.inside.caches c.self.inside.rows c.self.inside.entries.moments c.push.new.self.moments _ c.args.call c.in_ok-reply.reply c.self.invariant
    c.in_ok-reply.ensures.reply c.in_ok-reply.ensures.after (rw c.in_ok-reply.ensures.same at c.push.ensures) (room_in c.self.inside.events c.self.inside.server c.self.inside.entries.moments _ c.self.view_is c.requires)

pub returns-clause-ok : goal.returns-clause-ok
returns-clause-ok c =
    let same = to_z-of_z w64 c.args.now (search rules) in (
      entries.User c.args.call c.in_ok-reply.reply,
      (
        c.in_ok-reply.reply,
        subst (λ (v : Collecting). on (IsStoreReply c.args.call c.in_ok-reply.reply) v) c.self.view_is (answered c.self.inside.events c.self.inside.server c.self.inside.caches c.self.inside.rows c.self.inside.entries.moments c.args.call c.in_ok-reply.reply c.self.invariant c.in_ok-reply.ensures.reply),
        refl,
      ),
      subst (λ (n : ℤ). seen c.call_with_room.new.server c.self.inside.events c.push.new.self.moments ≡ with_entry n (entries.User c.args.call c.in_ok-reply.reply) c.args.self.now) same
          (grown c.self.inside.events c.self.inside.server c.call_with_room.new.server c.self.inside.entries.moments c.push.new.self.moments c.args.self.now _ c.args.call c.in_ok-reply.reply (entries.User c.args.call c.in_ok-reply.reply) c.in_ok-reply.ensures.after (rw c.in_ok-reply.ensures.same at c.push.ensures) c.self.view_is),
    )
