use Rattle.std.proofs.Common.{◌≡◌, ℤ, Option, ap, rules, subst, arith, ◌∙◌}
use Rattle.std.proofs.lemmas.Int.{to_z-of_z}
use Rattle.std.specs.Int.{w64}
use Rattle.std.specs.Prelude.{if◌then◌else◌}
use Rattle.cmc_meta.specs.Keys.{key_eq}
use Rattle.cmc_objects.specs.declared.call.Call.TheVariants as calls
use Rattle.cmc_collector.specs.declared.entry.CollectEntry.TheVariants as entries
use Rattle.cmc_collector.specs.declared.examination.Examination.{Examination}
use Rattle.cmc_collector.specs.Moves.{IsStoreReply, with_entry}
use Rattle.cmc_collector.specs.Replays.{Collecting, on, owner_key, setting}
use Rattle.cmc_collector.specs.Rows.{examination_under}
use Rattle.cmc_collector.proofs.Keeping.{look_entry}
use Rattle.cmc_collector.proofs.Seeing.{answered, calls_fit, current_row, going_in, grown, looked_seen, room_in, seen}
use Rattle.cmc_collector.proofs.collection.Collection.look.Goals as goal

pub look_with_room-requires : goal.look_with_room-requires
look_with_room-requires c =
    let low = calls_fit c.self.inside.events c.self.inside.server c.self.inside.caches c.self.inside.rows c.self.inside.entries.moments c.self.invariant in
    let room = room_in c.self.inside.events c.self.inside.server c.self.inside.entries.moments _ c.self.view_is c.requires.room in
    omega (arith, low, room)

pub set-requires : goal.set-requires
set-requires c =
    current_row c.self.inside.events c.self.inside.server c.self.inside.caches c.self.inside.rows c.self.inside.entries.moments c.args.key c.args.examination c.self.invariant
    (going_in c.self.inside.events c.self.inside.server c.self.inside.entries.moments _ c.args.key c.args.examination c.self.view_is c.requires.going)

pub invariant_of-self-2 : goal.invariant_of-self-2
invariant_of-self-2 c =
    looked_seen c.self.inside.events c.self.inside.server c.look_with_room.new.server c.self.inside.caches c.self.inside.rows c.set.new.self c.self.inside.entries.moments c.push.new.self.moments _ c.args.key c.args.examination c.args.owner c.in_ok-reply.reply c.self.invariant
    (going_in c.self.inside.events c.self.inside.server c.self.inside.entries.moments _ c.args.key c.args.examination c.self.view_is c.requires.going) c.requires.next
    c.in_ok-reply.ensures.reply
    c.in_ok-reply.ensures.after (rw c.in_ok-reply.ensures.same at c.push.ensures) (room_in c.self.inside.events c.self.inside.server c.self.inside.entries.moments _ c.self.view_is c.requires.room)
    (λ k. c.set.ensures.rows k ∙ ap (λ (o : Option Examination). if key_eq c.args.key k then o else examination_under c.self.inside.rows k) c.after-examination.ensures) c.set.ensures.room

pub returns-clause-ok : goal.returns-clause-ok
returns-clause-ok c =
    let same = to_z-of_z w64 c.args.now (search rules) in (
      entries.Look c.args.key c.args.owner c.in_ok-reply.reply,
      look_entry (setting c.args.self.now) c.args.self.now.moments c.args.key c.args.examination c.args.owner c.in_ok-reply.reply c.requires.going c.requires.next
          (subst (λ (v : Collecting). on (IsStoreReply (calls.Get (owner_key c.args.key.namespace c.args.owner)) c.in_ok-reply.reply) v) c.self.view_is
          (answered c.self.inside.events c.self.inside.server c.self.inside.caches c.self.inside.rows c.self.inside.entries.moments (calls.Get (owner_key c.args.key.namespace c.args.owner)) c.in_ok-reply.reply c.self.invariant c.in_ok-reply.ensures.reply)),
      subst (λ (n : ℤ). seen c.look_with_room.new.server c.self.inside.events c.push.new.self.moments ≡ with_entry n (entries.Look c.args.key c.args.owner c.in_ok-reply.reply) c.args.self.now) same
          (grown c.self.inside.events c.self.inside.server c.look_with_room.new.server c.self.inside.entries.moments c.push.new.self.moments c.args.self.now _ (calls.Get (owner_key c.args.key.namespace c.args.owner)) c.in_ok-reply.reply (entries.Look c.args.key c.args.owner c.in_ok-reply.reply) c.in_ok-reply.ensures.after (rw c.in_ok-reply.ensures.same at c.push.ensures) c.self.view_is),
    )
