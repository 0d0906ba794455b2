use Rattle.std.proofs.Common.{◌≡◌, ◌+◌, [], ◌∷◌, ◌++◌, refl, take, sym, subst, ◌∙◌}
use Rattle.std.proofs.lemmas.List.{take_more}
use Rattle.cmc_meta.specs.declared.key.Key.{Key}
use Rattle.cmc_waking.proofs.Feeds.{room_stays, room_twice, rooms_more}
use Rattle.cmc_waking.proofs.feeding.room_each.Goals as goal

pub loop-key-init : goal.loop-key-init
loop-key-init c = record { made = λ k among. absurd (cc among); rows = λ k. refl; room = room_stays c.args.queue.now }

pub loop-key-preserved : goal.loop-key-preserved
loop-key-preserved c =
    let more = subst (λ (k : Key). take (c.loop-key.key-index + 1) c.args.keys.now ≡ take c.loop-key.key-index c.args.keys.now ++ k ∷ []) (sym c.key-item.is)
    (take_more c.args.keys.now c.loop-key.key-index c.key-item.result c.loop-key-test.true) in
    record {
      made = rooms_more (take c.loop-key.key-index c.args.keys.now) (take (c.loop-key.key-index + 1) c.args.keys.now) c.key-item.result c.loop-key.queue c.room.new.self more c.loop-key.invariant.made c.room.ensures.room c.in_ok-room.ensures.made;
      rows = λ k. c.room.ensures.rows k ∙ c.loop-key.invariant.rows k;
      room = room_twice c.args.queue.now c.loop-key.queue c.room.new.self c.loop-key.invariant.room c.room.ensures.room;
    }
