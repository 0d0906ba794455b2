use Rattle.std.proofs.Common.{◌≡◌, ◌+◌, [], ◌∷◌, ◌++◌, refl, take, sym, subst}
use Rattle.std.proofs.lemmas.List.{take_more}
use Rattle.cmc_meta.specs.declared.key.Key.{Key}
use Rattle.cmc_waking.proofs.Feeds.{added_more, among_item, room_stays, room_twice}
use Rattle.cmc_waking.proofs.feeding.add_each.Goals as goal

pub loop-key-init : goal.loop-key-init
loop-key-init c = record { rows = λ k. refl; room = room_stays c.args.queue.now }

pub add-requires : goal.add-requires
add-requires c = c.loop-key.invariant.room.rows c.key-item.result (c.requires c.key-item.result (among_item c.args.keys.now c.loop-key.key-index c.key-item.result c.loop-key-test.true c.key-item.is))

pub loop-key-preserved : goal.loop-key-preserved
loop-key-preserved c =
    let more = subst (λ (k : Key). take (c.loop-key.key-index + 1) c.args.keys.now ≡ take c.loop-key.key-index c.args.keys.now ++ k ∷ []) (sym c.key-item.is)
    (take_more c.args.keys.now c.loop-key.key-index c.key-item.result c.loop-key-test.true) in
    record {
      rows = added_more (take c.loop-key.key-index c.args.keys.now) (take (c.loop-key.key-index + 1) c.args.keys.now) c.key-item.result c.args.queue.now c.loop-key.queue c.add.new.self more c.loop-key.invariant.rows c.add.ensures.rows;
      room = room_twice c.args.queue.now c.loop-key.queue c.add.new.self c.loop-key.invariant.room c.add.ensures.room;
    }
