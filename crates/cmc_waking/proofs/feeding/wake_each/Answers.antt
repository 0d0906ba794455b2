use Rattle.std.proofs.Common.{◌≡◌, ◌+◌, [], ◌∷◌, ◌++◌, inl, refl, take, sym, subst}
use Rattle.std.proofs.lemmas.List.{take_more}
use Rattle.cmc_meta.specs.declared.key.Key.{Key}
use Rattle.cmc_waking.proofs.Feeds.{added_more, among_item, wakes_more, wakes_same}
use Rattle.cmc_waking.proofs.feeding.wake_each.Goals as goal

pub loop-key-init : goal.loop-key-init
loop-key-init c = record { rows = λ k. refl; some = λ k. inl refl }

pub loop-key-preserved : goal.loop-key-preserved
loop-key-preserved c =
    let more = subst (λ (k : Key). take (c.loop-key.key-index + 1) c.args.keys.now ≡ take c.loop-key.key-index c.args.keys.now ++ k ∷ []) (sym c.key-item.is)
    (take_more c.args.keys.now c.loop-key.key-index c.key-item.result c.loop-key-test.true) in
    let among = among_item c.args.keys.now c.loop-key.key-index c.key-item.result c.loop-key-test.true c.key-item.is in
    record {
      rows = added_more (take c.loop-key.key-index c.args.keys.now) (take (c.loop-key.key-index + 1) c.args.keys.now) c.key-item.result c.args.queue.now c.loop-key.queue c.wake.new.self more c.loop-key.invariant.rows c.in_ok-wake.ensures.rows;
      some = wakes_more c.args.keys.now c.key-item.result c.args.queue.now c.loop-key.queue c.wake.new.self among c.loop-key.invariant.some c.in_ok-wake.ensures.rows;
    }

pub returns-in_err-wake-clause-some : goal.returns-in_err-wake-clause-some
returns-in_err-wake-clause-some c = wakes_same c.args.keys.now c.args.queue.now c.loop-key.queue c.wake.new.self c.loop-key.invariant.some c.in_err-wake.ensures.same
