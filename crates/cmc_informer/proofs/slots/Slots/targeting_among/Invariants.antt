use Rattle.std.proofs.Common.{◌≡◌, ◌++◌}
use Rattle.std.specs.List.{filter}
use Rattle.std.specs.Vec.Iter.{into_iter_items}
use Rattle.cmc_informer.specs.Caches.{is_targeting, slot_at}
use Rattle.cmc_informer.proofs.slots.Slots.targeting_among.Given as goal

abbrev pub invariant-loop-key : goal.invariant-loop-key
invariant-loop-key l =
    l.kept ++ filter (λ k. is_targeting l.namespace l.name (slot_at l.self k)) (into_iter_items l.key-iterator) ≡ filter (λ k. is_targeting l.namespace l.name (slot_at l.self k)) l.fn.keys
