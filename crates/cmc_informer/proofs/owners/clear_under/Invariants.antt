use Rattle.std.proofs.Common.{◌≡◌, ℕ, take, false}
use Rattle.std.specs.Prelude.{◌&&◌, if◌then◌else◌}
use Rattle.cmc_meta.specs.declared.key.Key.{Key}
use Rattle.cmc_meta.specs.Keys.{key_eq}
use Rattle.cmc_informer.specs.Indexes.{KeepsRooms, is_key_under}
use Rattle.cmc_informer.specs.Caches.{names}
use Rattle.cmc_informer.proofs.owners.clear_under.Given as goal

abbrev pub invariant-loop-owner : goal.invariant-loop-owner
invariant-loop-owner l = record {
  cleared : (u : ℕ) (k : Key) → is_key_under l.index u k ≡ (if names u (take l.owner-index l.owners) && key_eq l.key k then false else is_key_under l.initial.index u k);
  keeps : KeepsRooms l.initial.index l.index;
}
