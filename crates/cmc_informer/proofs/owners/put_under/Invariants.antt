use Rattle.std.proofs.Common.{◌≡◌, ℕ, take, true}
use Rattle.std.specs.Prelude.{◌&&◌, if◌then◌else◌}
use Rattle.cmc_meta.specs.declared.key.Key.{Key}
use Rattle.cmc_meta.specs.Keys.{key_eq}
use Rattle.cmc_informer.specs.Caches.{names}
use Rattle.cmc_informer.specs.Indexes.{KeepsRooms, has_room, is_key_under}
use Rattle.cmc_informer.proofs.owners.put_under.Given as goal

abbrev pub invariant-loop-owner : goal.invariant-loop-owner
invariant-loop-owner l = record {
  room : (u : ℕ) → names u l.owners ≡ true → has_room l.index u l.key ≡ true;
  put : (u : ℕ) (k : Key) → is_key_under l.index u k ≡ (if names u (take l.owner-index l.owners) && key_eq l.key k then true else is_key_under l.initial.index u k);
  keeps : KeepsRooms l.initial.index l.index;
}
