-- What the collector's caches hold, and which objects are orphans by them.
use Rattle.std.specs.Prelude.{ℕ, ◌&&◌, not, Bool, true, false, List, [], ◌∷◌, Option, Some, None, if◌then◌else◌, nat_le}
use Rattle.cmc_meta.specs.declared.key.Key.{Key}
use Rattle.cmc_meta.specs.declared.key.Kind.{Kind}
use Rattle.cmc_meta.specs.declared.owners.OwnerRef.{OwnerRef}
use Rattle.cmc_objects.specs.declared.object.Object.{Object}
use Rattle.cmc_model.specs.Objects.{object_at}
use Rattle.cmc_model.specs.Histories.{Setting, accepted}
use Rattle.cmc_model.specs.Writes.{kind_eq, objects_of}
use Rattle.cmc_informer.specs.Caches.{has_uid}
use Rattle.cmc_collector.specs.declared.entry.CollectEntry.{CollectEntry}
use Rattle.cmc_collector.specs.declared.entry.CollectEntry.TheVariants.{Deliver, List as Listed}
use Rattle.cmc_collector.specs.declared.entry.Moment.{Moment}
use Rattle.cmc_collector.specs.Owners.{owners_of}
use Rattle.cmc_collector.specs.Replays.{owner_key, played}

abbrev pub position_with : Kind → ℕ → CollectEntry → ℕ
position_with kind before (Deliver told to) = if kind_eq told kind then to else before
position_with kind before (Listed told to) = if kind_eq told kind then to else before
position_with kind before other = before

-- of how many accepted writes the cache of the kind was told
abbrev pub position : Kind → List Moment → ℕ
position kind [] = 0
position kind (m ∷ ms) = position_with kind (position kind ms) m.entry

-- what the cache of its kind holds under the key
abbrev pub cached_object : Setting → List Moment → Key → Option Object
cached_object s ms key = object_at (objects_of key.kind s (played ms) (position key.kind ms)) key

-- of `given` uids that were given out this is one, and the object that is found does not have it
abbrev pub is_gone : ℕ → ℕ → Option Object → Bool
is_gone given uid found = nat_le uid given && not (has_uid uid found)

abbrev pub are_gone : (Key → Option Object) → ℕ → List ℕ → List OwnerRef → Bool
are_gone found given namespace [] = true
are_gone found given namespace (o ∷ os) = is_gone given o.uid (found (owner_key namespace o)) && are_gone found given namespace os

-- there is an object, with owners
abbrev pub has_owners : List OwnerRef → Bool
has_owners [] = false
has_owners (o ∷ os) = true

abbrev pub has_any_owner : Option Object → Bool
has_any_owner None = false
has_any_owner (Some o) = has_owners (owners_of o)

-- there is an object with owners, none of which is found
abbrev pub is_orphan_in : (Key → Option Object) → ℕ → List ℕ → Option Object → Bool
is_orphan_in found given namespace None = false
is_orphan_in found given namespace (Some o) = has_owners (owners_of o) && are_gone found given namespace (owners_of o)

-- by the caches there is an object under the key that has owners, and all of them are dead
abbrev pub is_orphan : Setting → List Moment → Key → Bool
is_orphan s ms key = is_orphan_in (cached_object s ms) (accepted s (played ms)) key.namespace (cached_object s ms key)
