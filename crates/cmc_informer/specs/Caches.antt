-- What contracts see of a cache: objects in slots, and the indexes that lead to them.
use Rattle.std.specs.Prelude.{◌≡◌, ℕ, ◌==◌, ◌&&◌, Bool, true, false, List, [], ◌∷◌, Option, Some, None, is_some}
use Rattle.std.specs.List.{list_any}
use Rattle.std.specs.Map.{lookup}
use Rattle.cmc_meta.specs.declared.key.Key.{Key}
use Rattle.cmc_meta.specs.declared.key.Kind.TheVariants.{Secret}
use Rattle.cmc_meta.specs.Keys.{key_eq}
use Rattle.cmc_meta.specs.declared.owners.OwnerRef.{OwnerRef}
use Rattle.cmc_objects.specs.declared.object.Object.{Object}
use Rattle.cmc_objects.specs.declared.object.Object.TheVariants.{Cert}
use Rattle.cmc_objects.specs.Objects.{meta_of}
use Rattle.cmc_model.specs.Objects.{Objects, no_objects}
use Rattle.cmc_model.specs.Replies.{put_at}
use Rattle.std.specs.Str.{bytes_eq}
use Rattle.cmc_model.specs.declared.write.Write.{Write}
use Rattle.cmc_informer.specs.Indexes.{Index, Targeted, has_room, points}

-- keys, in no order, each with its object; one without is room alone
abbrev pub Slotted : Type 0
Slotted = List (Key × Option Object)

abbrev pub object_in_slot : Option (Option Object) → Option Object
object_in_slot None = None
object_in_slot (Some held) = held

-- the object in the slot of the key
unfoldable pub slot_at : Slotted → Key → Option Object
slot_at slots key = object_in_slot (lookup (key_eq key) slots)

unfoldable pub has_slot : Slotted → Key → Bool
has_slot slots key = is_some (lookup (key_eq key) slots)

-- the objects that the slots hold
unfoldable pub objects_in : Slotted → Objects
objects_in [] = no_objects
objects_in (e ∷ es) = put_at (objects_in es) e.0 e.1

-- the objects after these writes, the oldest of which comes first
abbrev pub after_writes : Objects → List Write → Objects
after_writes objects [] = objects
after_writes objects (w ∷ ws) = after_writes (put_at objects w.key w.object) ws

-- ---- whom objects belong to

-- whether one of the references names the uid
abbrev pub names : ℕ → List OwnerRef → Bool
names uid owners = list_any (λ owner. owner.uid == uid) owners

-- whether there is an object, and it names the uid as an owner
abbrev pub is_owned_by : ℕ → Option Object → Bool
is_owned_by uid None = false
is_owned_by uid (Some o) = names uid (meta_of o).owners

-- whether there is an object, and it has the uid
abbrev pub has_uid : ℕ → Option Object → Bool
has_uid uid None = false
has_uid uid (Some o) = uid == (meta_of o).uid

-- whether there is a Certificate of the namespace, and it names this Secret for its key and certificate
abbrev pub is_targeting : List ℕ → List ℕ → Option Object → Bool
is_targeting namespace name (Some (Cert c)) = bytes_eq c.meta.namespace namespace && bytes_eq c.spec.secret_name name
is_targeting namespace name other = false

-- the key of the Secret of this namespace and this name
abbrev pub secret_key : List ℕ → List ℕ → Key
secret_key namespace name = record { kind = Secret; namespace = namespace; name = name }

-- under each uid that the object is to be found by, there is room for the key
abbrev pub HasRoomsByUid : (ℕ → Option Object → Bool) → Index → Option Object → Key → Type 0
HasRoomsByUid finds index object key = (uid : ℕ) → finds uid object ≡ true → has_room index uid key ≡ true

-- the Secret that the object names, where it names one, leads to the key
abbrev pub IsLedTo : Targeted → Option Object → Key → Type 0
IsLedTo index object key = (namespace name : List ℕ) → is_targeting namespace name object ≡ true → points index (secret_key namespace name) key ≡ true
