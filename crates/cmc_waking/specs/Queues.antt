-- What contracts see of the work queues of all roles.
use Rattle.std.specs.Prelude.{◌≡◌, ◌⊎◌, ℤ, false, true, List, [], slice_index_or, Option, IfSome}
use Rattle.cmc_meta.specs.declared.key.Key.{Key}
use Rattle.cmc_objects.specs.declared.role.Role.{Role}
use Rattle.cmc_objects.specs.Roles.{role_rank}
use Rattle.cmc_queue.specs.declared.row.Parked.{Parked}
use Rattle.cmc_queue.specs.declared.row.Row.{Row}
use Rattle.cmc_queue.specs.Rows.{added}
use Rattle.cmc_queue.specs.Queues.{has_room, has_room_at, has_room_for, row_of, KeepsRoom, Work}
use Rattle.cmc_caches.specs.Affected.{is_among}
use Rattle.cmc_model.specs.Histories.{role_eq}

abbrev pub no_queue : Work
no_queue = record { rows = []; moments = []; certificates = []; requests = []; secrets = [] }

-- the queue of the role; the queues stand in the order of roles
unfoldable pub queue_in : List Work → Role → Work
queue_in queues role = slice_index_or queues (role_rank role) no_queue

-- the row of the key in the queue of the role
abbrev pub row_at : List Work → Role → Key → Row
row_at queues role key = row_of (queue_in queues role) key

-- the queues of all other roles are as they were
abbrev pub KeepsOthers : Role → List Work → List Work → Type 0
KeepsOthers role old new = (r : Role) → role_eq role r ≡ false → queue_in new r ≡ queue_in old r

-- no row changes
abbrev pub KeepsRows : List Work → List Work → Type 0
KeepsRows old new = (r : Role) (key : Key) → row_at new r key ≡ row_at old r key

-- no room is lost
abbrev pub KeepsRooms : List Work → List Work → Type 0
KeepsRooms old new = (r : Role) → KeepsRoom (queue_in old r) (queue_in new r)

-- the keys have rows
abbrev pub HasRooms : List Key → Work → Type 0
HasRooms keys queue = (key : Key) → is_among keys key ≡ true → has_room queue key ≡ true

-- the key has a place at the moment, if there is one
abbrev pub HasPlaceAt : Option ℤ → Key → Work → Type 0
HasPlaceAt next key queue = IfSome next (λ at. has_room_at queue at key ≡ true)

-- the key has a place at the version, if there is one
abbrev pub HasPlaceFor : Option Parked → Key → Work → Type 0
HasPlaceFor parked key queue = IfSome parked (λ p. has_room_for queue p.kind p.version key ≡ true)

-- each row is as it was, or that of one of the keys and ready
abbrev pub WakesSome : List Key → Work → Work → Type 0
WakesSome keys old new = (key : Key) → (row_of new key ≡ row_of old key) ⊎ ((is_among keys key ≡ true) × (row_of new key ≡ added (row_of old key)))
