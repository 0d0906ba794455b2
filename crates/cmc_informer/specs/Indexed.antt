-- What contracts see of rows: slots with the indexes that lead to their objects.
use Rattle.std.specs.Prelude.{◌≡◌, ℕ, true, List, [], ◌∷◌, Option}
use Rattle.cmc_meta.specs.declared.key.Key.{Key}
use Rattle.cmc_objects.specs.declared.object.Object.{Object}
use Rattle.cmc_model.specs.declared.write.Write.{Write}
use Rattle.cmc_informer.specs.declared.rows.Rows.{Rows}
use Rattle.cmc_informer.specs.Indexes.{KeepsPoints, KeepsRooms, is_key_under}
use Rattle.cmc_informer.specs.Caches.{HasRoomsByUid, IsLedTo, has_slot, has_uid, is_owned_by, is_targeting, slot_at}

-- an index of uids leads to exactly the keys whose object it asks for, and that of Secrets to those and maybe to more
pub record IsIndexed (rows : Rows) : Type 0 where
  pub by_owner : (uid : ℕ) (key : Key) → is_key_under rows.owners uid key ≡ is_owned_by uid (slot_at rows.slots key)
  pub by_uid : (uid : ℕ) (key : Key) → is_key_under rows.uids uid key ≡ has_uid uid (slot_at rows.slots key)
  pub by_secret : (key : Key) → IsLedTo rows.targets (slot_at rows.slots key) key

-- the indexes find both by the same owners, the same uid and the same Secret
pub record AreFoundAlike (before after : Option Object) : Type 0 where
  pub by_owner : (uid : ℕ) → is_owned_by uid after ≡ is_owned_by uid before
  pub by_uid : (uid : ℕ) → has_uid uid after ≡ has_uid uid before
  pub by_secret : (namespace name : List ℕ) → is_targeting namespace name after ≡ is_targeting namespace name before

-- there is room for the object under the key, or for there being none, and its Secret leads to the key already
pub record HasRoom (rows : Rows) (key : Key) (object : Option Object) : Type 0 where
  pub slot : has_slot rows.slots key ≡ true
  pub by_owner : HasRoomsByUid is_owned_by rows.owners object key
  pub by_uid : HasRoomsByUid has_uid rows.uids object key
  pub by_secret : IsLedTo rows.targets object key

abbrev pub HasRoomFor : Rows → List Write → Type 0
HasRoomFor rows [] = Unit {0}
HasRoomFor rows (w ∷ ws) = HasRoom rows w.key w.object × HasRoomFor rows ws

-- no room is lost, and nothing that a Secret leads to
pub record KeepsRoom (old new : Rows) : Type 0 where
  pub slots_kept : (key : Key) → has_slot old.slots key ≡ true → has_slot new.slots key ≡ true
  pub owners_kept : KeepsRooms old.owners new.owners
  pub uids_kept : KeepsRooms old.uids new.uids
  pub targets_kept : KeepsPoints old.targets new.targets
