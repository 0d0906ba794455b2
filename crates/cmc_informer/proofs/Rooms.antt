-- Rooms for a list of writes.
use Rattle.std.proofs.Common.{◌≡◌, List, [], ◌∷◌, ◌++◌, subst}
use Rattle.cmc_model.specs.declared.write.Write.{Write}
use Rattle.cmc_informer.specs.declared.rows.Rows.{Rows}
use Rattle.cmc_informer.specs.Caches.{secret_key}
use Rattle.cmc_informer.specs.Indexed.{HasRoom, HasRoomFor, KeepsRoom}

pub room_stays : (a b : Rows) (w : Write) → KeepsRoom a b → HasRoom a w.key w.object → HasRoom b w.key w.object
room_stays a b w keeps has = record { slot = keeps.slots_kept w.key has.slot; by_owner = λ u is. keeps.owners_kept u w.key (has.by_owner u is); by_uid = λ u is. keeps.uids_kept u w.key (has.by_uid u is); by_secret = λ namespace name is. keeps.targets_kept (secret_key namespace name) w.key (has.by_secret namespace name is) }

pub rooms_stay : (a b : Rows) (ws : List Write) → KeepsRoom a b → HasRoomFor a ws → HasRoomFor b ws
rooms_stay a b [] keeps has = tt
rooms_stay a b (w ∷ ws) keeps has = (room_stays a b w keeps has.0, rooms_stay a b ws keeps has.1)

pub room_added : (a : Rows) (ws : List Write) (w : Write) → HasRoomFor a ws → HasRoom a w.key w.object → HasRoomFor a (ws ++ w ∷ [])
room_added a [] w has one = (one, tt)
room_added a (v ∷ ws) w has one = (has.0, room_added a ws w has.1 one)

-- a write is made, and the rooms for the later ones are left
pub rooms_left : (a b : Rows) (w : Write) (left rest : List Write) → left ≡ w ∷ rest → KeepsRoom a b → HasRoomFor a left → HasRoomFor b rest
rooms_left a b w left rest steps keeps has = rooms_stay a b rest keeps (subst (λ (ws : List Write). HasRoomFor a ws) steps has).1
