-- Objects that every index finds in the same way.
use Rattle.std.proofs.Common.{◌≡◌, ℕ, Option, Some, None, Bool, true, refl, sym, ap, ◌∙◌}
use Rattle.std.specs.BTreeMap.{is_at}
use Rattle.std.specs.Map.{lookup}
use Rattle.std.specs.Prelude.{is_some, nat_eq}
use Rattle.cmc_meta.specs.declared.key.Key.{Key}
use Rattle.cmc_meta.specs.Keys.{key_cmp}
use Rattle.cmc_objects.specs.declared.object.Object.{Object}
use Rattle.cmc_informer.specs.Caches.{Slotted, has_slot, has_uid, is_owned_by, is_targeting, slot_at}
use Rattle.cmc_informer.specs.Indexed.{AreFoundAlike, HasRoom, IsIndexed}
use Rattle.cmc_informer.specs.Indexes.{Index, Marked, has_place, has_room, is_marked_key, mark_in, mark_of, place_of, is_key_under}
use Rattle.cmc_informer.specs.declared.rows.Rows.{Rows}

on_some : (mark : Option Bool) → is_marked_key mark ≡ true → is_some mark ≡ true
on_some None is = absurd (cc is)
on_some (Some on) is = refl

place_of_mark : (marks : Option Marked) (key : Key) → mark_of marks key ≡ true → place_of marks key ≡ true
unfolding mark_in has_place
place_of_mark None key is = absurd (cc is)
place_of_mark (Some marks) key is = on_some (lookup (is_at (key_cmp key)) marks) is

-- where a key stands, there is room for it
room_of_mark : (index : Index) (uid : ℕ) (key : Key) → is_key_under index uid key ≡ true → has_room index uid key ≡ true
unfolding is_key_under has_room
room_of_mark index uid key is = place_of_mark (lookup (nat_eq uid) index) key is

-- there is room for an object that is found as the one that stands there
pub room_for_alike : (rows : Rows) (key : Key) (object : Option Object) → IsIndexed rows → has_slot rows.slots key ≡ true → AreFoundAlike (slot_at rows.slots key) object → HasRoom rows key object
room_for_alike rows key object indexed slot alike = record {
  slot = slot;
  by_owner = λ uid is. room_of_mark rows.owners uid key (indexed.by_owner uid key ∙ sym (alike.by_owner uid) ∙ is);
  by_uid = λ uid is. room_of_mark rows.uids uid key (indexed.by_uid uid key ∙ sym (alike.by_uid uid) ∙ is);
  by_secret = λ namespace name is. indexed.by_secret key namespace name (sym (alike.by_secret namespace name) ∙ is);
}

-- where each slot holds what it held, the indexes lead where they should
pub indexed_same : (rows : Rows) (fs : Slotted) → IsIndexed rows → ((k : Key) → slot_at fs k ≡ slot_at rows.slots k) → IsIndexed (record rows { slots = fs })
indexed_same rows fs indexed same = record {
  by_owner = λ uid k. indexed.by_owner uid k ∙ ap (is_owned_by uid) (sym (same k));
  by_uid = λ uid k. indexed.by_uid uid k ∙ ap (has_uid uid) (sym (same k));
  by_secret = λ k namespace name is. indexed.by_secret k namespace name (ap (is_targeting namespace name) (sym (same k)) ∙ is);
}
