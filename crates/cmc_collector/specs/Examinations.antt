-- Examinations: before an object is deleted each of its owners is looked for in the store.
use Rattle.std.specs.Prelude.{◌≡◌, ◌≢◌, ℕ, ◌+◌, ◌≤◌, ◌==◌, ◌||◌, Bool, true, false, List, [], ◌∷◌, take, slice_get, Option, Some, None, if◌then◌else◌, is_some}
use Rattle.cmc_meta.specs.declared.key.Key.{Key}
use Rattle.cmc_meta.specs.declared.owners.OwnerRef.{OwnerRef}
use Rattle.cmc_meta.specs.Keys.{key_eq}
use Rattle.cmc_objects.specs.declared.object.Object.{Object}
use Rattle.cmc_objects.specs.declared.call.Reply.{Reply}
use Rattle.cmc_objects.specs.declared.call.Reply.TheVariants.{Found, Unavailable}
use Rattle.cmc_objects.specs.declared.entry.Entry.{Entry}
use Rattle.cmc_model.specs.Histories.{Setting, accepted}
use Rattle.cmc_model.specs.Versions.{uid_of, HasVersion}
use Rattle.cmc_collector.specs.declared.entry.CollectEntry.{CollectEntry}
use Rattle.cmc_collector.specs.declared.entry.CollectEntry.TheVariants.{Look, Delete}
use Rattle.cmc_collector.specs.declared.entry.Moment.{Moment}
use Rattle.cmc_collector.specs.declared.examination.Examination.{Examination}
use Rattle.cmc_collector.specs.CachePositions.{cached_object, is_orphan}
use Rattle.cmc_collector.specs.Owners.{AreDead, owners_of}

-- the owner that is looked for next; none where each was looked for
abbrev pub next_owner : Examination → Option OwnerRef
next_owner x = slice_get (owners_of x.object) x.next

-- a look finds the owner where the object that it finds has the owner's uid
abbrev pub finds_owner : OwnerRef → Reply → Bool
finds_owner owner (Found o) = uid_of o == owner.uid
finds_owner owner other = false

abbrev pub is_unavailable : Reply → Bool
is_unavailable (Unavailable number) = true
is_unavailable other = false

-- the examination after a look for its next owner: it ends where the owner is found, or nothing was answered
abbrev pub examined_after : OwnerRef → Reply → Examination → Option Examination
examined_after owner reply x = if finds_owner owner reply || is_unavailable reply then None else Some (record x { next = x.next + 1 })

-- the examination that goes on, or the one that begins with an orphan
abbrev pub current_of : Option Examination → Bool → Option Object → Option Examination
current_of (Some x) orphan held = Some x
current_of None false held = None
current_of None true None = None
current_of None true (Some o) = Some (record { object = o; next = 0 })

abbrev pub looked_from : OwnerRef → Reply → Option Examination → Option Examination
looked_from owner reply None = None
looked_from owner reply (Some x) = examined_after owner reply x

-- a look takes the examination of its key one owner further, a delete ends it
abbrev pub examined_with : Key → Option Examination → Option Examination → CollectEntry → Option Examination
examined_with key before current (Look looked_at owner reply) = if key_eq looked_at key then looked_from owner reply current else before
examined_with key before current (Delete deleted version reply) = if key_eq deleted key then None else before
examined_with key before current other = before

-- the examination of the key that has not ended
abbrev pub examination : Setting → List Moment → Key → Option Examination
examination s [] key = None
examination s (m ∷ ms) key = examined_with key (examination s ms key) (current_of (examination s ms key) (is_orphan s ms key) (cached_object s ms key)) m.entry

-- the examination with which Examine goes on, or which it begins
abbrev pub current : Setting → List Moment → Key → Option Examination
current s ms key = current_of (examination s ms key) (is_orphan s ms key) (cached_object s ms key)

-- there is something to examine under the key
abbrev pub is_to_examine : Setting → List Moment → Key → Bool
is_to_examine s ms key = is_some (current s ms key)

-- What holds of an examination: its object was a version under the key, has owners, each of whose uids was given out, and those that were
-- looked for are dead.
pub record IsExamined (s : Setting) (h : List Entry) (key : Key) (x : Examination) : Type 0 where
  pub was : HasVersion s h key x.object
  pub owned : owners_of x.object ≢ []
  pub given : (n : ℕ) (o : OwnerRef) → slice_get (owners_of x.object) n ≡ Some o → o.uid ≤ accepted s h
  pub dead : AreDead key.namespace (take x.next (owners_of x.object)) s h
