-- Which owners are dead, and what a collector may delete.
use Rattle.std.specs.Prelude.{◌≡◌, ◌≢◌, ℕ, ◌≤◌, true, List, [], ◌∷◌, Some}
use Rattle.cmc_meta.specs.declared.key.Key.{Key}
use Rattle.cmc_meta.specs.declared.owners.OwnerRef.{OwnerRef}
use Rattle.cmc_objects.specs.declared.object.Object.{Object}
use Rattle.cmc_objects.specs.declared.entry.Entry.{Entry}
use Rattle.cmc_objects.specs.Objects.{meta_of}
use Rattle.cmc_model.specs.Objects.{Objects, object_at}
use Rattle.cmc_model.specs.Replies.{is_accepted}
use Rattle.cmc_model.specs.Histories.{Setting, objects, accepted}
use Rattle.cmc_model.specs.Verdicts.{IsAnswered}
use Rattle.cmc_model.specs.Versions.{uid_of}
use Rattle.cmc_collector.specs.declared.entry.CollectEntry.{CollectEntry}
use Rattle.cmc_collector.specs.declared.entry.CollectEntry.TheVariants.{Delete}
use Rattle.cmc_collector.specs.declared.entry.Moment.{Moment}
use Rattle.cmc_collector.specs.Replays.{owner_key, played}

abbrev pub owners_of : Object → List OwnerRef
owners_of object = (meta_of object).owners

-- the uid was given out, and no object under the key has it
abbrev pub IsGone : Key → ℕ → Objects → ℕ → Type 0
IsGone key uid stored given = (uid ≤ given) × ((o : Object) → object_at stored key ≡ Some o → uid_of o ≡ uid → ⊥)

-- An owner is dead where its uid was given out and no object has its kind, the namespace, its name and its uid. A uid that was
-- not given out yet may still come.
abbrev pub IsDead : List ℕ → OwnerRef → Setting → List Entry → Type 0
IsDead namespace owner s h = IsGone (owner_key namespace owner) owner.uid (objects s h) (accepted s h)

abbrev pub AreDead : List ℕ → List OwnerRef → Setting → List Entry → Type 0
AreDead namespace [] s h = Unit {0}
AreDead namespace (o ∷ os) s h = IsDead namespace o s h × AreDead namespace os s h

-- the object that stands under the key has owners, and each of them is dead
pub record IsGoodCollect (s : Setting) (h : List Entry) (key : Key) : Type 0 where
  pub object : Object
  pub stands : object_at (objects s h) key ≡ Some object
  pub owned : owners_of object ≢ []
  pub dead : AreDead key.namespace (owners_of object) s h

abbrev pub IsGoodEntry : Setting → List Entry → CollectEntry → Type 0
IsGoodEntry s h (Delete key version reply) = is_accepted reply ≡ true → IsGoodCollect s h key
IsGoodEntry s h other = Unit {0}

-- directly before each accepted delete of the collector, what it deletes had dead owners alone
abbrev pub AreGood : Setting → List Moment → Type 0
AreGood s [] = Unit {0}
AreGood s (m ∷ ms) = IsGoodEntry s (played ms) m.entry × AreGood s ms

-- what is promised of each collection: every reply is the store's, and every accepted delete is a good one
pub record CollectsWell (s : Setting) (ms : List Moment) : Type 0 where
  pub answered : IsAnswered s (played ms)
  pub good : AreGood s ms
