-- The uid of an object is the number of a write that names its key: so no uid is that of objects under two keys.
use Rattle.std.proofs.Common.{◌≡◌, ℕ, List, true, false, Bool, Option, Some, None, refl, sym, ap, ◌∙◌, subst}
use Rattle.std.proofs.lemmas.Bool.{eqb-true}
use Rattle.cmc_meta.specs.declared.key.Key.{Key}
use Rattle.cmc_meta.specs.declared.key.Kind.{Kind}
use Rattle.cmc_objects.specs.declared.object.Object.{Object}
use Rattle.cmc_model.specs.declared.write.Write.{Write}
use Rattle.cmc_model.specs.Objects.{object_at}
use Rattle.cmc_model.specs.Versions.{uid_of, IsVersion}
use Rattle.cmc_model.specs.Writes.{of_kind, oldest, write_at}
use Rattle.cmc_model.proofs.Versions.{standing, version_of_kind, version_of_oldest}
use Rattle.std.specs.Prelude.{if◌then◌else◌}
use Rattle.cmc_informer.specs.Caches.{has_uid}
use Rattle.cmc_informer.specs.Indexes.{Finds}
use Rattle.cmc_caches.specs.Affected.{IsEachUidOfOneKey}
use Rattle.cmc_caches.specs.Board.{AreBornWhereNumbered, objects_by}

uid_at : (o : Option Object) (uid : ℕ) → has_uid uid o ≡ true → (x : Object) × (o ≡ Some x) × (uid ≡ uid_of x)
uid_at None uid is = absurd (cc is)
uid_at (Some x) uid is = (x, refl, eqb-true uid (uid_of x) is)

-- the write of the number of the uid names the key of each object that has it
pub born_at : (kind : Kind) (p : ℕ) (ws : List Write) (uid : ℕ) (key : Key) → AreBornWhereNumbered ws → has_uid uid (object_at (objects_by kind p ws) key) ≡ true → (w : Write) × (write_at uid ws ≡ Some w) × (w.key ≡ key)
born_at kind p ws uid key born is =
    let one = uid_at (object_at (objects_by kind p ws) key) uid is in
    let has : IsVersion key one.0 ws = version_of_oldest p key one.0 ws (version_of_kind kind key one.0 (oldest p ws) (standing (of_kind kind (oldest p ws)) key one.0 one.1)) in
    let there = born key one.0 has in
    (there.0, ap (λ (n : ℕ). write_at n ws) one.2 ∙ there.1, there.2)

pub each_of_one_key : (kind : Kind) (p : ℕ) (ws : List Write) → AreBornWhereNumbered ws → IsEachUidOfOneKey (objects_by kind p ws)
each_of_one_key kind p ws born uid j k at_j at_k =
    let one = born_at kind p ws uid j born at_j in
    let other = born_at kind p ws uid k born at_k in
    let same : one.0 ≡ other.0 = let both : Some one.0 ≡ Some other.0 = sym one.1 ∙ other.1 in cc in
    sym one.2 ∙ ap (λ (w : Write). w.key) same ∙ other.2

-- what the look-up by a uid finds
pub none_born : (kind : Kind) (p : ℕ) (ws : List Write) (uid : ℕ) → AreBornWhereNumbered ws → write_at uid ws ≡ None → (key : Key) → has_uid uid (object_at (objects_by kind p ws) key) ≡ false
none_born kind p ws uid born none key = by (has_uid uid (object_at (objects_by kind p ws) key)) refl where
  by : (b : Bool) → has_uid uid (object_at (objects_by kind p ws) key) ≡ b → has_uid uid (object_at (objects_by kind p ws) key) ≡ false
  by true is = absurd (let one = born_at kind p ws uid key born is in let no : None ≡ Some one.0 = sym none ∙ one.1 in cc no)
  by false is = is

pub none_other : (kind : Kind) (p : ℕ) (ws : List Write) (uid : ℕ) (w : Write) → AreBornWhereNumbered ws → write_at uid ws ≡ Some w → has_uid uid (object_at (objects_by kind p ws) w.key) ≡ false
    → (key : Key) → has_uid uid (object_at (objects_by kind p ws) key) ≡ false
none_other kind p ws uid w born at off key = by (has_uid uid (object_at (objects_by kind p ws) key)) refl where
  by : (b : Bool) → has_uid uid (object_at (objects_by kind p ws) key) ≡ b → has_uid uid (object_at (objects_by kind p ws) key) ≡ false
  by true is = absurd (
      let one = born_at kind p ws uid key born is in
      let both : Some w ≡ Some one.0 = sym at ∙ one.1 in
      let same : w ≡ one.0 = cc in
      let on : has_uid uid (object_at (objects_by kind p ws) w.key) ≡ true = ap (λ (k : Key). has_uid uid (object_at (objects_by kind p ws) k)) (ap (λ (v : Write). v.key) same ∙ one.2) ∙ is in
      cc (on, off))
  by false is = is

pub finds_born : (kind : Kind) (p : ℕ) (ws : List Write) (uid : ℕ) (w : Write) (found : Option Key) → AreBornWhereNumbered ws → write_at uid ws ≡ Some w
    → found ≡ (if has_uid uid (object_at (objects_by kind p ws) w.key) then Some w.key else None) → Finds (λ k. has_uid uid (object_at (objects_by kind p ws) k)) found
finds_born kind p ws uid w found born at is = subst (Finds (λ k. has_uid uid (object_at (objects_by kind p ws) k))) (sym is) (by (has_uid uid (object_at (objects_by kind p ws) w.key)) refl) where
  by : (b : Bool) → has_uid uid (object_at (objects_by kind p ws) w.key) ≡ b → Finds (λ k. has_uid uid (object_at (objects_by kind p ws) k)) (if b then Some w.key else None)
  by true has = has
  by false off = none_other kind p ws uid w born at off
