-- What each write keeps of the object before it, all later versions of a uid keep.
use Rattle.std.proofs.Common.{◌≡◌, ◌≤◌, ◌⊎◌, List, [], ◌∷◌, length, Option, Some, None, Bool, true, false, cond, refl, sym, subst, ◌∙◌, inl, inr, arith}
use Rattle.std.proofs.lemmas.Cmp.{eq_by_cmp_equiv}
use Rattle.std.specs.Ordering.{eq_by_cmp}
use Rattle.cmc_meta.specs.declared.key.Key.{Key}
use Rattle.cmc_meta.specs.Keys.{key_cmp}
use Rattle.cmc_objects.specs.declared.object.Object.{Object}
use Rattle.cmc_model.specs.declared.write.Write.{Write}
use Rattle.cmc_objects.specs.Objects.{version_of}
use Rattle.cmc_model.specs.Objects.{object_at}
use Rattle.cmc_model.specs.Writes.{contents}
use Rattle.cmc_model.specs.Versions.{uid_of, IsVersion}
use Rattle.cmc_meta.proofs.KeyOrder.{key_cmp-total}
use Rattle.cmc_model.proofs.Versions.{IsNew, IsHeir, IsLawful, lawful_object, standing, object_at-put, versions_low, uids_low, one_key}
use Rattle.cmc_model.proofs.Writing.{EachWrite}

-- K is kept from an object to itself, over two steps, and by each write
pub record IsKeptBy (R : Option Object → Option Object → Type 0) (K : Object → Object → Type 0) : Type 0 where
  pub same : (o : Object) → K o o
  pub over : (o p q : Object) → K o p → K p q → K o q
  pub next : (old new : Object) → R (Some old) (Some new) → K old new

-- from an older version of the uid to the object that stands
abbrev IsLinked : (K : Object → Object → Type 0) → List Write → Type 0
IsLinked K ws = (key j : Key) (old p : Object) → object_at (contents ws) key ≡ Some old → IsVersion j p ws → uid_of p ≡ uid_of old → K p old

newest_heir : (R : Option Object → Option Object → Type 0) (K : Object → Object → Type 0) → IsKeptBy R K → (w : Write) (ws : List Write) (new p : Object) (j : Key) (prior : Option Object) → IsLinked K ws
    → object_at (contents ws) w.key ≡ prior → IsHeir new prior → R prior (Some new) → IsVersion j p ws → uid_of p ≡ uid_of new → K p new
newest_heir R K by w ws new p j None linked is heir r has same = absurd heir
newest_heir R K by w ws new p j (Some prior) linked is heir r has same =
    by.over p prior new (linked w.key j prior p is has (same ∙ heir.0)) (by.next prior new r)

-- from an older version to the newest one
newest : (R : Option Object → Option Object → Type 0) (K : Object → Object → Type 0) → IsKeptBy R K → (w : Write) (ws : List Write) (new p : Object) (j : Key) → IsLinked K ws
    → IsLawful (w ∷ ws) → R (object_at (contents ws) w.key) w.object → w.object ≡ Some new → IsVersion j p ws → uid_of p ≡ uid_of new → K p new
newest R K by w ws new p j linked law r is has same = born (lawful_object w ws new law is).1 where
  born : IsNew (length (w ∷ ws)) w.key new ⊎ IsHeir new (object_at (contents ws) w.key) → K p new
  born (inl fresh) = absurd (omega (arith, fresh.0, same, uids_low ws j p law.1 has))
  born (inr heir) =
      newest_heir R K by w ws new p j (object_at (contents ws) w.key) linked refl heir
      (subst (λ (x : Option Object). R (object_at (contents ws) w.key) x) is r) has same

one_as : (o p : Object) (x : Option Object) → x ≡ Some o → x ≡ Some p → o ≡ p
one_as o p x a b = let some : Some o ≡ Some p = sym a ∙ b in cc some

linked_by : (R : Option Object → Option Object → Type 0) (K : Object → Object → Type 0) → IsKeptBy R K → (w : Write) (ws : List Write) (key j : Key) (old p : Object) (b : Bool) → IsLinked K ws
    → IsLawful (w ∷ ws) → R (object_at (contents ws) w.key) w.object → eq_by_cmp key_cmp key w.key ≡ b → cond b w.object (object_at (contents ws) key) ≡ Some old
    → IsVersion j p (w ∷ ws) → uid_of p ≡ uid_of old → K p old
linked_by R K by w ws key j old p true linked law r here is (inl has) same = subst (K p) (one_as p old w.object has.1 is) (by.same p)
linked_by R K by w ws key j old p true linked law r here is (inr has) same = newest R K by w ws old p j linked law r is has same
linked_by R K by w ws key j old p false linked law r here is (inl has) same =
    let one : w.key ≡ key = one_key (w ∷ ws) w.key key p old law (inl (refl, has.1)) (inr (standing ws key old is)) same in
    let tie : eq_by_cmp key_cmp key key ≡ true = (eq_by_cmp_equiv key_cmp-total).refl key in
    absurd (let off : eq_by_cmp key_cmp key key ≡ false = subst (λ (k : Key). eq_by_cmp key_cmp key k ≡ false) one here in cc (tie, off))
linked_by R K by w ws key j old p false linked law r here is (inr has) same = linked key j old p is has same

pub linked : (R : Option Object → Option Object → Type 0) (K : Object → Object → Type 0) → IsKeptBy R K → (ws : List Write) → IsLawful ws → EachWrite R ws → IsLinked K ws
unfolding contents
linked R K by [] law each key j old p is has same = absurd has
linked R K by (w ∷ ws) law each key j old p is has same =
    linked_by R K by w ws key j old p (eq_by_cmp key_cmp key w.key) (linked R K by ws law.1 each.1) law each.0 refl
    (sym (object_at-put (contents ws) w.key w.object key) ∙ is) has same

-- of two versions of one uid the newer one keeps what the older one had
pub versions_linked : (R : Option Object → Option Object → Type 0) (K : Object → Object → Type 0) → IsKeptBy R K → (ws : List Write) → IsLawful ws → EachWrite R ws
    → (j k : Key) (older newer : Object) → IsVersion j older ws → IsVersion k newer ws → uid_of older ≡ uid_of newer → version_of older ≤ version_of newer → K older newer
versions_linked R K by [] law each j k older newer a b same first = absurd a
versions_linked R K by (w ∷ ws) law each j k older newer (inl a) (inl b) same first = subst (K older) (one_as older newer w.object a.1 b.1) (by.same older)
versions_linked R K by (w ∷ ws) law each j k older newer (inl a) (inr b) same first =
    absurd (omega (arith, (lawful_object w ws older law a.1).0, versions_low ws k newer law.1 b, first))
versions_linked R K by (w ∷ ws) law each j k older newer (inr a) (inl b) same first = newest R K by w ws newer older j (linked R K by ws law.1 each.1) law each.0 b.1 a same
versions_linked R K by (w ∷ ws) law each j k older newer (inr a) (inr b) same first = versions_linked R K by ws law.1 each.1 j k older newer a b same first
