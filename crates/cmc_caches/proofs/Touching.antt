-- What writes touch, one write after the other.
use Rattle.std.proofs.Common.{◌≡◌, inl, inr, ℕ, Bool, true, false, cond, List, [], ◌∷◌, ◌++◌, map, Option, Some, None, refl, sym, ap, ◌∙◌, subst}
use Rattle.std.proofs.lemmas.Bool.{or_parts}
use Rattle.std.proofs.lemmas.List.Folds.{list_any-append}
use Rattle.std.specs.BTreeMap.{is_at}
use Rattle.std.specs.Ordering.{is_eq}
use Rattle.std.specs.Prelude.{◌||◌, ◌==◌, if◌then◌else◌}
use Rattle.cmc_meta.specs.declared.key.Key.{Key}
use Rattle.cmc_meta.specs.declared.owners.OwnerRef.{OwnerRef}
use Rattle.cmc_meta.specs.Keys.{key_cmp}
use Rattle.cmc_objects.specs.declared.object.Object.{Object}
use Rattle.cmc_objects.specs.Objects.{meta_of}
use Rattle.cmc_model.specs.Objects.{Objects, object_at}
use Rattle.cmc_model.specs.Replies.{put_at}
use Rattle.cmc_model.proofs.Versions.{object_at-put}
use Rattle.cmc_informer.specs.Caches.{is_owned_by, names}
use Rattle.cmc_informer.proofs.OneMark.{same_key}
use Rattle.cmc_caches.specs.Affected.{AddsOwners, AreSameBut, AreSameButOf, IsForeign, is_among, is_uid_among, owner_uids_of}

-- ---- keys

-- one write more: its key is listed, if it is one of the kind
pub same_more : (b : Bool) (m n next : Objects) (keys more : List Key) (key : Key) (o : Option Object) → next ≡ (if b then put_at n key o else n) → more ≡ (if b then keys ++ key ∷ [] else keys)
    → AreSameBut keys m n → AreSameBut more m next
same_more true m n next keys more key o is are so q off =
    let there : is_among (keys ++ key ∷ []) q ≡ false = ap (λ (l : List Key). is_among l q) (sym are) ∙ off in
    let parts = or_parts (is_among keys q) (is_eq (key_cmp q key) || false) (sym (list_any-append (is_at (key_cmp q)) keys (key ∷ [])) ∙ there) in
    so q parts.0 ∙ sym (ap (λ (x : Objects). object_at x q) is ∙ object_at-put n key o q ∙ ap (λ (b : Bool). cond b o (object_at n q)) (or_parts (is_eq (key_cmp q key)) false parts.1).0)
same_more false m n next keys more key o is are so q off = so q (ap (λ (l : List Key). is_among l q) (sym are) ∙ off) ∙ sym (ap (λ (x : Objects). object_at x q) is)

-- ---- owners

named_uids : (owners : List OwnerRef) (u : ℕ) → is_uid_among (map (λ owner. owner.uid) owners) u ≡ names u owners
named_uids [] u = refl
named_uids (o ∷ os) u = ap (λ b. (o.uid == u) || b) (named_uids os u)

pub owner_uids : (o : Option Object) (u : ℕ) → is_uid_among (owner_uids_of o) u ≡ is_owned_by u o
owner_uids None u = refl
owner_uids (Some o) u = named_uids (meta_of o).owners u

foreign_by : (b : Bool) (m n next : Objects) (key : Key) (o : Option Object) (u : ℕ) (q : Key) → is_eq (key_cmp q key) ≡ b → object_at next q ≡ cond b o (object_at n q)
    → is_owned_by u (object_at m key) ≡ false → is_owned_by u o ≡ false → IsForeign u m n q → IsForeign u m next q
foreign_by true m n next key o u q e at before after old = inr (ap (λ (k : Key). is_owned_by u (object_at m k)) (same_key q key e) ∙ before, ap (is_owned_by u) at ∙ after)
foreign_by false m n next key o u q e at before after (inl same) = inl (same ∙ sym at)
foreign_by false m n next key o u q e at before after (inr off) = inr (off.0, ap (is_owned_by u) at ∙ off.1)

foreign_on : (m n : Objects) (uids more : List ℕ) (key : Key) (o : Option Object) → AddsOwners (object_at m key) o uids more → AreSameButOf uids m n → AreSameButOf more m (put_at n key o)
foreign_on m n uids more key o adds so u off q =
    let parts = or_parts (is_uid_among uids u) (is_uid_among (owner_uids_of (object_at m key)) u || is_uid_among (owner_uids_of o) u) (sym (adds u) ∙ off) in
    let both = or_parts (is_uid_among (owner_uids_of (object_at m key)) u) (is_uid_among (owner_uids_of o) u) parts.1 in
    foreign_by (is_eq (key_cmp q key)) m n (put_at n key o) key o u q refl (object_at-put n key o q) (sym (owner_uids (object_at m key) u) ∙ both.0) (sym (owner_uids o u) ∙ both.1) (so u parts.0 q)

-- One write more: the owners of what it leaves are listed, and those of what stood at first. What stood just before it was left by one of the
-- writes before it, or stood at first.
pub foreign_more : (b : Bool) (m n next : Objects) (uids more : List ℕ) (key : Key) (o : Option Object) → next ≡ (if b then put_at n key o else n)
    → (b ≡ true → AddsOwners (object_at m key) o uids more) → (b ≡ false → more ≡ uids) → AreSameButOf uids m n → AreSameButOf more m next
foreign_more true m n next uids more key o is adds same so = subst (λ (x : Objects). AreSameButOf more m x) (sym is) (foreign_on m n uids more key o (adds refl) so)
foreign_more false m n next uids more key o is adds same so = subst (λ (x : Objects). AreSameButOf more m x) (sym is) (subst (λ (us : List ℕ). AreSameButOf us m n) (sym (same refl)) so)
