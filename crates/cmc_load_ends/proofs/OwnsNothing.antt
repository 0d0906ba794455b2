-- A Certificate that is applied for the first time owns nothing.
use Rattle.std.proofs.Common.{◌≡◌, ◌≢◌, ◌==◌, ℕ, List, [], ◌∷◌, Bool, true, false, Option, Some, None, refl, sym, ap, subst, inl, inr}
use Rattle.std.proofs.lemmas.Bool.{and_parts, eqb-true}
use Rattle.std.specs.FinMap as map
use Rattle.std.specs.List.{list_any}
use Rattle.std.specs.Prelude.{◌&&◌, ◌||◌, filter_map, if◌then◌else◌}
use Rattle.std.specs.Str.{bytes_eq}
use Rattle.cmc_meta.specs.declared.key.Key.{Key}
use Rattle.cmc_meta.specs.declared.object_meta.ObjectMeta.{ObjectMeta}
use Rattle.cmc_meta.specs.declared.owners.OwnerRef.{OwnerRef}
use Rattle.cmc_objects.specs.declared.certificate.Certificate.{Certificate}
use Rattle.cmc_objects.specs.declared.object.Object.{Object}
use Rattle.cmc_objects.specs.declared.object.Object.TheVariants.{Cert, Request, Secret}
use Rattle.cmc_model.specs.declared.write.Write.{Write}
use Rattle.cmc_model.specs.Histories.{Setting}
use Rattle.cmc_model.specs.Objects.{Objects, object_at}
use Rattle.cmc_rules.specs.Owners.{owner_of}
use Rattle.cmc_rules.specs.SeenObjects.{IsAmong}
use Rattle.cmc_rules.specs.Views.{has_next_label, is_owned, next_in, next_of, owned_in, requests_of}
use Rattle.cmc_rules.proofs.Sighted.{picked, stands_among}
use Rattle.cmc_load_laws.proofs.BelongingVersions.{IsCertificateIn, IsMadeFor, IsOf, OfSecret}

none_by : {A : Type 0} (f : Object → Option A) (m : Objects) → ((key : Key) (o : Object) → object_at m key ≡ Some o → f o ≡ None) → (xs : List A) → filter_map (λ (e : Key × Object). f e.1) (map.entries m) ≡ xs → xs ≡ []
none_by f m none [] is = refl
none_by f m none (x ∷ xs) is =
    let p = picked (λ (e : Key × Object). f e.1) (map.entries m) x (subst (IsAmong x) (sym is) (inl refl)) in
    absurd (let off = none p.0.0 p.0.1 (stands_among m p.0 p.1) in let on = p.2 in cc (off, on))

-- what is picked of no object is nothing
nothing_picked : {A : Type 0} (f : Object → Option A) (m : Objects) → ((key : Key) (o : Object) → object_at m key ≡ Some o → f o ≡ None) → filter_map (λ (e : Key × Object). f e.1) (map.entries m) ≡ []
nothing_picked f m none = none_by f m none (filter_map (λ (e : Key × Object). f e.1) (map.entries m)) refl

-- no Certificate that was written has this uid
abbrev pub IsNewUid : List Write → ℕ → Type 0
IsNewUid ws uid = (c : Certificate) → IsCertificateIn ws c → c.meta.uid ≢ uid

no_owner : (uid : ℕ) (owners : List OwnerRef) (c : Certificate) → owners ≡ owner_of c ∷ [] → c.meta.uid ≢ uid → list_any (λ owner. owner.uid == uid) owners ≡ true → ⊥
unfolding owner_of
no_owner uid owners c is new on = by (c.meta.uid == uid) refl (subst (λ (x : List OwnerRef). list_any (λ owner. owner.uid == uid) x ≡ true) is on) where
  by : (b : Bool) → (c.meta.uid == uid) ≡ b → (b || false) ≡ true → ⊥
  by true same on = new (eqb-true c.meta.uid uid same)
  by false same on = cc on

unowned : (ws : List Write) (d : Certificate) (m : ObjectMeta) (b : Bool) → IsNewUid ws d.meta.uid → IsMadeFor ws m → is_owned d m ≡ b → b ≡ false
unowned ws d m false new made is = refl
unowned ws d m true new made is = absurd (no_owner d.meta.uid m.owners made.certificate made.owners (new made.certificate made.known) (and_parts (bytes_eq m.namespace d.meta.namespace) (list_any (λ owner. owner.uid == d.meta.uid) m.owners) is).1)

free_of_all : (d : Certificate) (m : ObjectMeta) (b : Bool) → m.owners ≡ [] → is_owned d m ≡ b → b ≡ false
free_of_all d m false none is = refl
free_of_all d m true none is =
    absurd (let on = (and_parts (bytes_eq m.namespace d.meta.namespace) (list_any (λ owner. owner.uid == d.meta.uid) m.owners) is).1 in
    let off : list_any (λ owner. owner.uid == d.meta.uid) m.owners ≡ false = ap (list_any (λ (owner : OwnerRef). owner.uid == d.meta.uid)) none in cc (on, off))

unpicked : {A : Type 0} (b : Bool) (x : A) → b ≡ false → (if b then Some x else None) ≡ None
unpicked true x is = absurd (cc is)
unpicked false x is = refl

unlabelled : {A : Type 0} (l b : Bool) (x : A) → b ≡ false → (if l && b then Some x else None) ≡ None
unlabelled true true x is = absurd (cc is)
unlabelled true false x is = refl
unlabelled false b x is = refl

secret_unowned : (ws : List Write) (d : Certificate) (m : ObjectMeta) → IsNewUid ws d.meta.uid → OfSecret ws m → is_owned d m ≡ false
secret_unowned ws d m new (inl made) = unowned ws d m (is_owned d m) new made.1 refl
secret_unowned ws d m new (inr target) = free_of_all d m (is_owned d m) target.1.owners refl

no_next : (s : Setting) (ws : List Write) (d : Certificate) (o : Object) → IsNewUid ws d.meta.uid → IsOf s ws o → next_in d o ≡ None
no_next s ws d (Cert c) new of = refl
no_next s ws d (Request r) new of = refl
no_next s ws d (Secret k) new of = unlabelled (has_next_label k.meta) (is_owned d k.meta) k (secret_unowned ws d k.meta new of)

no_request : (s : Setting) (ws : List Write) (d : Certificate) (o : Object) → IsNewUid ws d.meta.uid → IsOf s ws o → owned_in d o ≡ None
no_request s ws d (Cert c) new of = refl
no_request s ws d (Request r) new of = unpicked (is_owned d r.meta) r (unowned ws d r.meta (is_owned d r.meta) new of refl)
no_request s ws d (Secret k) new of = refl

-- each object is a Certificate, or belongs to one that was written
abbrev pub AreOfWritten : Setting → List Write → Objects → Type 0
AreOfWritten s ws m = (key : Key) (o : Object) → object_at m key ≡ Some o → IsOf s ws o

pub owns_no_key : (s : Setting) (ws : List Write) (m : Objects) (d : Certificate) → IsNewUid ws d.meta.uid → AreOfWritten s ws m → next_of m d ≡ []
owns_no_key s ws m d new of = nothing_picked (next_in d) m (λ key o at. no_next s ws d o new (of key o at))

pub owns_no_request : (s : Setting) (ws : List Write) (m : Objects) (d : Certificate) → IsNewUid ws d.meta.uid → AreOfWritten s ws m → requests_of m d ≡ []
owns_no_request s ws m d new of = nothing_picked (owned_in d) m (λ key o at. no_request s ws d o new (of key o at))
