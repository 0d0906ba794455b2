-- The index of claims stays what it is, and answers whether a Secret is taken.
use Rattle.std.proofs.Common.{◌≡◌, ◌≢◌, ◌⊎◌, ℕ, Bool, true, false, List, Option, Some, None, refl, sym, ap, subst, ◌∙◌, inl, inr}
use Rattle.std.proofs.lemmas.Option.{none-some}
use Rattle.std.proofs.lemmas.Slice.Eq.{bytes_eq-Decides}
use Rattle.std.specs.FinMap.{get-empty}
use Rattle.std.specs.Prelude.{◌&&◌, not, OnOk, OnErr}
use Rattle.std.specs.declared.alloc.AllocError.{AllocError}
use Rattle.std.specs.declared.result.Result.{Result}
use Rattle.std.specs.declared.result.Result.TheVariants as results
use Rattle.std.specs.Str.{bytes_eq}
use Rattle.cmc_meta.specs.declared.key.Key.{Key}
use Rattle.cmc_meta.specs.declared.key.Kind.TheVariants as kinds
use Rattle.cmc_meta.specs.Keys.{key_cmp}
use Rattle.cmc_objects.specs.declared.certificate.Certificate.{Certificate}
use Rattle.cmc_objects.specs.declared.object.Object.{Object}
use Rattle.cmc_objects.specs.declared.object.Object.TheVariants.{Cert, Request, Secret}
use Rattle.cmc_objects.specs.Objects.{key_of, name_of}
use Rattle.cmc_model.specs.Admission.{shares_secret, is_taken}
use Rattle.cmc_model.specs.Objects.{Objects, no_objects, object_at, with_object, without_object}
use Rattle.cmc_model.proofs.Maps.{is_one_key, get-insert-here, get-insert-other, get-remove-here, get-remove-other, none_passes, one_passes}
use Rattle.cmc_store.specs.Claims.{Claims, no_claims, claim_at, claimed, released, secret_of, secret_named_in, claimant, is_of_another, IsIndex, IsUnderItsKey}

abbrev some : Key → Option Key
some key = Some key

abbrev named : List ℕ → Option (List ℕ)
named name = Some name

-- ---- the Secret that an object names

key_by_secret : (o : Object) (secret : Key) → secret_of o ≡ some secret → key_of o ≡ claimant secret (name_of o)
key_by_secret (Cert c) secret is = let key : record { kind = kinds.Secret; namespace = c.meta.namespace; name = c.spec.secret_name } ≡ secret = cc is in ap (λ (k : Key). claimant k c.meta.name) key
key_by_secret (Request r) secret is = absurd (cc is)
key_by_secret (Secret s) secret is = absurd (cc is)

abbrev key_named : Certificate → Key
key_named c = record { kind = kinds.Secret; namespace = c.meta.namespace; name = c.spec.secret_name }

three : (a b d : Bool) → (a && b && not d) ≡ true → (a ≡ true) × (b ≡ true) × (d ≡ false)
three true true true is = absurd (cc is)
three true true false is = (refl, refl, refl)
three true false d is = absurd (cc is)
three false b d is = absurd (cc is)

all_three : (a b d : Bool) → a ≡ true → b ≡ true → d ≡ false → (a && b && not d) ≡ true
all_three a b d x y z = rw (x, y, z) refl

shares_means : (c : Certificate) (o : Object) → shares_secret c o ≡ true → (secret_of o ≡ some (key_named c)) × (bytes_eq (name_of o) c.meta.name ≡ false)
shares_means c (Cert other) is =
    let parts = three _ _ _ is in
    let namespace : other.meta.namespace ≡ c.meta.namespace = (bytes_eq-Decides other.meta.namespace c.meta.namespace).0 parts.0 in
    let name : other.spec.secret_name ≡ c.spec.secret_name = (bytes_eq-Decides other.spec.secret_name c.spec.secret_name).0 parts.1 in
    (λ i. Some (record { kind = kinds.Secret; namespace = namespace i; name = name i }), parts.2)
shares_means c (Request r) is = absurd (cc is)
shares_means c (Secret s) is = absurd (cc is)

means_shares : (c : Certificate) (o : Object) → secret_of o ≡ some (key_named c) → bytes_eq (name_of o) c.meta.name ≡ false → shares_secret c o ≡ true
means_shares c (Cert other) is differ =
    let key : key_named other ≡ key_named c = cc is in
    all_three _ _ _ ((bytes_eq-Decides _ _).1 (ap (λ (k : Key). k.namespace) key)) ((bytes_eq-Decides _ _).1 (ap (λ (k : Key). k.name) key)) differ
means_shares c (Request r) is differ = absurd (cc is)
means_shares c (Secret s) is differ = absurd (cc is)

-- ---- the index answers

not_shared : (c : Certificate) (o : Object) (b : Bool) → shares_secret c o ≡ b → (shares_secret c o ≡ true → ⊥) → shares_secret c o ≡ false
not_shared c o true e never = absurd (never e)
not_shared c o false e never = e

there : (x : Option Object) (secret : Key) → secret_named_in x ≡ some secret → (o : Object) × (x ≡ Some o) × (secret_of o ≡ some secret)
there None secret is = absurd (cc is)
there (Some o) secret is = (o, refl, is)

by_claim : (objects : Objects) (claims : Claims) (c : Certificate) (claim : Option (List ℕ)) → IsIndex objects claims → claim_at claims (key_named c) ≡ claim → is_taken objects (Cert c) ≡ is_of_another c.meta.name claim
by_claim objects claims c None index is =
    none_passes (shares_secret c) objects (λ key o stands. not_shared c o (shares_secret c o) refl (λ shares.
    none-some (name_of o) (sym is ∙ index.held key (key_named c) o stands (shares_means c o shares).0)))
by_claim objects claims c (Some n) index is = by_name (bytes_eq n c.meta.name) refl where
  by_name : (b : Bool) → bytes_eq n c.meta.name ≡ b → is_taken objects (Cert c) ≡ not b
  by_name true same =
      none_passes (shares_secret c) objects (λ key o stands. not_shared c o (shares_secret c o) refl (λ shares.
      let means = shares_means c o shares in
      let claims : named n ≡ named (name_of o) = sym is ∙ index.held key (key_named c) o stands means.0 in
      let name : n ≡ name_of o = cc claims in
      let off : bytes_eq n c.meta.name ≡ false = subst (λ (x : List ℕ). bytes_eq x c.meta.name ≡ false) (sym name) means.1 in
      absurd (cc (same, off))))
  by_name false differ =
      let stands = there (object_at objects (claimant (key_named c) n)) (key_named c) (index.named (key_named c) n is) in
      let key : key_of stands.0 ≡ claimant (key_named c) n = index.keyed (claimant (key_named c) n) stands.0 stands.1 in
      let name : name_of stands.0 ≡ n = ap (λ (k : Key). k.name) key in
      one_passes (shares_secret c) objects (claimant (key_named c) n) stands.0 stands.1
      (means_shares c stands.0 stands.2 (subst (λ (x : List ℕ). bytes_eq x c.meta.name ≡ false) (sym name) differ))

pub taken_by_claim : (objects : Objects) (claims : Claims) (o : Object) (secret : Key) → IsIndex objects claims → secret_of o ≡ some secret → is_taken objects o ≡ is_of_another (name_of o) (claim_at claims secret)
taken_by_claim objects claims (Cert c) secret index is =
    let key : key_named c ≡ secret = cc is in
    subst (λ (k : Key). is_taken objects (Cert c) ≡ is_of_another c.meta.name (claim_at claims k)) key (by_claim objects claims c (claim_at claims (key_named c)) index refl)
taken_by_claim objects claims (Request r) secret index is = absurd (cc is)
taken_by_claim objects claims (Secret s) secret index is = absurd (cc is)

pub not_taken : (objects : Objects) (o : Object) → secret_of o ≡ None → is_taken objects o ≡ false
not_taken objects (Cert c) is = absurd (cc is)
not_taken objects (Request r) is = refl
not_taken objects (Secret s) is = refl

-- ---- one lookup after a change

standing_after : (objects : Objects) (key q : Key) (new o : Object) → object_at (with_object objects key new) q ≡ Some o → ((q ≡ key) × (new ≡ o)) ⊎ ((q ≢ key) × (object_at objects q ≡ Some o))
standing_after objects key q new o is = by_key (is_one_key q key) where
  by_key : (q ≡ key) ⊎ (q ≢ key) → ((q ≡ key) × (new ≡ o)) ⊎ ((q ≢ key) × (object_at objects q ≡ Some o))
  by_key (inl same) =
      let here : Some new ≡ Some o = sym (get-insert-here objects key new) ∙ subst (λ (k : Key). object_at (with_object objects key new) k ≡ Some o) same is in
      inl (same, cc here)
  by_key (inr other) = inr (other, sym (get-insert-other objects key new q other) ∙ is)

standing_without : (objects : Objects) (key q : Key) (o : Object) → object_at (without_object objects key) q ≡ Some o → (q ≢ key) × (object_at objects q ≡ Some o)
standing_without objects key q o is = by_key (is_one_key q key) where
  by_key : (q ≡ key) ⊎ (q ≢ key) → (q ≢ key) × (object_at objects q ≡ Some o)
  by_key (inl same) = absurd (none-some o (sym (get-remove-here objects key) ∙ subst (λ (k : Key). object_at (without_object objects key) k ≡ Some o) same is))
  by_key (inr other) = (other, sym (get-remove-other objects key q other) ∙ is)

not_released : (claims : Claims) (old : Option Key) (secret : Key) (name : List ℕ) → claim_at (released claims old) secret ≡ named name → (old ≢ some secret) × (claim_at claims secret ≡ named name)
not_released claims None secret name is = (none-some secret, is)
not_released claims (Some gone) secret name is = by_key (is_one_key secret gone) where
  by_key : (secret ≡ gone) ⊎ (secret ≢ gone) → (some gone ≢ some secret) × (claim_at claims secret ≡ named name)
  by_key (inl same) = absurd (none-some name (sym (get-remove-here claims gone) ∙ subst (λ (k : Key). claim_at (released claims (Some gone)) k ≡ named name) same is))
  by_key (inr other) = (λ e. other (let back : gone ≡ secret = cc e in sym back), sym (get-remove-other claims gone secret other) ∙ is)

released_keeps : (claims : Claims) (old : Option Key) (secret : Key) → old ≢ some secret → claim_at (released claims old) secret ≡ claim_at claims secret
released_keeps claims None secret other = refl
released_keeps claims (Some gone) secret other = get-remove-other claims gone secret (λ e. other (ap some (sym e)))

claimed_or : (claims : Claims) (new : Option Key) (claimer : List ℕ) (secret : Key) (name : List ℕ) → claim_at (claimed claims new claimer) secret ≡ named name
    → ((new ≡ some secret) × (claimer ≡ name)) ⊎ (claim_at claims secret ≡ named name)
claimed_or claims None claimer secret name is = inr is
claimed_or claims (Some taken) claimer secret name is = by_key (is_one_key secret taken) where
  by_key : (secret ≡ taken) ⊎ (secret ≢ taken) → ((some taken ≡ some secret) × (claimer ≡ name)) ⊎ (claim_at claims secret ≡ named name)
  by_key (inl same) =
      let here : named claimer ≡ named name = sym (get-insert-here claims taken claimer) ∙ subst (λ (k : Key). claim_at (claimed claims (Some taken) claimer) k ≡ named name) same is in
      inl (ap some (sym same), cc here)
  by_key (inr other) = inr (sym (get-insert-other claims taken claimer secret other) ∙ is)

claimed_here : (claims : Claims) (new : Option Key) (claimer : List ℕ) (secret : Key) → new ≡ some secret → claim_at (claimed claims new claimer) secret ≡ named claimer
claimed_here claims None claimer secret is = absurd (none-some secret is)
claimed_here claims (Some taken) claimer secret is =
    let key : taken ≡ secret = cc is in subst (λ (k : Key). claim_at (claimed claims (Some taken) claimer) k ≡ named claimer) key (get-insert-here claims taken claimer)

claimed_keeps : (claims : Claims) (new : Option Key) (claimer : List ℕ) (secret : Key) → new ≢ some secret → claim_at (claimed claims new claimer) secret ≡ claim_at claims secret
claimed_keeps claims None claimer secret other = refl
claimed_keeps claims (Some taken) claimer secret other = get-insert-other claims taken claimer secret (λ e. other (ap some (sym e)))

-- ---- the index stays one

-- who names a Secret that what stands under the key names stands under that key
one_owner : (objects : Objects) (claims : Claims) (key q secret : Key) (o : Object) → IsIndex objects claims → object_at objects q ≡ Some o → secret_of o ≡ some secret → secret_named_in (object_at objects key) ≡ some secret → q ≡ key
one_owner objects claims key q secret o index stands is also =
    let old = there (object_at objects key) secret also in
    let names : named (name_of o) ≡ named (name_of old.0) = sym (index.held q secret o stands is) ∙ index.held key secret old.0 old.1 old.2 in
    let name : name_of o ≡ name_of old.0 = cc names in
    sym (index.keyed q o stands) ∙ key_by_secret o secret is ∙ ap (claimant secret) name ∙ sym (key_by_secret old.0 secret old.2) ∙ index.keyed key old.0 old.1

-- a Secret that is free for an object, and that what stands under its key does not name, has no claim
unclaimed : (objects : Objects) (claims : Claims) (key secret : Key) (new : Object) (claim : Option (List ℕ)) → IsIndex objects claims → key_of new ≡ key → is_taken objects new ≡ false
    → secret_of new ≡ some secret → secret_named_in (object_at objects key) ≢ some secret → claim_at claims secret ≡ claim → claim ≡ None
unclaimed objects claims key secret new None index keyed free is moves claims_it = refl
unclaimed objects claims key secret new (Some n) index keyed free is moves claims_it =
    let off : not (bytes_eq n (name_of new)) ≡ false = ap (is_of_another (name_of new)) (sym claims_it) ∙ sym (taken_by_claim objects claims new secret index is) ∙ free in
    let name : n ≡ name_of new = (bytes_eq-Decides n (name_of new)).0 (not_false (bytes_eq n (name_of new)) off) in
    let there_key : claimant secret n ≡ key = ap (claimant secret) name ∙ sym (key_by_secret new secret is) ∙ keyed in
    absurd (moves (subst (λ (k : Key). secret_named_in (object_at objects k) ≡ some secret) there_key (index.named secret n claims_it)))
  where
    not_false : (b : Bool) → not b ≡ false → b ≡ true
    not_false true e = refl
    not_false false e = absurd (cc e)

pub index_empty : IsIndex no_objects no_claims
index_empty = record {
  keyed = λ key o is. absurd (none-some o (sym (get-empty key_cmp key) ∙ is));
  named = λ secret name is. absurd (none-some name (sym (get-empty key_cmp secret) ∙ is));
  held = λ key secret o is names. absurd (none-some o (sym (get-empty key_cmp key) ∙ is));
}

-- an object that names the same Secret as what stood under its key
pub index_kept : (objects : Objects) (claims : Claims) (key : Key) (new : Object) → IsIndex objects claims → key_of new ≡ key → secret_named_in (object_at objects key) ≡ secret_of new
    → IsIndex (with_object objects key new) claims
index_kept objects claims key new index keyed same = record {
  keyed = λ q o is. by_keyed q o (standing_after objects key q new o is);
  named = λ secret name is. by_named secret name is (is_one_key (claimant secret name) key);
  held = λ q secret o is names. by_held q secret o names (standing_after objects key q new o is);
}
  where
    by_keyed : (q : Key) (o : Object) → ((q ≡ key) × (new ≡ o)) ⊎ ((q ≢ key) × (object_at objects q ≡ Some o)) → key_of o ≡ q
    by_keyed q o (inl here) = subst (λ (x : Object). key_of x ≡ q) here.1 (keyed ∙ sym here.0)
    by_keyed q o (inr there) = index.keyed q o there.1

    by_named : (secret : Key) (name : List ℕ) → claim_at claims secret ≡ named name → (claimant secret name ≡ key) ⊎ (claimant secret name ≢ key)
        → secret_named_in (object_at (with_object objects key new) (claimant secret name)) ≡ some secret
    by_named secret name is (inl here) =
        let old : secret_named_in (object_at objects key) ≡ some secret = subst (λ (k : Key). secret_named_in (object_at objects k) ≡ some secret) here (index.named secret name is) in
        ap secret_named_in (ap (object_at (with_object objects key new)) here ∙ get-insert-here objects key new) ∙ sym same ∙ old
    by_named secret name is (inr other) = ap secret_named_in (get-insert-other objects key new (claimant secret name) other) ∙ index.named secret name is

    by_held : (q secret : Key) (o : Object) → secret_of o ≡ some secret → ((q ≡ key) × (new ≡ o)) ⊎ ((q ≢ key) × (object_at objects q ≡ Some o)) → claim_at claims secret ≡ named (name_of o)
    by_held q secret o names (inl here) =
        let old = there (object_at objects key) secret (same ∙ ap secret_of here.1 ∙ names) in
        let name : name_of old.0 ≡ name_of new = ap (λ (k : Key). k.name) (index.keyed key old.0 old.1 ∙ sym keyed) in
        index.held key secret old.0 old.1 old.2 ∙ ap named (name ∙ ap name_of here.1)
    by_held q secret o names (inr there) = index.held q secret o there.1 names

-- an object that names another Secret, or none, or where none stood
pub index_moved : (objects : Objects) (claims : Claims) (key : Key) (new : Object) (name : List ℕ) → IsIndex objects claims → key_of new ≡ key → name_of new ≡ name → is_taken objects new ≡ false
    → secret_named_in (object_at objects key) ≢ secret_of new → IsIndex (with_object objects key new) (released (claimed claims (secret_of new) name) (secret_named_in (object_at objects key)))
index_moved objects claims key new name index keyed is_name free moves = record {
  keyed = λ q o is. by_keyed q o (standing_after objects key q new o is);
  named = λ secret n is. by_released secret n (not_released (claimed claims (secret_of new) name) (secret_named_in (object_at objects key)) secret n is);
  held = λ q secret o is names. by_held q secret o names (standing_after objects key q new o is);
}
  where
    by_keyed : (q : Key) (o : Object) → ((q ≡ key) × (new ≡ o)) ⊎ ((q ≢ key) × (object_at objects q ≡ Some o)) → key_of o ≡ q
    by_keyed q o (inl here) = subst (λ (x : Object). key_of x ≡ q) here.1 (keyed ∙ sym here.0)
    by_keyed q o (inr there) = index.keyed q o there.1

    by_standing : (secret : Key) (n : List ℕ) → secret_named_in (object_at objects key) ≢ some secret → claim_at claims secret ≡ named n → (claimant secret n ≡ key) ⊎ (claimant secret n ≢ key)
        → secret_named_in (object_at (with_object objects key new) (claimant secret n)) ≡ some secret
    by_standing secret n off is (inl here) = absurd (off (subst (λ (k : Key). secret_named_in (object_at objects k) ≡ some secret) here (index.named secret n is)))
    by_standing secret n off is (inr other) = ap secret_named_in (get-insert-other objects key new (claimant secret n) other) ∙ index.named secret n is

    by_claimed : (secret : Key) (n : List ℕ) → secret_named_in (object_at objects key) ≢ some secret → ((secret_of new ≡ some secret) × (name ≡ n)) ⊎ (claim_at claims secret ≡ named n)
        → secret_named_in (object_at (with_object objects key new) (claimant secret n)) ≡ some secret
    by_claimed secret n off (inl here) =
        let at : claimant secret n ≡ key = ap (claimant secret) (sym here.1 ∙ sym is_name) ∙ sym (key_by_secret new secret here.0) ∙ keyed in
        ap secret_named_in (ap (object_at (with_object objects key new)) at ∙ get-insert-here objects key new) ∙ here.0
    by_claimed secret n off (inr is) = by_standing secret n off is (is_one_key (claimant secret n) key)

    by_released : (secret : Key) (n : List ℕ) → (secret_named_in (object_at objects key) ≢ some secret) × (claim_at (claimed claims (secret_of new) name) secret ≡ named n)
        → secret_named_in (object_at (with_object objects key new) (claimant secret n)) ≡ some secret
    by_released secret n is = by_claimed secret n is.0 (claimed_or claims (secret_of new) name secret n is.1)

    by_held : (q secret : Key) (o : Object) → secret_of o ≡ some secret → ((q ≡ key) × (new ≡ o)) ⊎ ((q ≢ key) × (object_at objects q ≡ Some o))
        → claim_at (released (claimed claims (secret_of new) name) (secret_named_in (object_at objects key))) secret ≡ named (name_of o)
    by_held q secret o names (inl here) =
        let is : secret_of new ≡ some secret = ap secret_of here.1 ∙ names in
        released_keeps (claimed claims (secret_of new) name) (secret_named_in (object_at objects key)) secret (λ old. moves (old ∙ sym is))
        ∙ claimed_here claims (secret_of new) name secret is ∙ ap named (sym is_name ∙ ap name_of here.1)
    by_held q secret o names (inr there) =
        let holds : claim_at claims secret ≡ named (name_of o) = index.held q secret o there.1 names in
        let off : secret_named_in (object_at objects key) ≢ some secret = λ also. there.0 (one_owner objects claims key q secret o index there.1 names also) in
        released_keeps (claimed claims (secret_of new) name) (secret_named_in (object_at objects key)) secret off
        ∙ claimed_keeps claims (secret_of new) name secret
        (λ is. none-some (name_of o) (sym (unclaimed objects claims key secret new (claim_at claims secret) index keyed free is off refl) ∙ holds))
        ∙ holds

-- a claim that was noted and taken back
pub index_undone : (objects : Objects) (claims : Claims) (key : Key) (new : Object) (name : List ℕ) → IsIndex objects claims → key_of new ≡ key → is_taken objects new ≡ false
    → secret_named_in (object_at objects key) ≢ secret_of new → IsIndex objects (released (claimed claims (secret_of new) name) (secret_of new))
index_undone objects claims key new name index keyed free moves = record {
  keyed = λ q o is. index.keyed q o is;
  named = λ secret n is. by_released secret n (not_released (claimed claims (secret_of new) name) (secret_of new) secret n is);
  held = λ q secret o is names. by_held secret o (index.held q secret o is names);
}
  where
    by_claimed : (secret : Key) (n : List ℕ) → secret_of new ≢ some secret → ((secret_of new ≡ some secret) × (name ≡ n)) ⊎ (claim_at claims secret ≡ named n) → secret_named_in (object_at objects (claimant secret n)) ≡ some secret
    by_claimed secret n off (inl here) = absurd (off here.0)
    by_claimed secret n off (inr is) = index.named secret n is

    by_released : (secret : Key) (n : List ℕ) → (secret_of new ≢ some secret) × (claim_at (claimed claims (secret_of new) name) secret ≡ named n) → secret_named_in (object_at objects (claimant secret n)) ≡ some secret
    by_released secret n is = by_claimed secret n is.0 (claimed_or claims (secret_of new) name secret n is.1)

    by_held : (secret : Key) (o : Object) → claim_at claims secret ≡ named (name_of o) → claim_at (released (claimed claims (secret_of new) name) (secret_of new)) secret ≡ named (name_of o)
    by_held secret o holds =
        let off : secret_of new ≢ some secret = λ is. none-some (name_of o) (sym (unclaimed objects claims key secret new (claim_at claims secret) index keyed free is (λ also. moves (also ∙ sym is)) refl) ∙ holds) in
        released_keeps (claimed claims (secret_of new) name) (secret_of new) secret off ∙ claimed_keeps claims (secret_of new) name secret off ∙ holds

-- an object that is taken away
pub index_removed : (objects : Objects) (claims : Claims) (key : Key) → IsIndex objects claims → IsIndex (without_object objects key) (released claims (secret_named_in (object_at objects key)))
index_removed objects claims key index = record {
  keyed = λ q o is. index.keyed q o (standing_without objects key q o is).1;
  named = λ secret n is. by_released secret n (not_released claims (secret_named_in (object_at objects key)) secret n is);
  held = λ q secret o is names. by_held q secret o names (standing_without objects key q o is);
}
  where
    by_standing : (secret : Key) (n : List ℕ) → secret_named_in (object_at objects key) ≢ some secret → claim_at claims secret ≡ named n → (claimant secret n ≡ key) ⊎ (claimant secret n ≢ key)
        → secret_named_in (object_at (without_object objects key) (claimant secret n)) ≡ some secret
    by_standing secret n off is (inl here) = absurd (off (subst (λ (k : Key). secret_named_in (object_at objects k) ≡ some secret) here (index.named secret n is)))
    by_standing secret n off is (inr other) = ap secret_named_in (get-remove-other objects key (claimant secret n) other) ∙ index.named secret n is

    by_released : (secret : Key) (n : List ℕ) → (secret_named_in (object_at objects key) ≢ some secret) × (claim_at claims secret ≡ named n) → secret_named_in (object_at (without_object objects key) (claimant secret n)) ≡ some secret
    by_released secret n is = by_standing secret n is.0 is.1 (is_one_key (claimant secret n) key)

    by_held : (q secret : Key) (o : Object) → secret_of o ≡ some secret → (q ≢ key) × (object_at objects q ≡ Some o) → claim_at (released claims (secret_named_in (object_at objects key))) secret ≡ named (name_of o)
    by_held q secret o names there =
        released_keeps claims (secret_named_in (object_at objects key)) secret (λ also. there.0 (one_owner objects claims key q secret o index there.1 names also))
        ∙ index.held q secret o there.1 names

-- ---- what stands

not_another : (name : List ℕ) → is_of_another name (named name) ≡ false
not_another name = let same : bytes_eq name name ≡ true = (bytes_eq-Decides name name).1 refl in rw same refl

standing_free : (objects : Objects) (claims : Claims) (key : Key) (o : Object) (secret : Option Key) → IsIndex objects claims → object_at objects key ≡ Some o → secret_of o ≡ secret → is_taken objects o ≡ false
standing_free objects claims key o None index stands is = not_taken objects o is
standing_free objects claims key o (Some secret) index stands is =
    taken_by_claim objects claims o secret index is ∙ ap (is_of_another (name_of o)) (index.held key secret o stands is) ∙ not_another (name_of o)

pub standing : (objects : Objects) (claims : Claims) (key : Key) (found : Option Object) → IsIndex objects claims → found ≡ object_at objects key → IsUnderItsKey objects key found
standing objects claims key None index is = tt
standing objects claims key (Some o) index is = (index.keyed key o (sym is), standing_free objects claims key o (secret_of o) index (sym is) refl)

-- ---- the same, with what each step gave

pub kept_as : (objects after : Objects) (claims : Claims) (key : Key) (new : Object) (old fresh : Option Key) → IsIndex objects claims → key_of new ≡ key → old ≡ secret_named_in (object_at objects key) → fresh ≡ secret_of new
    → old ≡ fresh → after ≡ with_object objects key new → IsIndex after claims
kept_as objects after claims key new old fresh index keyed was is same left =
    subst (λ (m : Objects). IsIndex m claims) (sym left) (index_kept objects claims key new index keyed (sym was ∙ same ∙ is))

pub moved_as : (objects after : Objects) (claims noted left : Claims) (key : Key) (new : Object) (old claim : Option Key) (name : List ℕ) → IsIndex objects claims → key_of new ≡ key → is_taken objects new ≡ false
    → old ≡ secret_named_in (object_at objects key) → old ≢ secret_of new → after ≡ with_object objects key new → claim ≡ secret_of new → name ≡ key.name → noted ≡ claimed claims claim name → left ≡ released noted old → IsIndex after left
moved_as objects after claims noted left key new old claim name index keyed free was moves stored claims_it is_name note leaves =
    let moved = index_moved objects claims key new name index keyed (ap (λ (k : Key). k.name) keyed ∙ sym is_name) free (λ same. moves (was ∙ same)) in
    let last : left ≡ released (claimed claims (secret_of new) name) (secret_named_in (object_at objects key)) =
    leaves ∙ ap (λ (m : Claims). released m old) (note ∙ ap (λ (k : Option Key). claimed claims k name) claims_it) ∙ ap (released (claimed claims (secret_of new) name)) was in
    subst (λ (m : Objects). IsIndex m left) (sym stored) (subst (IsIndex (with_object objects key new)) (sym last) moved)

pub undone_as : (objects after : Objects) (claims noted left : Claims) (key : Key) (new : Object) (old claim fresh : Option Key) (name : List ℕ) → IsIndex objects claims → key_of new ≡ key → is_taken objects new ≡ false
    → old ≡ secret_named_in (object_at objects key) → old ≢ secret_of new → after ≡ objects → claim ≡ secret_of new → fresh ≡ secret_of new → noted ≡ claimed claims claim name → left ≡ released noted fresh → IsIndex after left
undone_as objects after claims noted left key new old claim fresh name index keyed free was moves stored claims_it is note leaves =
    let undone = index_undone objects claims key new name index keyed free (λ same. moves (was ∙ same)) in
    let last : left ≡ released (claimed claims (secret_of new) name) (secret_of new) =
    leaves ∙ ap (λ (m : Claims). released m fresh) (note ∙ ap (λ (k : Option Key). claimed claims k name) claims_it) ∙ ap (released (claimed claims (secret_of new) name)) is in
    subst (λ (m : Objects). IsIndex m left) (sym stored) (subst (IsIndex objects) (sym last) undone)

pub removed_as : (objects after : Objects) (claims left : Claims) (key : Key) (old : Option Key) → IsIndex objects claims → old ≡ secret_named_in (object_at objects key) → after ≡ without_object objects key → left ≡ released claims old → IsIndex after left
removed_as objects after claims left key old index was stored leaves =
    subst (λ (m : Objects). IsIndex m left) (sym stored) (subst (IsIndex (without_object objects key)) (sym (leaves ∙ ap (released claims) was)) (index_removed objects claims key index))

-- a put that succeeds, and one that fails
pub by_put : (P : Objects → Type 0) (result : Result (Unit {0}) AllocError) (old put new : Objects) → OnOk result (new ≡ put) → OnErr result (new ≡ old) → (new ≡ put → P new) → (new ≡ old → P new) → P new
by_put P (results.Ok u) old put new ok err good bad = good ok
by_put P (results.Err e) old put new ok err good bad = bad err
