-- The indexes of one write more, and what is found by them.
use Rattle.std.proofs.Common.{◌≡◌, ◌==◌, ℕ, ◌+◌, List, [], ◌∷◌, length, Bool, true, false, Option, Some, None, refl, ap, subst, ◌∙◌, inl, inr, arith}
use Rattle.std.specs.Prelude.{if◌then◌else◌, ◌||◌, filter_map, option_and_then, is_some, unwrap_or}
use Rattle.std.specs.List.Sorted.{IsStrictlySortedBy}
use Rattle.std.proofs.lemmas.Bool.{and_parts}
use Rattle.cmc_meta.specs.declared.key.Key.{Key}
use Rattle.cmc_meta.specs.Keys.{key_cmp, key_eq}
use Rattle.cmc_meta.specs.declared.key.Kind.TheVariants as kinds
use Rattle.cmc_objects.specs.declared.certificate.Certificate.{Certificate}
use Rattle.cmc_objects.specs.declared.object.Object.{Object}
use Rattle.cmc_objects.specs.declared.object.Object.TheVariants.{Cert, Request, Secret}
use Rattle.cmc_model.specs.declared.write.Write.{Write}
use Rattle.cmc_model.specs.Objects.{object_at}
use Rattle.cmc_model.specs.Versions.{IsVersion, uid_of}
use Rattle.cmc_model.specs.Writes.{oldest, of_kind}
use Rattle.cmc_model.proofs.Versions.{standing, version_of_kind, version_of_oldest}
use Rattle.cmc_rules.specs.Revisions.{stated_in, stated_revision, newer_of, last_version, revision_of_uid}
use Rattle.cmc_rules.specs.Views.{is_owned, owned_in, requests_of}
use Rattle.cmc_audit_state.specs.declared.indexes.Indexes.{Indexes}
use Rattle.cmc_audit_state.specs.Journaled.{cached, versions_in, versions_under, is_kept, keys_under, is_request_of, revision_noted, revision_under_uid, has_noted_uid, denies, IsIndexOfWrites}
use Rattle.cmc_audit_state.proofs.Picking.{picked_by_keys}

-- ---- no writes

pub indexed_none : (i : Indexes) → ((k : Key) → versions_in i.versions k ≡ []) → ((u : ℕ) → revision_under_uid i.revisions u ≡ 0) → ((u : ℕ) → has_noted_uid i.denied u ≡ false) → IsIndexOfWrites [] i
unfolding IsIndexOfWrites versions_under last_version
indexed_none i versions revisions denied = record { versions = versions; owned = λ uid key o has. absurd has; revisions = revisions; denied = denied }

-- ---- one write more

-- what a write leaves of the revision of a uid
revised_by : (b : Bool) (uid : ℕ) (o : Object) (older : Option Object)
    → (if b then unwrap_or (stated_revision o) 0 else unwrap_or (stated_in older) 0) ≡ unwrap_or (stated_in (if b then Some o else older)) 0
revised_by true uid o older = refl
revised_by false uid o older = refl

revised_here : (uid : ℕ) (x older : Option Object) → revision_noted uid x (unwrap_or (stated_in older) 0) ≡ unwrap_or (stated_in (newer_of uid x older)) 0
revised_here uid None older = refl
revised_here uid (Some o) older = revised_by (uid_of o == uid) uid o older

pub revision_more : (uid : ℕ) (w : Write) (ws : List Write) → revision_noted uid w.object (revision_of_uid uid ws) ≡ revision_of_uid uid (w ∷ ws)
unfolding last_version
revision_more uid w ws = revised_here uid w.object (last_version uid ws)

-- under the key of the newest write, or under an older one
owned_more : (w : Write) (ws : List Write) (old new : List (ℕ × List Key)) (uid : ℕ) (key : Key) (o : Object)
    → (is_request_of uid w.object ≡ true → is_kept new uid w.key ≡ true) → (is_kept old uid key ≡ true → is_kept new uid key ≡ true)
    → (IsVersion key o ws → is_request_of uid (Some o) ≡ true → is_kept old uid key ≡ true)
    → IsVersion key o (w ∷ ws) → is_request_of uid (Some o) ≡ true → is_kept new uid key ≡ true
owned_more w ws old new uid key o added keeps below (inl here) names =
    subst (λ (k : Key). is_kept new uid k ≡ true) here.0 (added (ap (is_request_of uid) here.1 ∙ names))
owned_more w ws old new uid key o added keeps below (inr there) names = keeps (below there names)

pub indexed_more : (ws : List Write) (w : Write) (n : ℕ) (old new : Indexes)
    → ((k : Key) → versions_in new.versions k ≡ (if key_eq w.key k then n ∷ versions_in old.versions k else versions_in old.versions k))
    → ((u : ℕ) → is_request_of u w.object ≡ true → is_kept new.owned u w.key ≡ true) → ((u : ℕ) (k : Key) → is_kept old.owned u k ≡ true → is_kept new.owned u k ≡ true)
    → ((u : ℕ) → revision_under_uid new.revisions u ≡ revision_noted u w.object (revision_under_uid old.revisions u))
    → ((u : ℕ) → has_noted_uid new.denied u ≡ (denies u w.object || has_noted_uid old.denied u))
    → n ≡ length ws + 1 → IsIndexOfWrites ws old → IsIndexOfWrites (w ∷ ws) new
unfolding IsIndexOfWrites versions_under
indexed_more ws w n old new versions added keeps revisions denied count is = record {
  versions = λ k.
      let m : n ≡ length (w ∷ ws) = omega (arith, count) in
      versions k ∙ ap (λ (vs : List ℕ). if key_eq w.key k then n ∷ vs else vs) (is.versions k) ∙ ap (λ v. if key_eq w.key k then v ∷ versions_under k ws else versions_under k ws) m;
  owned = λ uid key o has names. owned_more w ws old.owned new.owned uid key o (added uid) (keeps uid key) (is.owned uid key o) has names;
  revisions = λ u. revisions u ∙ ap (revision_noted u w.object) (is.revisions u) ∙ revision_more u w ws;
  denied = λ u. denied u ∙ ap (λ b. denies u w.object || b) (is.denied u);
}

-- ---- what a Certificate owned

if_some : {A : Type 0} (b : Bool) (x : A) → is_some (if b then Some x else None) ≡ true → b ≡ true
if_some true x is = refl
if_some false x is = is

names_of : (c : Certificate) (o : Object) → is_some (owned_in c o) ≡ true → is_request_of c.meta.uid (Some o) ≡ true
names_of c (Cert other) is = absurd (cc is)
names_of c (Request r) is = (and_parts _ _ (if_some (is_owned c r.meta) r is)).1
names_of c (Secret k) is = absurd (cc is)

found_key : (ws : List Write) (c : Certificate) (p : ℕ) (owned : List (ℕ × List Key)) (k : Key) (o : Option Object)
    → ((x : Object) → o ≡ Some x → IsVersion k x ws) → ((x : Object) → IsVersion k x ws → is_request_of c.meta.uid (Some x) ≡ true → is_kept owned c.meta.uid k ≡ true)
    → is_some (option_and_then (owned_in c) o) ≡ true → is_kept owned c.meta.uid k ≡ true
found_key ws c p owned k None version led is = absurd (cc is)
found_key ws c p owned k (Some o) version led is = led o (version o refl) (names_of c o is)

-- going over the keys under its uid finds all that it owned
pub requests_found : (ws : List Write) (i : Indexes) (c : Certificate) (p : ℕ) → IsIndexOfWrites ws i → IsStrictlySortedBy key_cmp (keys_under i.owned c.meta.uid)
    → filter_map (λ k. option_and_then (owned_in c) (object_at (cached kinds.CertificateRequest ws p) k)) (keys_under i.owned c.meta.uid) ≡ requests_of (cached kinds.CertificateRequest ws p) c
unfolding IsIndexOfWrites
requests_found ws i c p is sorted =
    picked_by_keys (owned_in c) (cached kinds.CertificateRequest ws p) (keys_under i.owned c.meta.uid) sorted
    (λ k some. found_key ws c p i.owned k (object_at (cached kinds.CertificateRequest ws p) k)
    (λ x e. version_of_oldest p k x ws (version_of_kind kinds.CertificateRequest k x (oldest p ws) (standing (of_kind kinds.CertificateRequest (oldest p ws)) k x e)))
    (λ x has names. is.owned c.meta.uid k x has names) some)

pub none_sorted : IsStrictlySortedBy key_cmp []
unfolding IsStrictlySortedBy
none_sorted = tt
