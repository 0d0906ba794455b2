-- Loops over keys, over owners, and new caches.
use Rattle.std.proofs.Common.{◌≡◌, ◌⊎◌, inl, inr, ℕ, suc, ◌<◌, ◌+◌, List, [], ◌∷◌, ◌++◌, length, take, drop, get_or, Bool, true, false, Option, refl, sym, ap, subst, ◌∙◌, arith, add-one, drop-cons}
use Rattle.std.proofs.lemmas.List.{take_more}
use Rattle.std.proofs.lemmas.List.Folds.{list_any-append}
use Rattle.std.specs.Prelude.{if◌then◌else◌, ◌&&◌, ◌||◌}
use Rattle.std.specs.BTreeMap.{is_at}
use Rattle.std.specs.List.{list_any}
use Rattle.cmc_meta.specs.declared.key.Key.{Key}
use Rattle.cmc_meta.specs.declared.key.Kind.{Kind}
use Rattle.cmc_meta.specs.declared.key.Kind.TheVariants.{Certificate, CertificateRequest, Secret}
use Rattle.cmc_meta.specs.declared.owners.OwnerRef.{OwnerRef}
use Rattle.cmc_meta.specs.Keys.{key_cmp, key_eq}
use Rattle.cmc_objects.specs.declared.object.Object.{Object}
use Rattle.cmc_model.specs.Objects.{no_objects}
use Rattle.cmc_model.specs.Writes.{contents, oldest}
use Rattle.cmc_informer.specs.Informers.{Informed}
use Rattle.cmc_informer.proofs.OneMark.{equal_key, same_key}
use Rattle.cmc_collector.specs.Caches.{IsInformerOf, position_in}
use Rattle.cmc_collector.specs.CachePositions.{are_gone, is_gone}
use Rattle.cmc_collector.specs.Replays.{owner_key}

-- ---- owners, one after the other

one_gone : (found : Key → Option Object) (given : ℕ) (namespace : List ℕ) (os : List OwnerRef) (i : ℕ) (o : OwnerRef) → i < length os → o ≡ get_or os i o
    → are_gone found given namespace (drop i os) ≡ (is_gone given o.uid (found (owner_key namespace o)) && are_gone found given namespace (drop (i + 1) os))
one_gone found given namespace os i o within at =
    ap (are_gone found given namespace) (drop-cons os i o within ∙ ap (λ p. p ∷ drop (suc i) os) (sym at)) ∙ ap (λ (n : ℕ). is_gone given o.uid (found (owner_key namespace o)) && are_gone found given namespace (drop n os)) (sym (add-one i))

and_off : (a b : Bool) → a ≡ false → (a && b) ≡ false
and_off true b off = absurd (cc off)
and_off false b off = refl

and_on : (a b : Bool) → a ≡ true → (a && b) ≡ b
and_on true b on = refl
and_on false b on = absurd (cc on)

pub gone_off : (found : Key → Option Object) (given : ℕ) (namespace : List ℕ) (os : List OwnerRef) (i : ℕ) (o : OwnerRef) → i < length os → o ≡ get_or os i o
    → are_gone found given namespace os ≡ are_gone found given namespace (drop i os) → is_gone given o.uid (found (owner_key namespace o)) ≡ false → are_gone found given namespace os ≡ false
gone_off found given namespace os i o within at so off =
    so ∙ one_gone found given namespace os i o within at ∙ and_off (is_gone given o.uid (found (owner_key namespace o))) (are_gone found given namespace (drop (i + 1) os)) off

pub gone_on : (found : Key → Option Object) (given : ℕ) (namespace : List ℕ) (os : List OwnerRef) (i : ℕ) (o : OwnerRef) → i < length os → o ≡ get_or os i o
    → are_gone found given namespace os ≡ are_gone found given namespace (drop i os) → is_gone given o.uid (found (owner_key namespace o)) ≡ true
    → are_gone found given namespace os ≡ are_gone found given namespace (drop (i + 1) os)
gone_on found given namespace os i o within at so on =
    so ∙ one_gone found given namespace os i o within at ∙ and_on (is_gone given o.uid (found (owner_key namespace o))) (are_gone found given namespace (drop (i + 1) os)) on

-- ---- keys, one after the other

either : (a b : Bool) → (a || b) ≡ true → (a ≡ true) ⊎ (b ≡ true)
either true b on = inl refl
either false b on = inr on

last_one : (k : Key) (x : Key) (has : Key → Bool) → (list_any (is_at (key_cmp k)) (x ∷ [])) ≡ true → has x ≡ true → has k ≡ true
last_one k x has among here = by (either (is_at (key_cmp k) x) false among) where
  by : (is_at (key_cmp k) x ≡ true) ⊎ (false ≡ true) → has k ≡ true
  by (inl at) = ap has (same_key k x at) ∙ here
  by (inr none) = absurd (cc none)

-- one more key has its row
pub room_more : (has now : Key → Bool) (keys : List Key) (i : ℕ) (x : Key) → i < length keys → x ≡ get_or keys i x → ((k : Key) → list_any (is_at (key_cmp k)) (take i keys) ≡ true → has k ≡ true)
    → ((k : Key) → has k ≡ true → now k ≡ true) → now x ≡ true → (k : Key) → list_any (is_at (key_cmp k)) (take (i + 1) keys) ≡ true → now k ≡ true
room_more has now keys i x within at before keeps here k among =
    by (either (list_any (is_at (key_cmp k)) (take i keys)) (list_any (is_at (key_cmp k)) (x ∷ []))
    (sym (list_any-append (is_at (key_cmp k)) (take i keys) (x ∷ [])) ∙ ap (list_any (is_at (key_cmp k))) (sym (take_more keys i x within ∙ ap (λ p. take i keys ++ p ∷ []) (sym at))) ∙ among)) where
      by : (list_any (is_at (key_cmp k)) (take i keys) ≡ true) ⊎ (list_any (is_at (key_cmp k)) (x ∷ []) ≡ true) → now k ≡ true
      by (inl old) = keeps k (before k old)
      by (inr new) = last_one k x now new here

-- the row of a key whose cache has no object with owners may go
pub given_up : (b : Bool) (owned : Key → Bool) (key k : Key) (old new : Bool) → key_eq key k ≡ b → owned key ≡ false → owned k ≡ true → new ≡ (if b then false else old) → old ≡ true → new ≡ true
given_up true owned key k old new same off on is has = absurd (let other : owned k ≡ false = ap owned (sym (equal_key key k same)) ∙ off in cc (on, other))
given_up false owned key k old new same off on is has = is ∙ has

-- ---- an informer that was told nothing

pub untold : (kind : Kind) (i : Informed) → i ≡ record { kind = kind; position = 0; objects = no_objects } → IsInformerOf kind i []
unfolding contents oldest
untold kind i is = subst (λ (j : Informed). IsInformerOf kind j []) (sym is) (record { kind_is = refl; within = omega arith; told = refl })

pub begins_at : (a b c : Informed) → a ≡ record { kind = Certificate; position = 0; objects = no_objects } → b ≡ record { kind = CertificateRequest; position = 0; objects = no_objects }
    → c ≡ record { kind = Secret; position = 0; objects = no_objects } → (k : Kind) → position_in k (record { certificates = a; requests = b; secrets = c }) ≡ 0
begins_at a b c first second third Certificate = ap (λ (i : Informed). i.position) first
begins_at a b c first second third CertificateRequest = ap (λ (i : Informed). i.position) second
begins_at a b c first second third Secret = ap (λ (i : Informed). i.position) third
