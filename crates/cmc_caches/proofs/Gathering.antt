-- Lists of keys that grow.
use Rattle.std.proofs.Common.{◌≡◌, inl, inr, ℕ, ◌+◌, ◌<◌, Bool, true, false, List, [], ◌∷◌, ◌++◌, length, take, get_or, sym, ap, ◌∙◌, subst}
use Rattle.std.proofs.Math.Bool.{or-false, or-true}
use Rattle.std.proofs.lemmas.Bool.{or_cases}
use Rattle.std.proofs.lemmas.List.{take_more}
use Rattle.std.proofs.lemmas.List.Folds.{list_any-append}
use Rattle.std.specs.BTreeMap.{is_at}
use Rattle.std.specs.Cmp.{tied_itself}
use Rattle.std.specs.Ordering.{is_eq}
use Rattle.std.specs.Prelude.{◌||◌}
use Rattle.cmc_meta.specs.declared.key.Key.{Key}
use Rattle.cmc_meta.specs.Keys.{key_cmp}
use Rattle.cmc_model.specs.Objects.{Objects, object_at}
use Rattle.cmc_meta.proofs.KeyOrder.{key_cmp-total}
use Rattle.cmc_informer.specs.Caches.{is_targeting}
use Rattle.cmc_informer.proofs.OneMark.{same_key}
use Rattle.cmc_caches.specs.Affected.{AreListedBySecret, KeepsKeys, is_among}

or_left : (a b : Bool) → a ≡ true → (a || b) ≡ true
or_left a b is = ap (λ x. x || b) is

or_right : (a b : Bool) → b ≡ true → (a || b) ≡ true
or_right a b is = ap (λ x. a || x) is ∙ or-true a

pub among_more : (old more new : List Key) (q : Key) → new ≡ old ++ more → is_among more q ≡ true → is_among new q ≡ true
among_more old more new q is among = ap (λ (l : List Key). is_among l q) is ∙ list_any-append (is_at (key_cmp q)) old more ∙ or_right (is_among old q) (is_among more q) among

itself : (k : Key) → is_among (k ∷ []) k ≡ true
itself k = ap (λ r. is_eq r || false) (tied_itself key_cmp-total k)

pub among_last : (old new : List Key) (last q : Key) → new ≡ old ++ last ∷ [] → last ≡ q → is_among new q ≡ true
among_last old new last q is same = among_more old (last ∷ []) new q is (subst (λ (k : Key). is_among (k ∷ []) q ≡ true) (sym same) (itself q))

-- one Secret more
pub secrets_more : (m : Objects) (before : List Key) (s : Key) (old new : List Key) → AreListedBySecret m before old → KeepsKeys old new
    → ((k : Key) → is_targeting s.namespace s.name (object_at m k) ≡ true → is_among new k ≡ true) → AreListedBySecret m (before ++ s ∷ []) new
secrets_more m before s old new listed keeps more t among k is =
    elim (or_cases (is_among before t) (is_eq (key_cmp t s) || false) (sym (list_any-append (is_at (key_cmp t)) before (s ∷ [])) ∙ among)) [
      | inl was ↦ keeps k (listed t was k is)
      | inr here ↦ more k (subst (λ (x : Key). is_targeting x.namespace x.name (object_at m k) ≡ true) (same_key t s (sym (or-false (is_eq (key_cmp t s))) ∙ here)) is)
    ]

-- one key more is gone over
pub listed_next : (P : Key → Bool) (more : List Key) (i : ℕ) (key : Key) (old new : List Key) → i < length more → key ≡ get_or more i key → KeepsKeys old new → (P key ≡ true → is_among new key ≡ true)
    → ((k : Key) → is_among (take i more) k ≡ true → P k ≡ true → is_among old k ≡ true) → (k : Key) → is_among (take (i + 1) more) k ≡ true → P k ≡ true → is_among new k ≡ true
listed_next P more i key old new low at keeps here before k among is =
    let next : take (i + 1) more ≡ take i more ++ key ∷ [] = take_more more i key low ∙ ap (λ (x : Key). take i more ++ x ∷ []) (sym at) in
    elim (or_cases (is_among (take i more) k) (is_eq (key_cmp k key) || false) (sym (ap (λ (l : List Key). is_among l k) next ∙ list_any-append (is_at (key_cmp k)) (take i more) (key ∷ [])) ∙ among)) [
      | inl was ↦ keeps k (before k was is)
      | inr tie ↦ let same : k ≡ key = same_key k key (sym (or-false (is_eq (key_cmp k key))) ∙ tie) in
          subst (λ (x : Key). is_among new x ≡ true) (sym same) (here (ap P (sym same) ∙ is))
    ]
