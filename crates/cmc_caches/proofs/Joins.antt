-- Keys that are put into a set.
use Rattle.std.proofs.Common.{◌≡◌, ℕ, ◌+◌, ◌<◌, List, [], ◌∷◌, ◌++◌, length, take, get_or, Bool, true, false, cond, refl, sym, ap, ◌∙◌, inl, inr, rules}
use Rattle.std.specs.BTreeMap.{is_at}
use Rattle.std.specs.Cmp.Rules.{comparing}
use Rattle.std.specs.Ordering.{is_eq}
use Rattle.std.specs.Prelude.{◌||◌}
use Rattle.std.proofs.Math.Bool.{or-false, or-true}
use Rattle.std.proofs.lemmas.Bool.{or_cases}
use Rattle.std.proofs.lemmas.List.{take_more}
use Rattle.std.proofs.lemmas.List.Folds.{list_any-append}
use Rattle.cmc_meta.specs.declared.key.Key.{Key}
use Rattle.cmc_meta.specs.Keys.{key_cmp, key_eq}
use Rattle.cmc_caches.specs.Affected.{KeepsKeys, is_among}
use Rattle.cmc_caches.proofs.LastNumbers.{tie_back}

-- one key is added, and none is lost
abbrev pub Adds : Key → List Key → List Key → Type 0
Adds key old new = (k : Key) → is_among new k ≡ (key_eq key k || is_among old k)

pub adds_keeps : (key : Key) (old new : List Key) → Adds key old new → KeepsKeys old new
adds_keeps key old new adds k had = adds k ∙ ap (λ (b : Bool). key_eq key k || b) had ∙ or-true (key_eq key k)

pub adds_it : (key k : Key) (old new : List Key) → Adds key old new → key_eq key k ≡ true → is_among new k ≡ true
adds_it key k old new adds is = adds k ∙ ap (λ (b : Bool). b || is_among old k) is

pub all_next : (keys : List Key) (i : ℕ) (key : Key) (old new : List Key) → i < length keys → key ≡ get_or keys i key → Adds key old new → KeepsKeys (take i keys) old → KeepsKeys (take (i + 1) keys) new
all_next keys i key old new low at adds keeps k among =
    let more : take (i + 1) keys ≡ take i keys ++ key ∷ [] = take_more keys i key low ∙ ap (λ (x : Key). take i keys ++ x ∷ []) (sym at) in
    elim (or_cases (is_among (take i keys) k) (is_eq (key_cmp k key) || false) (sym (ap (λ (l : List Key). is_among l k) more ∙ list_any-append (is_at (key_cmp k)) (take i keys) (key ∷ [])) ∙ among)) [
      | inl before ↦ adds_keeps key old new adds k (keeps k before)
      | inr here ↦ adds_it key k old new adds (tie_back key k ∙ sym (or-false (is_eq (key_cmp k key))) ∙ here)
    ]

one_test : (key k : Key) → is_at (key_cmp key) k ≡ key_eq key k
one_test key k = search (comparing, rules)

more : (t b : Bool) → cond t true b ≡ (t || b)
more true b = refl
more false b = refl

pub key_more : (old new : List Key) (key : Key) → ((k : Key) → is_among new k ≡ cond (is_at (key_cmp key) k) true (is_among old k)) → Adds key old new
key_more old new key put k = put k ∙ ap (λ (t : Bool). cond t true (is_among old k)) (one_test key k) ∙ more (key_eq key k) (is_among old k)
