-- No more objects stand than writes were accepted: of keys that differ, at most so many have an object.
use Rattle.std.proofs.Common.{◌≡◌, ◌+◌, ◌≤◌, Bool, true, false, cond, List, [], ◌∷◌, length, refl, sym, ap, subst, ◌∙◌, arith}
use Rattle.std.specs.Prelude.{if◌then◌else◌, is_some}
use Rattle.std.specs.List.{AllByRecursion}
use Rattle.std.specs.FinMap.{get-empty}
use Rattle.std.specs.Ordering.{eq_by_cmp}
use Rattle.std.proofs.lemmas.Cmp.{eq_by_cmp_equiv}
use Rattle.cmc_meta.specs.declared.key.Key.{Key}
use Rattle.cmc_meta.specs.Keys.{key_cmp}
use Rattle.cmc_model.specs.declared.write.Write.{Write}
use Rattle.cmc_model.specs.Objects.{object_at}
use Rattle.cmc_model.specs.Writes.{contents}
use Rattle.cmc_meta.proofs.KeyOrder.{key_cmp-total}
use Rattle.cmc_model.proofs.Versions.{object_at-put}

abbrev pub same : Key → Key → Bool
same k j = eq_by_cmp key_cmp k j

-- the key is not among them
abbrev pub IsNone : Key → List Key → Type 0
IsNone k ks = AllByRecursion (λ (j : Key). same j k ≡ false) ks

abbrev pub AreDistinct : List Key → Type 0
AreDistinct [] = Unit {0}
AreDistinct (k ∷ ks) = IsNone k ks × AreDistinct ks

-- an object stands under the key after the writes
abbrev pub Stands : List Write → Key → Type 0
Stands ws k = is_some (object_at (contents ws) k) ≡ true

abbrev pub AllStand : List Write → List Key → Type 0
AllStand ws ks = AllByRecursion (Stands ws) ks

-- the keys that are not this one
abbrev others : Key → List Key → List Key
others k [] = []
others k (j ∷ js) = if same j k then others k js else j ∷ others k js

-- ---- one key less

via : (j k x : Key) → same j k ≡ true → same x j ≡ false → same x k ≡ false
via j k x alike differs =
    let equal = eq_by_cmp_equiv key_cmp-total in
    equal.symm x k ∙ (sym (equal.congr j k x alike) ∙ (equal.symm j x ∙ differs))

none_other : (k : Key) (js : List Key) → IsNone k js → others k js ≡ js
none_other k [] none = refl
none_other k (j ∷ js) none = rw (none.0) (ap (λ (rest : List Key). j ∷ rest) (none_other k js none.1))

none_via : (j k : Key) (js : List Key) → same j k ≡ true → IsNone j js → IsNone k js
none_via j k [] alike none = tt
none_via j k (x ∷ js) alike none = (via j k x alike none.0, none_via j k js alike none.1)

one_less : (k : Key) (ks : List Key) → AreDistinct ks → length ks ≤ length (others k ks) + 1
one_less k [] distinct = omega arith
one_less k (j ∷ js) distinct = by_test (same j k) refl (one_less k js distinct.1)
  where
    by_test : (b : Bool) → same j k ≡ b → length js ≤ length (others k js) + 1 → length (j ∷ js) ≤ length (if b then others k js else j ∷ others k js) + 1
    by_test true e rest = omega (arith, ap length (none_other k js (none_via j k js e distinct.0)))
    by_test false e rest = omega (arith, rest)

none_kept : (k x : Key) (js : List Key) → IsNone x js → IsNone x (others k js)
none_kept k x [] none = tt
none_kept k x (j ∷ js) none = by_test (same j k) (none_kept k x js none.1)
  where
    by_test : (b : Bool) → IsNone x (others k js) → IsNone x (if b then others k js else j ∷ others k js)
    by_test true rest = rest
    by_test false rest = (none.0, rest)

distinct_kept : (k : Key) (ks : List Key) → AreDistinct ks → AreDistinct (others k ks)
distinct_kept k [] distinct = tt
distinct_kept k (j ∷ js) distinct = by_test (same j k) (distinct_kept k js distinct.1)
  where
    by_test : (b : Bool) → AreDistinct (others k js) → AreDistinct (if b then others k js else j ∷ others k js)
    by_test true rest = rest
    by_test false rest = (none_kept k j js distinct.0, rest)

-- ---- one write less

stood : (w : Write) (ws : List Write) (j : Key) → same j w.key ≡ false → Stands (w ∷ ws) j → Stands ws j
unfolding contents
stood w ws j differs stands =
    let at : is_some (cond (same j w.key) w.object (object_at (contents ws) j)) ≡ true = ap is_some (sym (object_at-put (contents ws) w.key w.object j)) ∙ stands in
    subst (λ (b : Bool). is_some (cond b w.object (object_at (contents ws) j)) ≡ true) differs at

all_stood : (w : Write) (ws : List Write) (ks : List Key) → AllStand (w ∷ ws) ks → AllStand ws (others w.key ks)
all_stood w ws [] all = tt
all_stood w ws (j ∷ js) all = by_test (same j w.key) refl (all_stood w ws js all.1)
  where
    by_test : (b : Bool) → same j w.key ≡ b → AllStand ws (others w.key js) → AllStand ws (if b then others w.key js else j ∷ others w.key js)
    by_test true e rest = rest
    by_test false e rest = (stood w ws j e all.0, rest)

nothing_stands : (k : Key) → Stands [] k → ⊥
unfolding contents
nothing_stands k h = absurd (let off : false ≡ true = ap is_some (sym (get-empty key_cmp k)) ∙ h in cc)

pub few_stand : (ws : List Write) (ks : List Key) → AreDistinct ks → AllStand ws ks → length ks ≤ length ws
few_stand [] [] distinct all = omega arith
few_stand [] (k ∷ ks) distinct all = absurd (nothing_stands k all.0)
few_stand (w ∷ ws) ks distinct all =
    omega (arith, one_less w.key ks distinct, few_stand ws (others w.key ks) (distinct_kept w.key ks distinct) (all_stood w ws ks all))
