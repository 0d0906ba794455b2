-- Sums over keys of which no two are the same.
use Rattle.std.proofs.Common.{◌≡◌, ℕ, ◌+◌, ◌*◌, ◌≤◌, List, [], ◌∷◌, length, Bool, true, false, refl, subst, sym, arith}
use Rattle.std.proofs.lemmas.Bool.{or_parts}
use Rattle.std.proofs.Math.Nat.{mul-suc}
use Rattle.std.specs.BTreeMap.{is_at}
use Rattle.std.specs.List.{list_any}
use Rattle.cmc_meta.specs.declared.key.Key.{Key}
use Rattle.cmc_meta.specs.Keys.{key_cmp}
use Rattle.cmc_run_laws.specs.Lengths.{Each}
use Rattle.cmc_load_laws.specs.Totals.{total}
use Rattle.cmc_load_laws.proofs.Totals.{one_key}

-- no key is there twice
abbrev pub AreDistinct : List Key → Type 0
AreDistinct [] = Unit {0}
AreDistinct (key ∷ keys) = (list_any (is_at (key_cmp key)) keys ≡ false) × AreDistinct keys

-- what is so of keys other than the one
abbrev pub IsSameElsewhere : (Key → Type 0) → (Key → ℕ) → (Key → ℕ) → Key → Type 0
IsSameElsewhere P f g own = (key : Key) → P key → is_at (key_cmp own) key ≡ false → g key ≡ f key

pub total_same : (P : Key → Type 0) (f g : Key → ℕ) (own : Key) (keys : List Key) → Each P keys → list_any (is_at (key_cmp own)) keys ≡ false → IsSameElsewhere P f g own → total g keys ≡ total f keys
total_same P f g own [] are none same = refl
total_same P f g own (key ∷ keys) are none same =
    let parts = or_parts (is_at (key_cmp own) key) (list_any (is_at (key_cmp own)) keys) none in
    let one = same key are.0 parts.0 in
    let rest = total_same P f g own keys are.1 parts.1 same in
    omega (arith, one, rest)

-- where one term rises by so much at most, so does the sum
pub total_rises : (P : Key → Type 0) (f g : Key → ℕ) (own : Key) (n : ℕ) (keys : List Key) → Each P keys → AreDistinct keys → IsSameElsewhere P f g own → g own ≤ f own + n → total g keys ≤ total f keys + n
total_rises P f g own n [] are distinct same low = omega arith
total_rises P f g own n (key ∷ keys) are distinct same low = by (is_at (key_cmp own) key) refl (total_rises P f g own n keys are.1 distinct.1 same low) where
  by : (b : Bool) → is_at (key_cmp own) key ≡ b → total g keys ≤ total f keys + n → g key + total g keys ≤ f key + total f keys + n
  by true is rises =
      let here : own ≡ key = one_key own key is in
      let first : g key ≤ f key + n = subst (λ (k : Key). g k ≤ f k + n) here low in
      let rest = total_same P f g own keys are.1 (subst (λ (k : Key). list_any (is_at (key_cmp k)) keys ≡ false) (sym here) distinct.0) same in
      omega (arith, first, rest)
  by false off rises = let one = same key are.0 off in omega (arith, one, rises)

product_more : (n k : ℕ) → n * (k + 1) ≡ n * k + n
product_more n k = let product = mul-suc n k in omega (arith, product)

-- where each term rises by so much at most, and by a term of a third sum
pub total_each : (f g h : Key → ℕ) (n : ℕ) (keys : List Key) → ((key : Key) → g key ≤ f key + (n + h key)) → total g keys ≤ total f keys + (n * length keys + total h keys)
total_each f g h n [] each = omega arith
total_each f g h n (key ∷ keys) each =
    let one = each key in
    let rest = total_each f g h n keys each in
    let product = product_more n (length keys) in
    omega (arith, one, rest, product)
