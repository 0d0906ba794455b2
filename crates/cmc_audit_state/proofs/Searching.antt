-- The last of rising versions up to one, found by the place where they pass it.
use Rattle.std.proofs.Common.{◌≡◌, ℕ, zero, suc, ◌-◌, ◌<◌, ◌≤◌, List, [], ◌∷◌, length, get_or, Bool, true, false, Option, Some, None, refl, sym, ap, ◌∙◌, arith}
use Rattle.std.specs.Prelude.{if◌then◌else◌, find, nat_le, reverse, unwrap_or, ◌≢◌}
use Rattle.std.specs.List.Sorted.{IsNonDecreasingBy, IsPartitionPoint}
use Rattle.std.proofs.lemmas.List.{length-reverse, get_or-reverse, reverse-append}
use Rattle.std.proofs.lemmas.List.Sorted.{IsNonDecreasingBy-push, IsNonDecreasingBy-short}
use Rattle.cmc_audit_state.specs.Journaled.{FallFrom, latest_in}

-- ---- the first that passes a test

taken : (b : Bool) (x : ℕ) (o : Option ℕ) (y : ℕ) → b ≡ true → x ≡ y → (if b then Some x else o) ≡ Some y
taken true x o y on same = ap Some same
taken false x o y on same = absurd (cc on)

left : (b : Bool) (x : ℕ) (o r : Option ℕ) → b ≡ false → o ≡ r → (if b then Some x else o) ≡ r
left true x o r off same = absurd (cc off)
left false x o r off same = same

find_first : (q : ℕ → Bool) (vs : List ℕ) (m : ℕ) → ((j : ℕ) → j < m → q (get_or vs j 0) ≡ false) → m < length vs → q (get_or vs m 0) ≡ true → find q vs ≡ Some (get_or vs m 0)
find_first q [] m before low here = absurd (omega (arith, low))
find_first q (v ∷ vs) zero before low here = taken (q v) v (find q vs) v here refl
find_first q (v ∷ vs) (suc m) before low here =
    left (q v) v (find q vs) (Some (get_or vs m 0)) (before 0 (omega arith)) (find_first q vs m (λ j less. before (suc j) (omega (arith, less))) (omega (arith, low)) here)

find_none : (q : ℕ → Bool) (vs : List ℕ) → ((j : ℕ) → j < length vs → q (get_or vs j 0) ≡ false) → find q vs ≡ None
find_none q [] none = refl
find_none q (v ∷ vs) none = left (q v) v (find q vs) None (none 0 (omega arith)) (find_none q vs (λ j less. none (suc j) (omega (arith, less))))

-- ---- by the place where they pass it

abbrev IsPassed : ℕ → List ℕ → ℕ → Type 0
IsPassed p xs i = IsPartitionPoint (λ y. nat_le y p ≡ true) (λ y. nat_le y p ≡ false) xs i

turned : (xs : List ℕ) (j : ℕ) → j < length xs → get_or (reverse xs) j 0 ≡ get_or xs (length xs - 1 - j) 0
turned xs j low = get_or-reverse xs j 0 low

pub latest_none : (p : ℕ) (xs : List ℕ) → IsPassed p xs 0 → 0 ≡ latest_in p (reverse xs)
latest_none p xs passed =
    sym (ap (λ o. unwrap_or o 0) (find_none (λ v. nat_le v p) (reverse xs) (λ j less.
    let low : j < length xs = omega (arith, less, length-reverse xs) in
    ap (λ v. nat_le v p) (turned xs j low) ∙ passed.1 (length xs - 1 - j) 0 (omega arith) (omega (arith, low)))))

pub latest_some : (p : ℕ) (xs : List ℕ) (i : ℕ) → IsPassed p xs i → i ≢ 0 → i ≤ length xs → get_or xs (i - 1) 0 ≡ latest_in p (reverse xs)
latest_some p xs i passed some high =
    let m : ℕ = length xs - i in
    let low : m < length xs = omega (arith, some, high) in
    let place : length xs - 1 - m ≡ i - 1 = omega (arith, some, high) in
    let here : get_or (reverse xs) m 0 ≡ get_or xs (i - 1) 0 = turned xs m low ∙ ap (λ k. get_or xs k 0) place in
    sym (ap (λ o. unwrap_or o 0) (find_first (λ v. nat_le v p) (reverse xs) m (λ j less.
    let below : j < length xs = omega (arith, less, low) in
    ap (λ v. nat_le v p) (turned xs j below) ∙ passed.1 (length xs - 1 - j) 0 (omega (arith, less, high)) (omega (arith, below)))
    (omega (arith, low, length-reverse xs))
    (ap (λ v. nat_le v p) here ∙ passed.0 (i - 1) 0 (omega arith) (omega (arith, some)))) ∙ here)

-- ---- versions that fall, read the other way round

pub rises : (n : ℕ) (vs : List ℕ) → FallFrom n vs → IsNonDecreasingBy (λ v. v) (reverse vs)
rises n [] falls = IsNonDecreasingBy-short (λ v. v) [] (omega arith)
rises n (v ∷ []) falls = IsNonDecreasingBy-short (λ v. v) (v ∷ []) (omega arith)
rises n (v ∷ w ∷ vs) falls = risen v w vs falls.1.0 (rises v (w ∷ vs) falls.1) where
  last_of : (v w : ℕ) (vs : List ℕ) (d : ℕ) → get_or (reverse (w ∷ vs)) (length (reverse (w ∷ vs)) - 1) d ≡ w
  last_of v w vs d =
      let n : length (reverse (w ∷ vs)) ≡ length (w ∷ vs) = length-reverse (w ∷ vs) in
      let place : length (w ∷ vs) - 1 - (length (reverse (w ∷ vs)) - 1) ≡ 0 = omega (arith, n) in
      get_or-reverse (w ∷ vs) (length (reverse (w ∷ vs)) - 1) d (omega (arith, n)) ∙ ap (λ k. get_or (w ∷ vs) k d) place

  risen : (v w : ℕ) (vs : List ℕ) → w < v → IsNonDecreasingBy (λ v. v) (reverse (w ∷ vs)) → IsNonDecreasingBy (λ v. v) (reverse (v ∷ w ∷ vs))
  risen v w vs less rest =
      rw (reverse-append (v ∷ []) (w ∷ vs)) (IsNonDecreasingBy-push (λ v. v) (reverse (w ∷ vs)) v rest (λ d some. let e = last_of v w vs d in omega (arith, e, less)))
