-- Texts whose first bytes differ as numbers stand in the order of these numbers.
use Rattle.std.proofs.Common.{◌≡◌, inl, inr, ℕ, zero, suc, ◌+◌, ◌*◌, ◌^◌, ◌<◌, ◌≤◌, List, [], ◌∷◌, length, refl, sym, ap, ◌∙◌, true, arith, Ordering, Less, Equal, Greater}
use Rattle.std.specs.Prelude.{slice_index}
use Rattle.std.specs.Cmp.{ranked}
use Rattle.std.specs.Cmp.Lexicographic.{slice_cmp}
use Rattle.std.specs.Ordering.{nat_cmp, ordering_then, ordering_reverse, MatchOrdering}
use Rattle.std.proofs.Math.Nat.{mul-le-mul_left, mul_left_comm, pow-le-pow_right, pow-suc, pow-succ'}
use Rattle.std.proofs.lemmas.Cmp.{nat_list_cmp_total}
use Rattle.std.proofs.lemmas.Bool.{cases_lt}
use Rattle.cmc_meta.specs.Names.{IsName, are_short, leading}

abbrev AreBytes : List ℕ → Type 0
AreBytes bs = (i : ℕ) → slice_index bs i < 256

power_more : (n x : ℕ) → x * 256 ^ suc n ≡ 256 * (x * 256 ^ n)
power_more n x = ap (λ (z : ℕ). x * z) (pow-succ' 256 n) ∙ mul_left_comm x 256 (256 ^ n)

calc_first : (whole byte other part power rest : ℕ) → whole ≡ part + rest → byte ≡ other → power ≡ 256 * part → whole * 256 + byte ≡ power + (rest * 256 + other)
calc_first whole byte other part power rest a b c = omega (arith, a, b, c)

-- the first byte counts for as much as all behind it
leading_first : (n x : ℕ) (xs : List ℕ) → leading (suc n) (x ∷ xs) ≡ x * 256 ^ n + leading n xs
leading_first zero x xs = omega arith
leading_first (suc n) x xs =
    let before : leading (suc n) (x ∷ xs) ≡ x * 256 ^ n + leading n xs = leading_first n x xs in
    let next : slice_index (x ∷ xs) (suc n) ≡ slice_index xs n = refl in
    let power : x * 256 ^ suc n ≡ 256 * (x * 256 ^ n) = power_more n x in
    calc_first (leading (suc n) (x ∷ xs)) (slice_index (x ∷ xs) (suc n)) (slice_index xs n) (x * 256 ^ n) (x * 256 ^ suc n) (leading n xs) before next power

leading_none : (n : ℕ) → leading n [] ≡ 0
leading_none zero = refl
leading_none (suc n) = let before = leading_none n in omega (arith, before)

-- so many bytes make no larger number
small : (n : ℕ) (bs : List ℕ) → AreBytes bs → leading n bs < 256 ^ n
small zero bs all = omega arith
small (suc n) bs all =
    let before : leading n bs < 256 ^ n = small n bs all in
    let byte : slice_index bs n < 256 = all n in
    let power : 256 ^ suc n ≡ 256 ^ n * 256 = pow-suc 256 n in
    omega (arith, before, byte, power)

-- what is read of seven bytes can take an eighth
pub room_for_one : (n : ℕ) (bs : List ℕ) → AreBytes bs → n < 8 → leading n bs * 256 + 255 < 2 ^ 64
room_for_one n bs all few =
    let below = small n bs all in
    let seven : n ≤ 7 = omega (arith, few) in
    let some : 0 < 256 = omega arith in
    let most : 256 ^ n ≤ 256 ^ 7 = pow-le-pow_right some seven in
    omega (arith, below, most)

-- where the first bytes rise, the number does
rises : (n x y p q : ℕ) → p < 256 ^ n → x < y → x * 256 ^ n + p < y * 256 ^ n + q
rises n x y p q low less =
    let step : 256 ^ n * suc x ≤ 256 ^ n * y = mul-le-mul_left (256 ^ n) (omega (arith, less)) in
    omega (arith, low, step)

-- of two numbers of so many bytes the lower belongs to the text that comes first
pub lower_first : (n : ℕ) (xs ys : List ℕ) → AreBytes xs → AreBytes ys → leading n xs < leading n ys → slice_cmp nat_cmp xs ys ≡ Less
lower_first zero xs ys all every low = absurd (omega (arith, low))
lower_first (suc n) [] [] all every low = absurd (omega (arith, low))
lower_first (suc n) [] (y ∷ ys) all every low = refl
lower_first (suc n) (x ∷ xs) [] all every low = absurd (let none = leading_none (suc n) in omega (arith, low, none))
lower_first (suc n) (x ∷ xs) (y ∷ ys) all every low =
    elim (nat_cmp x y) as (λ o. MatchOrdering o (x < y) (x ≡ y) (y < x) → ordering_then o (slice_cmp nat_cmp xs ys) ≡ Less) [
      | Less ↦ λ h. refl
      | Equal ↦ λ h. lower_first n xs ys (λ i. all (suc i)) (λ i. every (suc i))
          (let same : x ≡ y = h in
          let e : x * 256 ^ n ≡ y * 256 ^ n = ap (λ (z : ℕ). z * 256 ^ n) same in
          let left = leading_first n x xs in
          let right = leading_first n y ys in
          omega (arith, low, e, left, right))
      | Greater ↦ λ h. absurd
          (let over : y < x = h in
          let left = leading_first n x xs in
          let right = leading_first n y ys in
          let more = rises n y x (leading n ys) (leading n xs) (small n ys (λ i. every (suc i))) over in
          omega (arith, low, more, left, right))
    ] (ranked x y (nat_cmp x y) refl)

same_front : (n x y p q : ℕ) → p < 256 ^ n → q < 256 ^ n → x * 256 ^ n + p ≡ y * 256 ^ n + q → x ≡ y
same_front n x y p q low high e =
    elim (cases_lt x y) [
      | inl less ↦ absurd (let more = rises n x y p q low less in omega (arith, more, e))
      | inr over ↦ elim (cases_lt y x) [
        | inl less ↦ absurd (let more = rises n y x q p high less in omega (arith, more, e))
        | inr not ↦ omega (arith, over, not)
      ]
    ]

-- texts of one length that the number has whole are told apart by it
pub same_short : (n : ℕ) (xs ys : List ℕ) → AreBytes xs → AreBytes ys → length xs ≤ n → length xs ≡ length ys → leading n xs ≡ leading n ys → xs ≡ ys
same_short n [] [] all every short long e = refl
same_short n [] (y ∷ ys) all every short long e = absurd (omega (arith, long))
same_short n (x ∷ xs) [] all every short long e = absurd (omega (arith, long))
same_short zero (x ∷ xs) (y ∷ ys) all every short long e = absurd (omega (arith, short))
same_short (suc n) (x ∷ xs) (y ∷ ys) all every short long e =
    let left = leading_first n x xs in
    let right = leading_first n y ys in
    let front : x ≡ y = same_front n x y (leading n xs) (leading n ys) (small n xs (λ i. all (suc i))) (small n ys (λ i. every (suc i))) (omega (arith, left, right, e)) in
    let part : x * 256 ^ n ≡ y * 256 ^ n = ap (λ (z : ℕ). z * 256 ^ n) front in
    let rest : xs ≡ ys = same_short n xs ys (λ i. all (suc i)) (λ i. every (suc i)) (omega (arith, short)) (omega (arith, long)) (omega (arith, left, right, e, part)) in
    ap (λ (z : ℕ). z ∷ xs) front ∙ ap (λ (l : List ℕ). y ∷ l) rest

-- ---- the same of names

pub named_lower : (m n : ℕ) (xs ys : List ℕ) → IsName m xs → IsName n ys → m < n → slice_cmp nat_cmp xs ys ≡ Less
unfolding IsName
named_lower m n xs ys left right low = lower_first 8 xs ys left.bytes right.bytes (let a = left.number_is in let b = right.number_is in omega (arith, a, b, low))

pub named_higher : (m n : ℕ) (xs ys : List ℕ) → IsName m xs → IsName n ys → n < m → slice_cmp nat_cmp xs ys ≡ Greater
named_higher m n xs ys left right high = nat_list_cmp_total.antisymm xs ys ∙ ap ordering_reverse (named_lower n m ys xs right left high)

mirrored : (xs ys : List ℕ) → xs ≡ ys → slice_cmp nat_cmp ys xs ≡ slice_cmp nat_cmp xs ys
mirrored xs ys e = ap (λ (l : List ℕ). slice_cmp nat_cmp l xs) (sym e) ∙ ap (λ (l : List ℕ). slice_cmp nat_cmp xs l) e

told_same : (xs ys : List ℕ) (o : Ordering) → xs ≡ ys → o ≡ slice_cmp nat_cmp xs ys → o ≡ Equal
told_same xs ys Less e is = absurd (cc (is ∙ nat_list_cmp_total.antisymm xs ys ∙ ap ordering_reverse (mirrored xs ys e ∙ sym is)))
told_same xs ys Equal e is = refl
told_same xs ys Greater e is = absurd (cc (is ∙ nat_list_cmp_total.antisymm xs ys ∙ ap ordering_reverse (mirrored xs ys e ∙ sym is)))

pub named_same : (m n : ℕ) (xs ys : List ℕ) → IsName m xs → IsName n ys → m ≡ n → are_short xs ys ≡ true → slice_cmp nat_cmp xs ys ≡ Equal
unfolding IsName
named_same m n xs ys left right same short =
    let e : xs ≡ ys = same_short 8 xs ys left.bytes right.bytes (grind (arith, short)) (grind (arith, short)) (sym left.number_is ∙ same ∙ right.number_is) in
    told_same xs ys (slice_cmp nat_cmp xs ys) e refl
