-- Two numbers that are not too large have different suffixes.
use Rattle.std.proofs.Common.{◌≡◌, ℕ, zero, suc, ◌-◌, ◌*◌, ◌/◌, ◌%◌, ◌<◌, ◌⊎◌, inl, inr, Bool, true, false, ◌&&◌, List, [], ◌∷◌, refl, sym, ap, subst, ◌∙◌, arith}
use Rattle.std.specs.Prelude.{◌==◌, slice_index, reverse, if◌then◌else◌}
use Rattle.std.specs.List.{position_or_len}
use Rattle.std.proofs.lemmas.Bool.{eqb-true, and_parts}
use Rattle.std.proofs.lemmas.List.{append_cancel_left, reverse-reverse}
use Rattle.std.proofs.lemmas.Nat.{mod_below}
use Rattle.cmc_model.specs.Generated.{digits, low_digits, suffix, prefix, generated_name}

-- ---- one digit

abbrev all_below : ℕ → (ℕ → Bool) → Bool
all_below zero passes = true
all_below (suc n) passes = passes n && all_below n passes

last_or_below : (k n : ℕ) → k < suc n → (k ≡ n) ⊎ (k < n)
last_or_below k n h = grind arith

below_all : (n : ℕ) (passes : ℕ → Bool) (k : ℕ) → all_below n passes ≡ true → k < n → passes k ≡ true
below_all zero passes k all here = absurd (omega arith)
below_all (suc n) passes k all here =
    elim (last_or_below k n here) [
      | inl last ↦ subst (λ (m : ℕ). passes m ≡ true) (sym last) (and_parts (passes n) (all_below n passes) all).0
      | inr below ↦ below_all n passes k (and_parts (passes n) (all_below n passes) all).1 below
    ]

-- which digit the byte is
abbrev place_of : ℕ → ℕ
place_of byte = position_or_len (λ (other : ℕ). other == byte) digits

abbrev is_at_place : ℕ → Bool
is_at_place d = place_of (slice_index digits d) == d

all_at_place : all_below 27 is_at_place ≡ true
all_at_place = refl

placed : (d : ℕ) → d < 27 → place_of (slice_index digits d) ≡ d
placed d h = eqb-true (place_of (slice_index digits d)) d (below_all 27 is_at_place d all_at_place h)

same_digit : (a b : ℕ) → a < 27 → b < 27 → slice_index digits a ≡ slice_index digits b → a ≡ b
same_digit a b small_a small_b same = sym (placed a small_a) ∙ (ap place_of same ∙ placed b small_b)

-- ---- all digits

-- how many numbers have so many digits
abbrev room_for : ℕ → ℕ
room_for zero = 1
room_for (suc n) = 27 * room_for n

zero_is : (n least : ℕ) → ((n == 0) && (least == 0)) ≡ true → n ≡ 0
zero_is n least h = eqb-true n 0 (and_parts (n == 0) (least == 0) h).0

same_head : (x y : ℕ) (xs ys : List ℕ) → x ∷ xs ≡ y ∷ ys → x ≡ y
same_head x y xs ys h = cc

same_tail : (x y : ℕ) (xs ys : List ℕ) → x ∷ xs ≡ y ∷ ys → xs ≡ ys
same_tail x y xs ys h = cc

none_some : (x : ℕ) (xs : List ℕ) → [] ≡ x ∷ xs → ⊥
none_some x xs h = cc

some_none : (x : ℕ) (xs : List ℕ) → x ∷ xs ≡ [] → ⊥
some_none x xs h = cc

fewer : (a m : ℕ) → a < 27 * m → a / 27 < m
fewer a m h = omega arith

whole : (a b : ℕ) → a % 27 ≡ b % 27 → a / 27 ≡ b / 27 → a ≡ b
whole a b low high = omega arith

same_number : (room least a b : ℕ) → a < room_for room → b < room_for room → low_digits room least a ≡ low_digits room least b → a ≡ b
same_number zero least a b small_a small_b same = omega arith
same_number (suc room) least a b small_a small_b same =
    by_tests ((a == 0) && (least == 0)) ((b == 0) && (least == 0)) refl refl same
    (λ tails. same_number room (least - 1) (a / 27) (b / 27) (fewer a (room_for room) small_a) (fewer b (room_for room) small_b) tails)
  where
    by_tests : (p q : Bool) → ((a == 0) && (least == 0)) ≡ p → ((b == 0) && (least == 0)) ≡ q
        → (if p then [] else slice_index digits (a % 27) ∷ low_digits room (least - 1) (a / 27)) ≡ (if q then [] else slice_index digits (b % 27) ∷ low_digits room (least - 1) (b / 27))
        → (low_digits room (least - 1) (a / 27) ≡ low_digits room (least - 1) (b / 27) → a / 27 ≡ b / 27) → a ≡ b
    by_tests true true is_a is_b h rest = zero_is a least is_a ∙ sym (zero_is b least is_b)
    by_tests true false is_a is_b h rest = absurd (none_some _ _ h)
    by_tests false true is_a is_b h rest = absurd (some_none _ _ h)
    by_tests false false is_a is_b h rest =
        whole a b (same_digit (a % 27) (b % 27) (mod_below a 27 (omega arith)) (mod_below b 27 (omega arith)) (same_head _ _ _ _ h)) (rest (same_tail _ _ _ _ h))

-- fourteen digits hold each number below this
abbrev pub most : ℕ
most = 109418989131512359209

pub same_name : (name : List ℕ) (a b : ℕ) → a < most → b < most → generated_name name a ≡ generated_name name b → a ≡ b
unfolding generated_name
same_name name a b small_a small_b same =
    let suffixes : reverse (low_digits 14 5 a) ≡ reverse (low_digits 14 5 b) = append_cancel_left (prefix name) (suffix a) (suffix b) same in
    let lows : low_digits 14 5 a ≡ low_digits 14 5 b = sym (reverse-reverse (low_digits 14 5 a)) ∙ (ap reverse suffixes ∙ reverse-reverse (low_digits 14 5 b)) in
    same_number 14 5 a b small_a small_b lows
