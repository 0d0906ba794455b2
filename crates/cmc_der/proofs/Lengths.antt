-- The octets of a length, and what is read of them.
use Rattle.std.proofs.Common.{◌≡◌, ℕ, zero, suc, ◌+◌, ◌-◌, ◌*◌, ◌<◌, ◌≤◌, ◌≢◌, false, cond, ltb, eqb, List, [], ◌∷◌, ◌++◌, length, Result, Ok, Err, refl, sym, ap, subst, arith, inl, inr}
use Rattle.std.specs.Prelude.{◌||◌, ◌&&◌}
use Rattle.std.proofs.lemmas.Bool.{lt-ltb, le-ltb, ltb-true, ltb-false, ne_eqb, eqb-false, and_cases, or_parts}
use Rattle.cmc_der.specs.declared.reading.DerFault.{DerFault}
use Rattle.cmc_der.specs.declared.reading.DerFault.TheVariants.{NotDer}
use Rattle.cmc_der.specs.Values.{number_after, IsLength}
use Rattle.cmc_der.specs.Elements.{number_at, long_at, length_at}
use Rattle.cmc_der.proofs.Steps.{chosen}

abbrev pub read_ok : ℕ × List ℕ → Result (ℕ × List ℕ) DerFault
read_ok p = Ok p

abbrev pair : ℕ → List ℕ → ℕ × List ℕ
pair a x = (a, x)

ok_is : (x y : ℕ × List ℕ) → read_ok x ≡ read_ok y → x ≡ y
ok_is x y e = cc

pair_is : (a b : ℕ) (x y : List ℕ) → read_ok (a, x) ≡ read_ok (b, y) → (a ≡ b) × (x ≡ y)
pair_is a b x y e =
    let p : pair a x ≡ pair b y = ok_is (a, x) (b, y) e in
    (ap (λ (q : ℕ × List ℕ). q.0) p, ap (λ (q : ℕ × List ℕ). q.1) p)

-- the octets of a number that was read
pub record IsNumber (k n : ℕ) (bs : List ℕ) (m : ℕ) (rest : List ℕ) : Type 0 where
  pub digits : List ℕ
  pub count : length digits ≡ k
  pub spelled : bs ≡ digits ++ rest
  pub value : m ≡ number_after n digits

number_spelled : (k n : ℕ) (bs : List ℕ) (m : ℕ) (rest : List ℕ) → number_at k n bs ≡ read_ok (m, rest) → IsNumber k n bs m rest
number_spelled zero n bs m rest e = let p = pair_is n m bs rest e in record { digits = []; count = refl; spelled = p.1; value = sym p.0 }
number_spelled (suc k) n [] m rest e = absurd cc
number_spelled (suc k) n (b ∷ bs) m rest e =
    let s = number_spelled k (n * 256 + b) bs m rest e in
    record { digits = b ∷ s.digits; count = omega (arith, s.count); spelled = ap (λ (w : List ℕ). b ∷ w) s.spelled; value = s.value }

number_again : (n : ℕ) (digits rest : List ℕ) → number_at (length digits) n (digits ++ rest) ≡ read_ok (number_after n digits, rest)
number_again n [] rest = refl
number_again n (b ∷ digits) rest = number_again (n * 256 + b) digits rest

number_grows : (n : ℕ) (digits : List ℕ) → n ≤ number_after n digits
number_grows n [] = omega arith
number_grows n (b ∷ digits) = omega (arith, number_grows (n * 256 + b) digits)

-- a number of two octets or more
number_large : (n : ℕ) (digits : List ℕ) → 0 < n → 0 < length digits → 256 ≤ number_after n digits
number_large n [] p q = absurd (omega arith)
number_large n (b ∷ digits) p q = omega (arith, number_grows (n * 256 + b) digits)

-- what a length that was read tells
pub record IsRead (octets : List ℕ) (n : ℕ) (rest : List ℕ) : Type 0 where
  pub lead : List ℕ
  pub is : IsLength lead n
  pub spelled : octets ≡ lead ++ rest

long_spelled : (k : ℕ) (bs : List ℕ) (n : ℕ) (rest : List ℕ) → 0 < k → k < 5 → long_at k bs ≡ read_ok (n, rest) → IsRead ((128 + k) ∷ bs) n rest
long_spelled k [] n rest g h e = absurd cc
long_spelled k (a ∷ bs) n rest g h e =
    elim (chosen ((eqb a 0) || ((eqb k 1) && ltb a 128)) (Err (NotDer 2)) (number_at (k - 1) a bs) (read_ok (n, rest)) e) [
      | inl t ↦ absurd (cc (t.1))
      | inr t ↦
          let o = or_parts (eqb a 0) ((eqb k 1) && ltb a 128) t.0 in
          let ne : a ≢ 0 = eqb-false a 0 o.0 in
          let s = number_spelled (k - 1) a bs n rest t.1 in
          let least : 128 ≤ n = elim (and_cases (eqb k 1) (ltb a 128) o.1) [
            | inl u ↦ let more : k ≢ 1 = eqb-false k 1 u in omega (arith, number_large a s.digits (omega arith) (omega (arith, s.count)), s.value)
            | inr u ↦ omega (arith, ltb-false a 128 u, number_grows a s.digits, s.value)
          ] in
          record { lead = (128 + k) ∷ (a ∷ s.digits); is = (omega (arith, s.count), omega (arith, s.count), omega arith, least, s.value); spelled = ap (λ (w : List ℕ). (128 + k) ∷ (a ∷ w)) s.spelled }
    ]

pub length_spelled : (bs : List ℕ) (n : ℕ) (rest : List ℕ) → length_at bs ≡ Ok (n, rest) → IsRead bs n rest
length_spelled [] n rest e = absurd cc
length_spelled (x ∷ bs) n rest e =
    elim (chosen (ltb x 128) (read_ok (x, bs)) (cond ((eqb x 128) || ltb 132 x) (Err (NotDer 1)) (long_at (x - 128) bs)) (read_ok (n, rest)) e) [
      | inl t ↦
          let p = pair_is x n bs rest t.1 in
          record { lead = x ∷ []; is = (ltb-true x 128 t.0, sym p.0); spelled = ap (λ (w : List ℕ). x ∷ w) p.1 }
      | inr t ↦ elim (chosen ((eqb x 128) || ltb 132 x) (Err (NotDer 1)) (long_at (x - 128) bs) (read_ok (n, rest)) t.1) [
        | inl u ↦ absurd (cc (u.1))
        | inr u ↦
            let o = or_parts (eqb x 128) (ltb 132 x) u.0 in
            let ne : x ≢ 128 = eqb-false x 128 o.0 in
            let lo : 128 ≤ x = ltb-false x 128 t.0 in
            let hi : x ≤ 132 = ltb-false 132 x o.1 in
            let back : 128 + (x - 128) ≡ x = omega arith in
            subst (λ (y : ℕ). IsRead (y ∷ bs) n rest) back (long_spelled (x - 128) bs n rest (omega arith) (omega arith) u.1)
      ]
    ]

one_or_more : (c : ℕ) (cs : List ℕ) (n : ℕ) → 128 ≤ n → n ≡ number_after c cs → (eqb (suc (length cs)) 1 && ltb c 128) ≡ false
one_or_more c [] n h e = le-ltb c 128 (omega (arith, e))
one_or_more c (d ∷ cs) n h e = rw (ne_eqb (suc (suc (length cs))) 1 (omega arith)) refl

-- a length that is spelled is read again
pub length_again : (lead : List ℕ) (n : ℕ) (rest : List ℕ) → IsLength lead n → length_at (lead ++ rest) ≡ Ok (n, rest)
length_again [] n rest h = absurd h
length_again (b ∷ []) n rest h = rw (lt-ltb b 128 (h.0), h.1) refl
length_again (b ∷ c ∷ cs) n rest h =
    let k : b - 128 ≡ suc (length cs) = omega (arith, h.0) in
    let one : (eqb (suc (length cs)) 1 && ltb c 128) ≡ false = one_or_more c cs n (h.3) (h.4) in
    let less : suc (length cs) - 1 ≡ length cs = omega arith in
    rw (le-ltb b 128 (omega (arith, h.0)), ne_eqb b 128 (omega (arith, h.0)), le-ltb 132 b (omega (arith, h.0, h.1)), k, ne_eqb c 0 (omega (arith, h.2)), one, less, h.4) (number_again c cs rest)
