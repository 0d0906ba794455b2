-- The number of bits of the number that octets spell.
use Rattle.std.proofs.Common.{◌≡◌, ℕ, suc, ◌+◌, ◌-◌, ◌*◌, ◌^◌, ◌<◌, ◌≤◌, List, [], ◌∷◌, length, ap, ◌∙◌, arith, inl, inr}
use Rattle.std.proofs.lemmas.Bool.{cases_lt, lt-ltb, le-ltb}
use Rattle.std.proofs.lemmas.Nat.{pow-add}
use Rattle.std.proofs.Math.Nat.{mul-le-mul_right}
use Rattle.cmc_der.specs.Values.{number_after}
use Rattle.cmc_der.specs.Integers.{octet_bits, bit_length, AreOctets, IsBitLength}

-- octets behind a number, which they shift by eight bits each
record IsSpread (n : ℕ) (bs : List ℕ) : Type 0 where
  pub low : n * 2 ^ (8 * length bs) ≤ number_after n bs
  pub high : number_after n bs < (n + 1) * 2 ^ (8 * length bs)

eight_more : (l : ℕ) → 2 ^ (8 * suc l) ≡ 2 ^ (8 * l) * 256
eight_more l = let e : 8 * suc l ≡ 8 * l + 8 = omega arith in ap (λ (k : ℕ). 2 ^ k) e ∙ pow-add 2 (8 * l) 8

spread_step : (n b p m : ℕ) → b < 256 → (n * 256 + b) * p ≤ m → m < (n * 256 + b + 1) * p → (n * (p * 256) ≤ m) × (m < (n + 1) * (p * 256))
spread_step n b p m h low high =
    let fits : (b + 1) * p ≤ 256 * p = mul-le-mul_right p (omega arith) in
    (omega arith, omega arith)

spread : (n : ℕ) (bs : List ℕ) → AreOctets bs → IsSpread n bs
spread n [] h = record { low = omega arith; high = omega arith }
spread n (b ∷ bs) h =
    let s = spread (n * 256 + b) bs h.1 in
    let t = spread_step n b (2 ^ (8 * length bs)) (number_after (n * 256 + b) bs) h.0 s.low s.high in
    let e = eight_more (length bs) in
    record { low = rw e (t.0); high = rw e (t.1) }

-- the bits of one octet that is not 0
record IsTop (b k : ℕ) : Type 0 where
  pub some : 0 < k
  pub enough : b + 1 ≤ 2 ^ k
  pub fewest : 2 ^ (k - 1) ≤ b

top : (b : ℕ) → 0 < b → b < 256 → IsTop b (octet_bits b)
top b h fits =
    elim (cases_lt b 16) [
      | inl a ↦ elim (cases_lt b 2) [
        | inl c ↦ rw (lt-ltb b 16 a, le-ltb b 1 h, lt-ltb b 2 c) (record { some = omega arith; enough = omega arith; fewest = omega arith })
        | inr c ↦ elim (cases_lt b 4) [
          | inl d ↦ rw (lt-ltb b 16 a, le-ltb b 1 h, le-ltb b 2 c, lt-ltb b 4 d) (record { some = omega arith; enough = omega arith; fewest = omega arith })
          | inr d ↦ elim (cases_lt b 8) [
            | inl e ↦ rw (lt-ltb b 16 a, le-ltb b 1 h, le-ltb b 2 c, le-ltb b 4 d, lt-ltb b 8 e) (record { some = omega arith; enough = omega arith; fewest = omega arith })
            | inr e ↦ rw (lt-ltb b 16 a, le-ltb b 1 h, le-ltb b 2 c, le-ltb b 4 d, le-ltb b 8 e) (record { some = omega arith; enough = omega arith; fewest = omega arith })
          ]
        ]
      ]
      | inr a ↦ elim (cases_lt b 32) [
        | inl c ↦ rw (le-ltb b 16 a, lt-ltb b 32 c) (record { some = omega arith; enough = omega arith; fewest = omega arith })
        | inr c ↦ elim (cases_lt b 64) [
          | inl d ↦ rw (le-ltb b 16 a, le-ltb b 32 c, lt-ltb b 64 d) (record { some = omega arith; enough = omega arith; fewest = omega arith })
          | inr d ↦ elim (cases_lt b 128) [
            | inl e ↦ rw (le-ltb b 16 a, le-ltb b 32 c, le-ltb b 64 d, lt-ltb b 128 e) (record { some = omega arith; enough = omega arith; fewest = omega arith })
            | inr e ↦ rw (le-ltb b 16 a, le-ltb b 32 c, le-ltb b 64 d, le-ltb b 128 e) (record { some = omega arith; enough = omega arith; fewest = omega arith })
          ]
        ]
      ]
    ]

-- a number whose first octet is not 0
top_bits : (b l k m : ℕ) → IsTop b k → b * 2 ^ (8 * l) ≤ m → m < (b + 1) * 2 ^ (8 * l) → IsBitLength m (8 * l + k)
top_bits b l k m t low high =
    let p : ℕ = 2 ^ (8 * l) in
    let above : (b + 1) * 2 ^ (8 * l) ≤ 2 ^ k * 2 ^ (8 * l) = mul-le-mul_right (2 ^ (8 * l)) t.enough in
    let below : 2 ^ (k - 1) * 2 ^ (8 * l) ≤ b * 2 ^ (8 * l) = mul-le-mul_right (2 ^ (8 * l)) t.fewest in
    let less : (8 * l + k) - 1 ≡ 8 * l + (k - 1) = omega (arith, t.some) in
    record {
      enough = rw (pow-add 2 (8 * l) k) (omega (arith, above, high));
      fewest = λ h. rw (less, pow-add 2 (8 * l) (k - 1)) (omega (arith, below, low));
    }

pub bits_are : (octets : List ℕ) → AreOctets octets → IsBitLength (number_after 0 octets) (bit_length octets)
bits_are [] h = record { enough = omega arith; fewest = λ k. absurd (omega arith) }
bits_are (b ∷ bs) h =
    elim (cases_lt 0 b) [
      | inl g ↦
          let s = spread b bs h.1 in
          let z : 0 * 256 + b ≡ b = omega arith in
          rw (lt-ltb 0 b g, z) (top_bits b (length bs) (octet_bits b) (number_after b bs) (top b g h.0) s.low s.high)
      | inr g ↦ let z : b ≡ 0 = omega arith in rw z (bits_are bs h.1)
    ]
