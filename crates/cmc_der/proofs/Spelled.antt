-- What is written is a value.
use Rattle.std.proofs.Common.{ℕ, ◌%◌, ◌^◌, ◌<◌, ◌≢◌, List, ◌++◌, length, refl, arith, inl, inr}
use Rattle.std.proofs.lemmas.Bool.{cases_lt, lt-ltb, le-ltb}
use Rattle.cmc_der.specs.Values.{IsLength, IsDerValue, BeginsWith}
use Rattle.cmc_der.specs.Builders.{length_octets, value}

length_spelled : (n : ℕ) → n < 2 ^ 32 → IsLength (length_octets n) n
unfolding length_octets
length_spelled n fits =
    elim (cases_lt n 128) [
      | inl a ↦ rw (lt-ltb n 128 a) (a, refl)
      | inr a ↦ elim (cases_lt n 256) [
        | inl b ↦ rw (le-ltb n 128 a, lt-ltb n 256 b) (refl, omega arith, omega arith, a, refl)
        | inr b ↦ elim (cases_lt n 65536) [
          | inl c ↦ rw (le-ltb n 128 a, le-ltb n 256 b, lt-ltb n 65536 c) (refl, omega arith, omega arith, a, omega arith)
          | inr c ↦ elim (cases_lt n 16777216) [
            | inl d ↦ rw (le-ltb n 128 a, le-ltb n 256 b, le-ltb n 65536 c, lt-ltb n 16777216 d) (refl, omega arith, omega arith, a, omega arith)
            | inr d ↦ rw (le-ltb n 128 a, le-ltb n 256 b, le-ltb n 65536 c, le-ltb n 16777216 d) (refl, omega arith, omega arith, a, omega arith)
          ]
        ]
      ]
    ]

pub value_spelled : (tag : ℕ) (body : List ℕ) → tag % 32 ≢ 31 → length body < 2 ^ 32 → IsDerValue (value tag body) tag body
unfolding value
value_spelled tag body t fits = record { tag_is_low = t; lead = length_octets (length body); length_is = length_spelled (length body) fits; spelled = refl }

pub value_begins : (tag : ℕ) (body rest : List ℕ) → tag % 32 ≢ 31 → length body < 2 ^ 32 → BeginsWith (value tag body ++ rest) tag body rest
value_begins tag body rest t fits = (value tag body, value_spelled tag body t fits, refl)
