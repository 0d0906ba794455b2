-- What is written.
use Rattle.std.specs.Prelude.{◌≡◌, ℕ, ◌+◌, ◌/◌, ◌%◌, nat_lt, cond, List, [], ◌∷◌, ◌++◌, length}

-- the length octets of a length below 2 ^ 32, in the shortest form (X.690, 8.1.3 and 10.1)
unfoldable pub length_octets : ℕ → List ℕ
length_octets n =
    cond (nat_lt n 128) (n ∷ [])
    (cond (nat_lt n 256) (129 ∷ n ∷ [])
    (cond (nat_lt n 65536) (130 ∷ n / 256 ∷ n % 256 ∷ [])
    (cond (nat_lt n 16777216) (131 ∷ n / 65536 ∷ n / 256 % 256 ∷ n % 256 ∷ [])
    (132 ∷ n / 16777216 ∷ n / 65536 % 256 ∷ n / 256 % 256 ∷ n % 256 ∷ []))))

-- the octets of the value with this tag and body
unfoldable pub value : ℕ → List ℕ → List ℕ
value tag body = tag ∷ (length_octets (length body) ++ body)

-- a begun value: its tag, and the octets that were before it
abbrev pub Begun : Type 0
Begun = ℕ × List ℕ

-- what a Writer is to its callers: the begun values that are not ended, the innermost first; the octets
-- of the innermost so far, or of the whole where none is begun; and the sum of the calls' shares
pub record Building : Type 0 where
  pub outer : List Begun
  pub octets : List ℕ
  pub len : ℕ

-- a value is begun, and what was there waits before it
abbrev pub value_begun : ℕ → Building → Building
value_begun tag b = record { outer = (tag, b.octets) ∷ b.outer; octets = []; len = b.len + 8 }

abbrev pub closed_with : List Begun → List ℕ → ℕ → Building
closed_with [] body len = record { outer = []; octets = body; len = len }
closed_with (b ∷ bs) body len = record { outer = bs; octets = b.1 ++ value b.0 body; len = len }

-- the innermost begun value ends, and comes after what was before it
abbrev pub value_closed : Building → Building
value_closed b = closed_with b.outer b.octets b.len

-- one value more, for which a call was handed so many octets
abbrev pub value_added : ℕ → List ℕ → ℕ → Building → Building
value_added tag body share b = record { outer = b.outer; octets = b.octets ++ value tag body; len = b.len + share + 8 }

-- the octets that begun values hold, and will need
abbrev pub held_octets : List Begun → ℕ
held_octets [] = 0
held_octets (b ∷ bs) = 8 + length b.1 + held_octets bs

-- the last of the levels ends, and comes after what was before it
abbrev pub Closes : List Begun → List Begun → List ℕ → List ℕ → Type 0
Closes levels after body octets = (b : Begun) × (levels ≡ after ++ b ∷ []) × (octets ≡ b.1 ++ value b.0 body)
