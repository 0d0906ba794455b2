-- What a value is, in the Distinguished Encoding Rules (ITU-T X.690).
use Rattle.std.specs.Prelude.{◌≡◌, ℕ, ◌+◌, ◌*◌, ◌%◌, ◌<◌, ◌≤◌, ◌≢◌, List, [], ◌∷◌, ◌++◌, length, take}

-- the number that these octets spell after that number, the highest octet first
abbrev pub number_after : ℕ → List ℕ → ℕ
number_after n [] = n
number_after n (b ∷ bs) = number_after (n * 256 + b) bs

-- Length octets in the shortest form (8.1.3 and 10.1): one octet below 128 in the short form; in the
-- long form a count of one to four octets, and these, of which the first is not 0, for a number
-- that the short form does not hold.
abbrev pub IsLength : List ℕ → ℕ → Type 0
IsLength [] n = ⊥
IsLength (b ∷ []) n = (b < 128) × (n ≡ b)
IsLength (b ∷ c ∷ cs) n = (b ≡ 128 + length (c ∷ cs)) × (length (c ∷ cs) ≤ 4) × (0 < c) × (128 ≤ n) × (n ≡ number_after c cs)

-- The octets are one value: an identifier octet of a low tag number (8.1.2.3), length octets, and as
-- many contents octets.
pub record IsDerValue (whole : List ℕ) (tag : ℕ) (body : List ℕ) : Type 0 where
  pub tag_is_low : tag % 32 ≢ 31
  pub lead : List ℕ
  pub length_is : IsLength lead (length body)
  pub spelled : whole ≡ tag ∷ (lead ++ body)

-- the octets begin with this value, and the rest comes after it
abbrev pub BeginsWith : List ℕ → ℕ → List ℕ → List ℕ → Type 0
BeginsWith octets tag body rest = (whole : List ℕ) × IsDerValue whole tag body × (octets ≡ whole ++ rest)

-- Some value begins with the octets. What completes them may be any numbers: where some do, octets do too.
abbrev pub IsPrefix : List ℕ → Type 0
IsPrefix octets = (more : List ℕ) × (tag : ℕ) × (body : List ℕ) × IsDerValue (octets ++ more) tag body

-- some value begins with the octets, and is longer
abbrev pub IsCutShort : List ℕ → Type 0
IsCutShort octets = (more : List ℕ) × (0 < length more) × (tag : ℕ) × (body : List ℕ) × IsDerValue (octets ++ more) tag body

-- The octets neither begin with a value nor begin one, and the one at the place is the first behind
-- which no value goes on.
pub record IsNotDerAt (octets : List ℕ) (place : ℕ) : Type 0 where
  pub no_value : (tag : ℕ) (body rest : List ℕ) → BeginsWith octets tag body rest → ⊥
  pub within : place < length octets
  pub before : IsPrefix (take place octets)
  pub after : IsPrefix (take (place + 1) octets) → ⊥
