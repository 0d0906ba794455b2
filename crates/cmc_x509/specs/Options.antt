-- Taking values from the front of octets, and the words that the grammar is written in.
use Rattle.std.specs.Prelude.{◌≡◌, ◌≢◌, ℕ, ◌-◌, ◌==◌, cond, List, [], ◌∷◌, length, take, Option, Some, None, Result, Ok, Err}
use Rattle.cmc_der.specs.declared.reading.DerFault.{DerFault}
use Rattle.cmc_der.specs.declared.reading.Tlv.{Tlv}
use Rattle.cmc_der.specs.Values.{IsDerValue, BeginsWith}
use Rattle.cmc_der.specs.Elements.{Found, read_at}
use Rattle.cmc_x509.specs.declared.taking.NotForm.{NotForm}

-- ---- words of the grammar

-- a value without where it lies: its tag and its body
abbrev pub Value : Type 0
Value = ℕ × List ℕ

abbrev pub value_shown : Option Tlv → Option Value
value_shown None = None
value_shown (Some t) = Some (t.tag, t.body.now)

-- the octets are at most one value, and nothing else
abbrev pub IsAtMostOne : List ℕ → Option Value → Type 0
IsAtMostOne octets None = octets ≡ []
IsAtMostOne octets (Some v) = IsDerValue octets v.0 v.1

-- the octets do not begin with this one
abbrev pub BeginsOtherwise : ℕ → List ℕ → Type 0
BeginsOtherwise tag [] = Unit {0}
BeginsOtherwise tag (b ∷ bs) = b ≢ tag

-- the octets begin with a value of this tag, if one is there, and the rest comes after it
abbrev pub BeginsWithOptional : List ℕ → ℕ → Option (List ℕ) → List ℕ → Type 0
BeginsWithOptional octets tag None rest = (rest ≡ octets) × BeginsOtherwise tag octets
BeginsWithOptional octets tag (Some body) rest = BeginsWith octets tag body rest

-- ---- reading it from the left

infixl 10 ◌>>=◌
abbrev pub ◌>>=◌ : {A B : Type 0} → Option A → (A → Option B) → Option B
(Some x) >>= f = f x
None >>= f = None

-- the answer, seen without where it lies in memory, is what is read, and a refusal where nothing is
abbrev pub Gives : {X Y : Type 0} → (X → Y) → Result X NotForm → Option Y → Type 0
Gives view (Ok x) read = read ≡ Some (view x)
Gives view (Err e) read = read ≡ None

-- the same of an answer that is no Result
abbrev pub GivesSome : {X Y : Type 0} → (X → Y) → Option X → Option Y → Type 0
GivesSome view (Some x) read = read ≡ Some (view x)
GivesSome view None read = read ≡ None

abbrev pub value_if_read : Result Found DerFault → Option Found
value_if_read (Ok x) = Some x
value_if_read (Err d) = None

-- the value at the front: its tag, its body and the rest
unfoldable pub value_at : List ℕ → Option Found
value_at bs = value_if_read (read_at bs)

-- what is taken, and the rest
abbrev pub Taken : Type 0
Taken = List ℕ × List ℕ

-- the body of the value at the front, where it has this tag
unfoldable pub take_at : ℕ → List ℕ → Option Taken
take_at tag bs = value_at bs >>= (λ x. cond (x.0 == tag) (Some (x.1, x.2)) None)

-- all octets of the value at the front
unfoldable pub whole_at : List ℕ → Option Taken
whole_at bs = value_at bs >>= (λ x. Some (take (length bs - length x.2) bs, x.2))

-- the end
unfoldable pub end_at : List ℕ → Option ℕ
end_at [] = Some 0
end_at (b ∷ bs) = None

-- the body of the one value that the octets are, where it has this tag
unfoldable pub only_at : ℕ → List ℕ → Option (List ℕ)
only_at tag bs = do
  taken ← take_at tag bs
  end ← end_at taken.1
  Some taken.0

unfoldable pub at_most_one_at : List ℕ → Option (Option Value)
at_most_one_at [] = Some None
at_most_one_at (b ∷ bs) = do
  x ← value_at (b ∷ bs)
  end ← end_at x.2
  Some (Some (x.0, x.1))

abbrev pub Maybe : Type 0
Maybe = Option (List ℕ) × List ℕ

-- the body of the value at the front where one of this tag is there, and the rest
unfoldable pub optional_value_at : ℕ → List ℕ → Option Maybe
optional_value_at tag [] = Some (None, [])
optional_value_at tag (b ∷ bs) = cond (b == tag) (take_at tag (b ∷ bs) >>= (λ taken. Some (Some taken.0, taken.1))) (Some (None, b ∷ bs))
