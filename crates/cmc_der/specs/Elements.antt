-- Reading a value from the left: what is found at the front of the octets, or which fault. That this
-- is what the grammar says, proofs/Laws.antt shows.
use Rattle.std.specs.Prelude.{◌≡◌, ℕ, zero, suc, ◌+◌, ◌-◌, ◌*◌, ◌%◌, nat_lt, ◌==◌, ◌||◌, ◌&&◌, cond, List, [], ◌∷◌, length, take, drop, Result, Ok, Err}
use Rattle.std.specs.Borrow.{Bor}
use Rattle.cmc_der.specs.declared.reading.DerFault.{DerFault}
use Rattle.cmc_der.specs.declared.reading.DerFault.TheVariants.{Cut, NotDer}
use Rattle.cmc_der.specs.declared.reading.Tlv.{Tlv}

infixl 10 ◌>>=◌
abbrev pub ◌>>=◌ : {A B : Type 0} → Result A DerFault → (A → Result B DerFault) → Result B DerFault
(Ok x) >>= f = f x
(Err e) >>= f = Err e

-- the answer, seen without where it lies in memory, is what is read
abbrev pub Gives : {X Y : Type 0} → (X → Y) → Result X DerFault → Result Y DerFault → Type 0
Gives view (Ok x) read = read ≡ Ok (view x)
Gives view (Err e) read = read ≡ Err e

-- one octet more of a number
abbrev pub more_at : ℕ → List ℕ → Result (ℕ × List ℕ) DerFault
more_at n [] = Err Cut
more_at n (b ∷ bs) = Ok (n * 256 + b, bs)

-- so many octets more of a number
abbrev pub number_at : ℕ → ℕ → List ℕ → Result (ℕ × List ℕ) DerFault
number_at zero n bs = Ok (n, bs)
number_at (suc k) n bs = more_at n bs >>= (λ x. number_at k x.0 x.1)

-- a length in the long form, after its count of octets
abbrev pub long_at : ℕ → List ℕ → Result (ℕ × List ℕ) DerFault
long_at count [] = Err Cut
long_at count (b ∷ bs) = cond ((b == 0) || ((count == 1) && nat_lt b 128)) (Err (NotDer 2)) (number_at (count - 1) b bs)

-- a length, after the identifier octet
abbrev pub length_at : List ℕ → Result (ℕ × List ℕ) DerFault
length_at [] = Err Cut
length_at (n ∷ bs) = cond (nat_lt n 128) (Ok (n, bs)) (cond ((n == 128) || nat_lt 132 n) (Err (NotDer 1)) (long_at (n - 128) bs))

-- a value without where it lies in memory: its tag, its body, and the octets after it
abbrev pub Found : Type 0
Found = ℕ × List ℕ × List ℕ

abbrev pub tlv_shown : (Tlv × Bor (List ℕ)) → Found
tlv_shown p = (p.0.tag, p.0.body.now, p.1.now)

abbrev pub body_at : ℕ → ℕ × List ℕ → Result Found DerFault
body_at tag p = cond (nat_lt (length p.1) p.0) (Err Cut) (Ok (tag, take p.0 p.1, drop p.0 p.1))

unfoldable pub read_at : List ℕ → Result Found DerFault
read_at [] = Err Cut
read_at (tag ∷ bs) = cond (tag % 32 == 31) (Err (NotDer 0)) (length_at bs >>= body_at tag)
