-- Values one after the other (SEQUENCE OF and SET OF), and the first of them that gives something.
use Rattle.std.specs.Prelude.{◌≡◌, ℕ, zero, suc, List, [], ◌∷◌, length, Option, Some, None}
use Rattle.cmc_der.specs.Values.{BeginsWith}
use Rattle.cmc_x509.specs.Options.{Value, ◌>>=◌, value_at}

-- the octets are these values, one after the other
abbrev pub IsValues : List ℕ → List Value → Type 0
IsValues octets [] = octets ≡ []
IsValues octets (v ∷ vs) = (rest : List ℕ) × BeginsWith octets v.0 v.1 rest × IsValues rest vs

-- the octets are values, one after the other
abbrev pub IsValueList : List ℕ → Type 0
IsValueList octets = (vs : List Value) × IsValues octets vs

-- the one, or else the other
abbrev pub or_first : Option (List ℕ) → Option (List ℕ) → Option (List ℕ)
or_first (Some x) y = Some x
or_first None y = y

-- each of the values is of the form R, and found is what the first of them gives that gives something
abbrev pub FirstOf : (Value → Option (List ℕ) → Type 0) → List Value → Option (List ℕ) → Type 0
FirstOf R [] found = found ≡ None
FirstOf R (v ∷ vs) found = (here : Option (List ℕ)) × (later : Option (List ℕ)) × R v here × FirstOf R vs later × (found ≡ or_first here later)

-- the octets are values of the form R, and found is the first that they give
abbrev pub IsListOf : (Value → Option (List ℕ) → Type 0) → List ℕ → Option (List ℕ) → Type 0
IsListOf R octets found = (vs : List Value) × IsValues octets vs × FirstOf R vs found

-- ---- reading it from the left

abbrev pub values_from : ℕ → List ℕ → Option (List Value)
values_from n [] = Some []
values_from zero (b ∷ bs) = None
values_from (suc n) (b ∷ bs) = value_at (b ∷ bs) >>= (λ x. values_from n x.2 >>= (λ vs. Some ((x.0, x.1) ∷ vs)))

unfoldable pub values_at : List ℕ → Option (List Value)
values_at bs = values_from (length bs) bs

-- how one value of a list is read: what it gives, if it has a reading
abbrev pub Reader : Type 0
Reader = Value → Option (Option (List ℕ))

abbrev pub first_read_of : Reader → List Value → Option (Option (List ℕ))
first_read_of f [] = Some None
first_read_of f (v ∷ vs) = f v >>= (λ here. first_read_of f vs >>= (λ later. Some (or_first here later)))

unfoldable pub first_at : Reader → List ℕ → Option (Option (List ℕ))
first_at f bs = values_at bs >>= first_read_of f

-- what was found before comes first
abbrev pub after_found : Option (List ℕ) → Option (Option (List ℕ)) → Option (Option (List ℕ))
after_found found read = read >>= (λ later. Some (or_first found later))

-- a value that gives nothing, whatever it is
abbrev pub any_value : Reader
any_value v = Some None
