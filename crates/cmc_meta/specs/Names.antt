-- The form of names: DNS subdomains of RFC 1123, as Kubernetes asks of object names.
use Rattle.std.specs.Prelude.{◌≡◌, ◌<◌, ℕ, zero, suc, ◌+◌, ◌*◌, List, [], ◌∷◌, ◌++◌, Bool, true, ◌&&◌, ◌||◌, ◌==◌, ◌-◌, nat_le, nat_lt, if◌then◌else◌, length, slice_index}
use Rattle.std.specs.Hash as fed
use Rattle.std.specs.List.{list_all}

-- a lower-case letter or a digit
abbrev pub is_alphanumeric : ℕ → Bool
is_alphanumeric c = (nat_le 97 c && nat_le c 122) || (nat_le 48 c && nat_le c 57)

-- the same, or `-`
abbrev pub is_label_byte : ℕ → Bool
is_label_byte c = is_alphanumeric c || (c == 45)

-- one or more such bytes, with a letter or a digit at both ends
unfoldable pub is_label : List ℕ → Bool
is_label label = nat_lt 0 (length label) && (is_alphanumeric (slice_index label 0) && (is_alphanumeric (slice_index label (length label - 1)) && list_all is_label_byte label))

-- the parts between dots, where the first of them has begun
abbrev pub labels_from : List ℕ → List ℕ → List (List ℕ)
labels_from begun [] = begun ∷ []
labels_from begun (c ∷ cs) = if c == 46 then begun ∷ labels_from [] cs else labels_from (begun ++ c ∷ []) cs

-- each part between dots is a label
abbrev pub has_labels : List ℕ → Bool
has_labels bytes = list_all is_label (labels_from [] bytes)

abbrev pub is_subdomain : List ℕ → Bool
is_subdomain bytes = nat_le (length bytes) 253 && has_labels bytes

-- ---- the number by which names are told apart before their texts are

-- the first n bytes as a number, the first one counting most; 0 for each that is not there
abbrev pub leading : ℕ → List ℕ → ℕ
leading zero bytes = 0
leading (suc n) bytes = leading n bytes * 256 + slice_index bytes n

-- a name's text, and its first eight bytes as a number
pub record IsNamed (number : ℕ) (text : List ℕ) : Type 0 where
  pub form : is_subdomain text ≡ true
  pub bytes : (i : ℕ) → slice_index text i < 256
  pub number_is : number ≡ leading 8 text

-- what the type of names keeps; closed, since each value that a crate above lets go has it
unfoldable pub IsName : ℕ → List ℕ → Type 0
IsName number text = IsNamed number text

-- both texts are of one length, and so short that the number has all of their bytes
abbrev pub are_short : List ℕ → List ℕ → Bool
are_short xs ys = nat_le (length xs) 8 && (length xs == length ys)

-- what a name is hashed by: the number alone where it has all of the text's bytes
abbrev pub hashed : List ℕ → fed.HashWrites
hashed text = if nat_le (length text) 8 then fed.u64 (leading 8 text) else fed.str text
