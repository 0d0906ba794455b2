-- The readings of single values. A value of another type fails at the value itself.
use Rattle.std.specs.Prelude.{ℕ, List, [], ◌∷◌, ◌++◌, ◌+◌, ◌^◌, decimal, Bool, if◌then◌else◌, nat_lt, nat_le, length, Ok, Err, Some, None, option_and_then}
use Rattle.std.specs.declared.option.Option.{Option}
use Rattle.std.specs.Ordering.{nat_cmp, match_ordering}
use Rattle.std.specs.Cmp.Lexicographic.{slice_cmp}
use Rattle.std.specs.Str.{bytes_eq}
use Rattle.std.specs.declared.result.Result.{Result}
use Rattle.base64.specs.Engines.{standard}
use Rattle.base64.specs.GeneralPurpose.{decode_of}
use Rattle.base64.specs.declared.decode.DecodeError.{DecodeError}
use Rattle.serde_json.specs.Data.{Data, null, boolean, number, string, array, object, Items, no_items, item, Members, no_members, member}
use Rattle.serde_json.specs.Find.{get, as_bool, as_number, as_str, as_u64, is_float}
use Rattle.cmc_meta.specs.Decimals.{number_in}
use Rattle.cmc_meta.specs.Names.{is_subdomain}
use Rattle.cmc_meta.specs.Wordings.{is_printable_name}
use Rattle.cmc_meta.specs.PairLists.{with_text}
use Rattle.cmc_cursor.specs.Members.{Read, Check, ◌>>=◌, under, Field}

-- The value that was found, if any.
abbrev pub found : {A : Type 0} → Option A → Read A
found None = Err []
found (Some x) = Ok x

abbrev pub text_at : Data → Read (List ℕ)
text_at d = found (as_str d)

-- A text that has to be this one.
abbrev pub word_at : List ℕ → Data → Check
word_at word d = text_at d >>= (λ t. if bytes_eq t word then Ok tt else Err [])

-- A text of at most n bytes.
abbrev pub short_text_at : ℕ → Data → Read (List ℕ)
short_text_at n d = text_at d >>= (λ t. if nat_le (length t) n then Ok t else Err [])

-- What a name in a certificate may be.
abbrev pub printable_at : Data → Read (List ℕ)
printable_at d = text_at d >>= (λ t. if is_printable_name t then Ok t else Err [])

-- A DNS subdomain, as object names and namespaces are.
abbrev pub name_in : List ℕ → Read (List ℕ)
name_in t = if is_subdomain t then Ok t else Err []

abbrev pub name_at : Data → Read (List ℕ)
name_at d = text_at d >>= name_in

-- The number of a decimal text, as resource versions are written: 0 to 2^64 - 1.
abbrev pub decimal_in : List ℕ → Read ℕ
decimal_in t = found (number_in t)

abbrev pub decimal_at : Data → Read ℕ
decimal_at d = text_at d >>= decimal_in

abbrev pub flag_at : Data → Read Bool
flag_at d = found (as_bool d)

-- A whole number of 0 to 2^64 - 1.
abbrev pub count_at : Data → Read ℕ
count_at d = found (option_and_then as_u64 (as_number d))

-- A whole number of 0 to 2^32 - 1.
abbrev pub small_count_at : Data → Read ℕ
small_count_at d = count_at d >>= (λ n. if nat_lt n (2 ^ 32) then Ok n else Err [])

-- The texts of a list whose first item is at place n.
abbrev pub texts_from : ℕ → Items → Read (List (List ℕ))
texts_from n no_items = Ok []
texts_from n (item d ds) = under (decimal n) (text_at d) >>= (λ t. texts_from (n + 1) ds >>= (λ ts. Ok (t ∷ ts)))

abbrev pub texts_at : Data → Read (List (List ℕ))
texts_at (array ds) = texts_from 0 ds
texts_at null = Err []
texts_at (boolean b) = Err []
texts_at (number n) = Err []
texts_at (string s) = Err []
texts_at (object ms) = Err []

abbrev pub decoded : Result (List ℕ) DecodeError → Read (List ℕ)
decoded (Ok bytes) = Ok bytes
decoded (Err e) = Err []

-- Bytes written as standard base64 with padding (RFC 4648), strictly: no other text of them is read.
abbrev pub bytes_at : Data → Read (List ℕ)
bytes_at d = text_at d >>= (λ t. decoded (decode_of standard t))

-- The data with the bytes of each member put under its name, one after another.
abbrev pub parts_with : List (List ℕ × List ℕ) → Members → Read (List (List ℕ × List ℕ))
parts_with parts no_members = Ok parts
parts_with parts (member name d ms) = under name (bytes_at d) >>= (λ bytes. parts_with (with_text parts name bytes) ms)

-- A Secret's data: an object of names to bytes.
abbrev pub parts_at : Data → Read (List (List ℕ × List ℕ))
parts_at (object ms) = parts_with [] ms
parts_at null = Err []
parts_at (boolean b) = Err []
parts_at (number n) = Err []
parts_at (string s) = Err []
parts_at (array ds) = Err []

-- The texts of the members put under their names, one after another.
abbrev pub pairs_with : List (List ℕ × List ℕ) → Members → Read (List (List ℕ × List ℕ))
pairs_with pairs no_members = Ok pairs
pairs_with pairs (member name d ms) = under name (text_at d) >>= (λ text. pairs_with (with_text pairs name text) ms)

-- Labels and annotations: an object of texts under names.
abbrev pub pairs_at : Data → Read (List (List ℕ × List ℕ))
pairs_at (object ms) = pairs_with [] ms
pairs_at null = Err []
pairs_at (boolean b) = Err []
pairs_at (number n) = Err []
pairs_at (string s) = Err []
pairs_at (array ds) = Err []

-- No number in the value is kept as a float: the first that is fails at its own path.
abbrev mutual
  pub floats_at : Data → Check
  floats_at null = Ok tt
  floats_at (boolean b) = Ok tt
  floats_at (number n) = if is_float n then Err [] else Ok tt
  floats_at (string s) = Ok tt
  floats_at (array ds) = floats_from 0 ds
  floats_at (object ms) = floats_in ms

  pub floats_from : ℕ → Items → Check
  floats_from n no_items = Ok tt
  floats_from n (item d ds) = under (decimal n) (floats_at d) >>= (λ _. floats_from (n + 1) ds)

  pub floats_in : Members → Check
  floats_in no_members = Ok tt
  floats_in (member name d ms) = under name (floats_at d) >>= (λ _. floats_in ms)

-- A reading of a list goes on to f after the items in front.
abbrev pub with_front : {A : Type 0} → List A → Read (List A) → Read (List A)
with_front front (Ok xs) = Ok (front ++ xs)
with_front front (Err path) = Err path

-- A member that is not read: it may hold anything but a float.
abbrev pub passes : List ℕ → Option Data → Check
passes name None = Ok tt
passes name (Some d) = under name (floats_at d)

-- The text of a member of a value, if any.
abbrev pub text_member : List ℕ → Data → Option (List ℕ)
text_member name d = option_and_then as_str (get name d)

-- The member of that name, where it stands, and the members after it. The members before it are dropped: each may
-- hold anything but a float.
abbrev pub sought_at : List ℕ → List Field → Read (Option Data × List Field)
sought_at name [] = Ok (None, [])
sought_at name (f ∷ fs) = match_ordering (slice_cmp nat_cmp f.0 name) (under f.0 (floats_at f.1) >>= (λ _. sought_at name fs)) (Ok (Some f.1, fs)) (Ok (None, f ∷ fs))

-- All members are dropped: each may hold anything but a float.
abbrev pub dropped_at : List Field → Check
dropped_at [] = Ok tt
dropped_at (f ∷ fs) = under f.0 (floats_at f.1) >>= (λ _. dropped_at fs)
