-- Reading names from the left.
use Rattle.std.specs.Prelude.{ℕ, ◌==◌, cond, List, [], ◌∷◌, Option, Some, None}
use Rattle.std.specs.Str.{bytes_eq}
use Rattle.cmc_x509.specs.declared.oids.TheConstants.{SUBJECT_ALT_NAME, EXTENSION_REQUEST}
use Rattle.cmc_x509.specs.Options.{Value, ◌>>=◌, Maybe, value_at, take_at, end_at, only_at, optional_value_at}
use Rattle.cmc_x509.specs.Lists.{Reader, first_at, any_value}
use Rattle.cmc_x509.specs.Names.{common_of}

-- the contents of the value, where it has this tag
abbrev pub inside : ℕ → Value → Option (List ℕ)
inside tag v = cond (v.0 == tag) (Some v.1) None

unfoldable pub attribute_of : Reader
attribute_of v = do
  body ← inside 48 v
  oid ← take_at 6 body
  text ← value_at oid.1
  end ← end_at text.2
  Some (common_of oid.0 (text.0, text.1))

unfoldable pub rdn_of : Reader
rdn_of v = inside 49 v >>= first_at attribute_of

unfoldable pub distinguished_name_at : List ℕ → Option Maybe
distinguished_name_at bs = do
  body ← take_at 48 bs
  common ← first_at rdn_of body.0
  Some (common, body.1)

abbrev pub true_or_absent : Option (List ℕ) → Option ℕ
true_or_absent None = Some 0
true_or_absent (Some body) = cond (bytes_eq body (255 ∷ [])) (Some 0) None

unfoldable pub general_names_at : List ℕ → Option (List ℕ)
general_names_at bs = do
  names ← only_at 48 bs
  values ← first_at any_value names
  Some names

unfoldable pub extension_value_at : List ℕ → List ℕ → Option (Option (List ℕ))
extension_value_at oid contents = cond (bytes_eq oid SUBJECT_ALT_NAME) (general_names_at contents >>= (λ names. Some (Some names))) (Some None)

unfoldable pub extension_of : Reader
extension_of v = do
  body ← inside 48 v
  oid ← take_at 6 body
  critical ← optional_value_at 1 oid.1
  ok ← true_or_absent critical.0
  contents ← only_at 4 critical.1
  extension_value_at oid.0 contents

unfoldable pub extensions_of : Reader
extensions_of v = inside 48 v >>= first_at extension_of

unfoldable pub request_attribute_of : Reader
request_attribute_of v = do
  body ← inside 48 v
  oid ← take_at 6 body
  set ← only_at 49 oid.1
  cond (bytes_eq oid.0 EXTENSION_REQUEST) (first_at extensions_of set) (Some None)
