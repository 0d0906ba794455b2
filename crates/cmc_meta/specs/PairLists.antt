-- Pairs of texts in order of their keys.
use Rattle.std.specs.Prelude.{ℕ, List, Option}
use Rattle.std.specs.Ordering.{nat_cmp}
use Rattle.std.specs.Cmp.Lexicographic.{slice_cmp}
use Rattle.std.specs.Map.{lookup, remove_entry}
use Rattle.std.specs.BTreeMap.{insert_entry, is_at}

-- the text under the key
abbrev pub text_by_key : List (List ℕ × List ℕ) → List ℕ → Option (List ℕ)
text_by_key pairs key = lookup (is_at (slice_cmp nat_cmp key)) pairs

-- the pairs with this text under the key
abbrev pub with_text : List (List ℕ × List ℕ) → List ℕ → List ℕ → List (List ℕ × List ℕ)
with_text pairs key text = insert_entry (slice_cmp nat_cmp) pairs key text

-- the pairs but that of the key
abbrev pub without_text : List (List ℕ × List ℕ) → List ℕ → List (List ℕ × List ℕ)
without_text pairs key = remove_entry (is_at (slice_cmp nat_cmp key)) pairs
