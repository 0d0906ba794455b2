-- What left an index: under each uid of an owner, and under each Secret, the numbers of writes after which it may no longer lead to their keys.
use Rattle.std.specs.Prelude.{◌≡◌, ◌⊎◌, ◌≤◌, ℕ, ◌&&◌, Bool, false, List, [], ◌∷◌, nat_eq, nat_lt, Option, Some, None}
use Rattle.std.specs.List.{list_any}
use Rattle.std.specs.Map.{lookup}
use Rattle.cmc_meta.specs.declared.key.Key.{Key}
use Rattle.cmc_meta.specs.Keys.{key_eq}
use Rattle.cmc_model.specs.declared.write.Write.{Write}
use Rattle.cmc_model.specs.Writes.{write_at}
use Rattle.cmc_caches.specs.Lines.{Lined, numbers_of}

-- lines by uid, in no order of uids
abbrev pub LeftTable : Type 0
LeftTable = List (ℕ × Lined)

unfoldable pub numbers_under : LeftTable → ℕ → List ℕ
numbers_under table uid = numbers_of (lookup (nat_eq uid) table)

abbrev pub is_write_of : Option Write → Key → Bool
is_write_of None key = false
is_write_of (Some w) key = key_eq w.key key

-- whether one of the numbers above the position is that of a write that names the key
abbrev pub has_left : ℕ → List ℕ → Key → List Write → Bool
has_left p ns key ws = list_any (λ n. nat_lt p n && is_write_of (write_at n ws) key) ns

abbrev pub AreAtMost : ℕ → List ℕ → Type 0
AreAtMost n [] = Unit {0}
AreAtMost n (m ∷ ms) = (m ≤ n) × AreAtMost n ms

-- none is above one before it
abbrev pub AreFalling : List ℕ → Type 0
AreFalling [] = Unit {0}
AreFalling (m ∷ ms) = AreAtMost m ms × AreFalling ms

-- the new numbers are the old ones, with the number before them, once or more or not at all
abbrev pub IsTopped : ℕ → List ℕ → List ℕ → Type 0
IsTopped n old [] = [] ≡ old
IsTopped n old (m ∷ ms) = ((m ∷ ms) ≡ old) ⊎ ((m ≡ n) × IsTopped n old ms)
