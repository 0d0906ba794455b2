-- Lines of numbers: which of the accepted writes name a key, or left an index.
use Rattle.std.specs.Prelude.{ℕ, ◌==◌, Bool, false, List, [], ◌∷◌, length, nat_le, nat_lt, Option, Some, None, if◌then◌else◌}
use Rattle.std.specs.List.{list_any}
use Rattle.std.specs.Map.{lookup}
use Rattle.cmc_meta.specs.declared.key.Key.{Key}
use Rattle.cmc_meta.specs.Keys.{key_eq}
use Rattle.cmc_objects.specs.declared.object.Object.{Object}
use Rattle.cmc_model.specs.declared.write.Write.{Write}

pub record Lined : Type 0 where
  -- the newest first
  pub numbers : List ℕ
  -- for how many more there is room already
  pub spare : ℕ

-- ---- lines by key

abbrev pub LineTable : Type 0
LineTable = List (Key × Lined)

abbrev pub numbers_of : Option Lined → List ℕ
numbers_of None = []
numbers_of (Some l) = l.numbers

abbrev pub has_spare : Option Lined → Bool
has_spare None = false
has_spare (Some l) = nat_lt 0 l.spare

unfoldable pub numbers_in : LineTable → Key → List ℕ
numbers_in table key = numbers_of (lookup (key_eq key) table)

unfoldable pub has_spare_for : LineTable → Key → Bool
has_spare_for table key = has_spare (lookup (key_eq key) table)

-- ---- the versions of a key

-- the numbers of the writes that name the key, the newest first
unfoldable pub numbers : Key → List Write → List ℕ
numbers key [] = []
numbers key (w ∷ ws) = if key_eq w.key key then length (w ∷ ws) ∷ numbers key ws else numbers key ws

-- the last of them of at most p; 0 where there is none
unfoldable pub last_at : ℕ → List ℕ → ℕ
last_at p [] = 0
last_at p (n ∷ ns) = if nat_le n p then n else last_at p ns

-- what a write left
abbrev pub left_by_write : Option Write → Option Object
left_by_write None = None
left_by_write (Some w) = w.object

-- whether the number is one of these
abbrev pub is_on_line : ℕ → List ℕ → Bool
is_on_line n ns = list_any (λ m. m == n) ns
