-- What each role remembers of each key.
use Rattle.std.specs.Prelude.{◌≡◌, Bool, true, false, List, [], Option, Some, None, is_some, slice_index_or}
use Rattle.std.specs.Map.{lookup}
use Rattle.cmc_meta.specs.declared.key.Key.{Key}
use Rattle.cmc_meta.specs.Keys.{key_eq}
use Rattle.cmc_objects.specs.declared.role.Role.{Role}
use Rattle.cmc_objects.specs.Roles.{role_rank}
use Rattle.cmc_rules.specs.declared.progress.Past.{Past}
use Rattle.cmc_model.specs.Histories.{role_eq}
use Rattle.cmc_rules.specs.Memory.{no_past}

-- what is kept of one role, under the keys in no order
abbrev pub PastRows : Type 0
PastRows = List (Key × Past)

abbrev pub past_or_new : Option Past → Past
past_or_new None = no_past
past_or_new (Some past) = past

-- what one role remembers of the key
unfoldable pub memory_at : PastRows → Key → Past
memory_at kept key = past_or_new (lookup (key_eq key) kept)

-- whether something is kept of the key, be it that nothing was done on it
unfoldable pub is_noted : PastRows → Key → Bool
is_noted kept key = is_some (lookup (key_eq key) kept)

-- the rows are in the order of roles
unfoldable pub past_at : List PastRows → Role → Key → Past
past_at rows role key = memory_at (slice_index_or rows (role_rank role) []) key

-- whether changes of what the role remembers of the key take no memory
unfoldable pub has_past_row : List PastRows → Role → Key → Bool
has_past_row rows role key = is_noted (slice_index_or rows (role_rank role) []) key

-- no key of one role loses its room
abbrev pub KeepsNoted : PastRows → PastRows → Type 0
KeepsNoted old new = (k : Key) → is_noted old k ≡ true → is_noted new k ≡ true

-- no key of any role loses its room
abbrev pub KeepsReady : List PastRows → List PastRows → Type 0
KeepsReady old new = (r : Role) (k : Key) → has_past_row old r k ≡ true → has_past_row new r k ≡ true

-- no key of another role loses its room
abbrev pub KeepsReadyOfOthers : Role → List PastRows → List PastRows → Type 0
KeepsReadyOfOthers role old new = (r : Role) (k : Key) → role_eq role r ≡ false → has_past_row old r k ≡ true → has_past_row new r k ≡ true
