-- What is kept of the passes that are open.
use Rattle.std.specs.Prelude.{◌≡◌, ℕ, ◌≤◌, ◌&&◌, ◌||◌, Bool, true, false, MatchBool, List, Option, Some, None, if◌then◌else◌}
use Rattle.std.specs.BTreeMap.{is_at}
use Rattle.std.specs.Map.{lookup}
use Rattle.std.specs.Ordering.{is_eq, nat_cmp, ordering_then}
use Rattle.cmc_meta.specs.declared.key.Key.{Key}
use Rattle.cmc_meta.specs.Keys.{key_cmp, key_eq}
use Rattle.cmc_objects.specs.declared.role.Role.{Role}
use Rattle.cmc_objects.specs.Roles.{role_rank}
use Rattle.cmc_model.specs.Histories.{role_eq}
use Rattle.cmc_audit_state.specs.declared.row.Row.{Row}
use Rattle.cmc_audit_state.specs.declared.row.Version.{Version}
use Rattle.cmc_audit_state.specs.Heard.{is_about, has_yes_on}

-- what contracts see of the passes
pub record Opened : Type 0 where
  -- how many began
  pub begun : ℕ
  -- those that are open, in order of number
  pub rows : List (ℕ × Row)

unfoldable pub row_numbered : List (ℕ × Row) → ℕ → Option Row
row_numbered rows n = lookup (is_at (nat_cmp n)) rows

-- the pass of this number, where it is open
abbrev pub open_row_at : Opened → ℕ → Option Row
open_row_at p n = row_numbered p.rows n

-- whether this is a pass of the role on the key
abbrev pub is_row_of : Role → Key → Option Row → Bool
is_row_of role key None = false
is_row_of role key (Some row) = role_eq row.role role && key_eq row.key key

-- the role has an open pass on the key
abbrev pub IsOn : Opened → Role → Key → Type 0
IsOn p role key = (n : ℕ) × (is_row_of role key (open_row_at p n) ≡ true)

abbrev pub unless_role : Role → Option Row → Option Row
unless_role role None = None
unless_role role (Some row) = if role_eq role row.role then None else Some row

-- ---- what changes in one row

abbrev pub with_read : Row → Row
with_read row = record row { read = true }

abbrev pub with_saved : Row → Row
with_saved row = record row { saved = true }

abbrev pub with_asked : Option Version → Row → Row
with_asked asked row = record row { asked = asked }

-- what it asked about may be approved besides
pub record IsToldMore (old new : Row) : Type 0 where
  pub rest : new ≡ record old { yeses = new.yeses }
  pub more : (v : Version) → has_yes_on new.yeses v ≡ (is_about v old.asked || has_yes_on old.yeses v)

abbrev pub IsToldRow : Option Row → Option Row → Type 0
IsToldRow None None = Unit {0}
IsToldRow None (Some new) = ⊥
IsToldRow (Some old) None = ⊥
IsToldRow (Some old) (Some new) = IsToldMore old new

abbrev pub IsToldAt : Bool → Option Row → Option Row → Type 0
IsToldAt own old new = MatchBool own (IsToldRow old new) (new ≡ old)

-- ---- the numbers by role and key

abbrev pub Task : Type 0
Task = ℕ × Key

-- the number of the last pass of the role on the key
unfoldable pub last_number_at : List (Task × ℕ) → Role → Key → Option ℕ
last_number_at numbers role key = lookup (λ q. is_eq (ordering_then (nat_cmp (role_rank role) q.0) (key_cmp key q.1))) numbers

-- each open pass is the last of its role on its key, and has begun
pub record AreFiled (begun : ℕ) (rows : List (ℕ × Row)) (numbers : List (Task × ℕ)) : Type 0 where
  pub last : (n : ℕ) (row : Row) → row_numbered rows n ≡ Some row → last_number_at numbers row.role row.key ≡ Some n
  pub low : (n : ℕ) (row : Row) → row_numbered rows n ≡ Some row → n ≤ begun

-- the same as a closed word
unfoldable pub IsFiled : ℕ → List (ℕ × Row) → List (Task × ℕ) → Type 0
IsFiled begun rows numbers = AreFiled begun rows numbers
