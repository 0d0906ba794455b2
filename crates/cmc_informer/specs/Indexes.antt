-- What contracts see of the indexes: from uids to keys, and from Secrets to keys.
use Rattle.std.specs.Prelude.{◌≡◌, ℕ, Bool, true, false, List, [], ◌∷◌, Option, Some, None, is_some, nat_eq, if◌then◌else◌}
use Rattle.std.specs.BTreeMap.{is_at}
use Rattle.std.specs.List.{list_any}
use Rattle.std.specs.List.Sorted.{IsStrictlySortedBy}
use Rattle.std.specs.Map.{lookup}
use Rattle.cmc_meta.specs.declared.key.Key.{Key}
use Rattle.cmc_meta.specs.Keys.{key_cmp, key_eq}

-- keys, in order, each with whether it counts; one that does not is room alone
abbrev pub Marked : Type 0
Marked = List (Key × Bool)

abbrev pub is_marked_key : Option Bool → Bool
is_marked_key None = false
is_marked_key (Some on) = on

unfoldable pub mark_in : Marked → Key → Bool
mark_in marks key = is_marked_key (lookup (is_at (key_cmp key)) marks)

unfoldable pub has_place : Marked → Key → Bool
has_place marks key = is_some (lookup (is_at (key_cmp key)) marks)

-- the keys that count, in their order
abbrev pub on_keys : Marked → List Key
on_keys [] = []
on_keys (e ∷ es) = if e.1 then e.0 ∷ on_keys es else on_keys es

-- the keys by uid, in no order of uids
abbrev pub Index : Type 0
Index = List (ℕ × Marked)

abbrev pub mark_of : Option Marked → Key → Bool
mark_of None key = false
mark_of (Some marks) key = mark_in marks key

abbrev pub place_of : Option Marked → Key → Bool
place_of None key = false
place_of (Some marks) key = has_place marks key

-- whether the key stands under the uid, and whether it can without memory
unfoldable pub is_key_under : Index → ℕ → Key → Bool
is_key_under index uid key = mark_of (lookup (nat_eq uid) index) key

unfoldable pub has_room : Index → ℕ → Key → Bool
has_room index uid key = place_of (lookup (nat_eq uid) index) key

-- no room is lost
abbrev pub KeepsRooms : Index → Index → Type 0
KeepsRooms old new = (uid : ℕ) (key : Key) → has_room old uid key ≡ true → has_room new uid key ≡ true

-- the keys by the key of a Secret, in no order of Secrets
abbrev pub Targeted : Type 0
Targeted = List (Key × Marked)

-- whether the Secret leads to the key
unfoldable pub points : Targeted → Key → Key → Bool
points index secret key = mark_of (lookup (key_eq secret) index) key

-- where a Secret led, it leads still
abbrev pub KeepsPoints : Targeted → Targeted → Type 0
KeepsPoints old new = (secret key : Key) → points old secret key ≡ true → points new secret key ≡ true

-- the keys are these, in order
pub record AreKeys (keys : List Key) (P : Key → Bool) : Type 0 where
  pub ordered : IsStrictlySortedBy key_cmp keys
  pub exact : (key : Key) → list_any (is_at (key_cmp key)) keys ≡ P key

-- the key that is found is one of these; where none is found, there is none
abbrev pub Finds : (Key → Bool) → Option Key → Type 0
Finds P None = (key : Key) → P key ≡ false
Finds P (Some key) = P key ≡ true
