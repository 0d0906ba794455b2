-- What contracts see of a work queue.
use Rattle.std.specs.Prelude.{◌≡◌, ℕ, ℤ, ◌==◌, Bool, true, false, List, [], ◌∷◌, ◌+◌, Option, Some, None, if◌then◌else◌, int_le, nat_le}
use Rattle.std.specs.List.{list_any}
use Rattle.std.specs.Ordering.{int_cmp, nat_cmp, is_eq, is_lt, ordering_then}
use Rattle.std.specs.declared.cmp.Ordering.{Ordering}
use Rattle.std.specs.declared.cmp.Ordering.TheVariants.{Less}
use Rattle.cmc_meta.specs.declared.key.Key.{Key}
use Rattle.cmc_meta.specs.declared.key.Kind.{Kind}
use Rattle.cmc_meta.specs.declared.key.Kind.TheVariants.{Certificate, CertificateRequest, Secret}
use Rattle.cmc_meta.specs.Keys.{key_cmp, key_eq, kind_rank}
use Rattle.cmc_queue.specs.declared.row.Parked.{Parked}
use Rattle.cmc_queue.specs.declared.row.Row.{Row}
use Rattle.cmc_queue.specs.Rows.{is_found, is_free, is_fresh, is_pending, row_in, has_row}

-- a work queue: the rows of the keys, and the places where keys can wait for moments and for versions of each kind
pub record Work : Type 0 where
  pub rows : List (Key × Row)
  pub moments : List (ℤ × Key)
  pub certificates : List (ℕ × Key)
  pub requests : List (ℕ × Key)
  pub secrets : List (ℕ × Key)

-- the row of the key
abbrev pub row_of : Work → Key → Row
row_of q key = row_in q.rows key

-- the key's row becomes f of what it was, and no other row changes
abbrev pub ChangesRow : (Row → Row) → Key → Work → Work → Type 0
ChangesRow f key old new = (k : Key) → row_of new k ≡ (if key_eq key k then f (row_of old k) else row_of old k)

-- each row becomes f of what it was
abbrev pub ChangesRows : (Row → Row) → Work → Work → Type 0
ChangesRows f old new = (k : Key) → row_of new k ≡ f (row_of old k)

-- the first key, in the order of keys, that the test holds of; none where there is none
abbrev pub FindsFirst : (Key → Bool) → Option Key → Type 0
FindsFirst test None = (k : Key) → test k ≡ false
FindsFirst test (Some key) = (test key ≡ true) × ((k : Key) → key_cmp k key ≡ Less → test k ≡ false)

-- the key can be given
abbrev pub is_offered : Work → Key → Bool
is_offered q key = is_free (row_of q key)

-- the key comes after this one, if there is one
abbrev pub is_above : Option Key → Key → Bool
is_above None key = true
is_above (Some below) key = is_lt (key_cmp below key)

-- ---- room

-- whether the key stands with what it waits for, in the order of that
unfoldable pub has_place_at : {T : Type 0} → (T → T → Ordering) → List (T × Key) → T → Key → Bool
has_place_at cmp places at key = list_any (λ q. is_eq (ordering_then (cmp at q.0) (key_cmp key q.1))) places

-- whether the moment stands with the key
abbrev pub is_timed_with : List (ℤ × Key) → ℤ → Key → Bool
is_timed_with = has_place_at int_cmp

-- whether the version stands with the key
abbrev pub is_listed : List (ℕ × Key) → ℕ → Key → Bool
is_listed = has_place_at nat_cmp

-- the places for versions of the kind
abbrev pub versions_of : Work → Kind → List (ℕ × Key)
versions_of q Certificate = q.certificates
versions_of q CertificateRequest = q.requests
versions_of q Secret = q.secrets

-- the key has a row: it can be added
abbrev pub has_room : Work → Key → Bool
has_room q key = has_row q.rows key

-- the key has a place at the moment: with a row it can be timed at it
abbrev pub has_room_at : Work → ℤ → Key → Bool
has_room_at q at key = is_timed_with q.moments at key

-- the key has a row, in which it stands what a look found there
abbrev pub has_room_to_find : Work → Key → Bool
has_room_to_find q key = has_row q.rows key

-- the key has a place at the version: with a row it can wait for that version of the kind
abbrev pub has_room_for : Work → Kind → ℕ → Key → Bool
has_room_for q kind version key = is_listed (versions_of q kind) version key

-- no row is lost
abbrev pub LosesNoRow : Work → Work → Type 0
LosesNoRow old new = (k : Key) → has_room old k ≡ true → has_room new k ≡ true

-- no place at a moment is lost
abbrev pub KeepsMoments : Work → Work → Type 0
KeepsMoments old new = (at : ℤ) (k : Key) → has_room_at old at k ≡ true → has_room_at new at k ≡ true

-- no place at a version is lost
abbrev pub KeepsVersions : Work → Work → Type 0
KeepsVersions old new = (kind : Kind) (version : ℕ) (k : Key) → has_room_for old kind version k ≡ true → has_room_for new kind version k ≡ true

-- no place at a moment after this one is lost
abbrev pub StayAfter : ℤ → List (ℤ × Key) → List (ℤ × Key) → Type 0
StayAfter now old new = (at : ℤ) (k : Key) → int_le at now ≡ false → is_timed_with old at k ≡ true → is_timed_with new at k ≡ true

-- each place is at a moment after this one
abbrev pub AreAfter : ℤ → List (ℤ × Key) → Type 0
AreAfter now due = (at : ℤ) (k : Key) → is_timed_with due at k ≡ true → int_le at now ≡ false

-- no place at a version above this one is lost
abbrev pub StayAbove : ℕ → List (ℕ × Key) → List (ℕ × Key) → Type 0
StayAbove to old new = (version : ℕ) (k : Key) → nat_le version to ≡ false → is_listed old version k ≡ true → is_listed new version k ≡ true

-- each place is at a version above this one
abbrev pub AreAbove : ℕ → List (ℕ × Key) → Type 0
AreAbove to versions = (version : ℕ) (k : Key) → is_listed versions version k ≡ true → nat_le version to ≡ false

-- no place at a version of another kind is lost
abbrev pub KeepsVersionsOfOthers : Kind → Work → Work → Type 0
KeepsVersionsOfOthers kind old new = (other : Kind) (version : ℕ) (k : Key) → (kind_rank other == kind_rank kind) ≡ false → has_room_for old other version k ≡ true → has_room_for new other version k ≡ true

-- all room stays
pub record KeepsRoom (old new : Work) : Type 0 where
  pub rows : LosesNoRow old new
  pub moments : KeepsMoments old new
  pub versions : KeepsVersions old new

-- ---- what a queue keeps of itself

abbrev pub one_if : Bool → ℕ
one_if true = 1
one_if false = 0

-- of how many keys' rows the test holds
abbrev pub count_of : (Row → Bool) → List (Key × Row) → ℕ
count_of test [] = 0
count_of test ((key, row) ∷ rows) = one_if (test row) + count_of test rows

-- how many keys can be given
abbrev pub free_count : List (Key × Row) → ℕ
free_count = count_of is_free

-- how many of them are to be looked at
abbrev pub fresh_count : List (Key × Row) → ℕ
fresh_count = count_of is_fresh

-- of how many keys a look found that there is something to do
abbrev pub found_count : List (Key × Row) → ℕ
found_count = count_of is_found

-- on how many of them there may be something to do
abbrev pub pending_count : List (Key × Row) → ℕ
pending_count = count_of is_pending

-- each key that is timed stands among the moments
abbrev pub AreTimed : List (Key × Row) → List (ℤ × Key) → Type 0
AreTimed rows due = (key : Key) (at : ℤ) → (row_in rows key).timed ≡ Some at → is_timed_with due at key ≡ true

-- each key that waits for a version of the kind stands among the versions
abbrev pub IsParked : Kind → List (Key × Row) → List (ℕ × Key) → Type 0
IsParked kind rows versions = (key : Key) (p : Parked) → (row_in rows key).parked ≡ Some p → (kind_rank p.kind == kind_rank kind) ≡ true → is_listed versions p.version key ≡ true

-- whatever waits has its place
pub record HasPlaces (q : Work) : Type 0 where
  pub timed : AreTimed q.rows q.moments
  pub certificates : IsParked Certificate q.rows q.certificates
  pub requests : IsParked CertificateRequest q.rows q.requests
  pub secrets : IsParked Secret q.rows q.secrets
