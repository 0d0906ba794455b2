-- The board: the accepted writes, and of each kind what they leave with what left its indexes.
use Rattle.std.specs.Prelude.{◌≡◌, ℕ, ◌+◌, ◌≤◌, ◌||◌, Bool, true, false, List, [], length, Option, Some}
use Rattle.std.specs.BTreeMap.{is_at}
use Rattle.std.specs.List.{list_any}
use Rattle.std.specs.List.Sorted.{IsStrictlySortedBy}
use Rattle.cmc_meta.specs.declared.key.Key.{Key}
use Rattle.cmc_meta.specs.declared.key.Kind.{Kind}
use Rattle.cmc_meta.specs.declared.key.Kind.TheVariants.{Certificate, CertificateRequest, Secret}
use Rattle.cmc_meta.specs.Keys.{key_cmp}
use Rattle.cmc_objects.specs.declared.object.Object.{Object}
use Rattle.cmc_model.specs.declared.write.Write.{Write}
use Rattle.cmc_model.specs.Objects.{Objects, no_objects, object_at}
use Rattle.cmc_model.specs.Replies.{put_at}
use Rattle.cmc_model.specs.Versions.{uid_of, IsVersion}
use Rattle.cmc_model.specs.Writes.{contents, of_kind, oldest, write_at}
use Rattle.cmc_informer.specs.Caches.{is_owned_by, is_targeting, secret_key}
use Rattle.cmc_caches.specs.Affected.{KeepsKeys, is_among}
use Rattle.cmc_caches.specs.Lines.{LineTable, is_on_line, numbers, numbers_in}
use Rattle.cmc_caches.specs.Left.{AreAtMost, AreFalling, IsTopped, LeftTable, has_left, numbers_under}

-- the namespace and the name of a Secret
abbrev pub SecretName : Type 0
SecretName = List ℕ × List ℕ

-- whether it is a Certificate that names the Secret
abbrev pub is_of_secret : SecretName → Option Object → Bool
is_of_secret secret o = is_targeting secret.0 secret.1 o

abbrev pub numbers_for : LineTable → SecretName → List ℕ
numbers_for table secret = numbers_in table (secret_key secret.0 secret.1)

-- the keys are in order, and each that the test holds of is one of them
pub record LeadTo (keys : List Key) (P : Key → Bool) : Type 0 where
  pub ordered : IsStrictlySortedBy key_cmp keys
  pub all : (key : Key) → P key ≡ true → list_any (is_at (key_cmp key)) keys ≡ true

-- the keys are in order, and among them are those given and those of the writes of the numbers above the position
pub record IsJoined (now : List Key) (left : List ℕ) (p : ℕ) (ws : List Write) (keys : List Key) : Type 0 where
  pub ordered : IsStrictlySortedBy key_cmp keys
  pub now_kept : KeepsKeys now keys
  pub left_added : (key : Key) → has_left p left key ws ≡ true → is_among keys key ≡ true

-- ---- one kind

pub record Columned : Type 0 where
  -- as the writes that are known leave them
  pub objects : Objects
  pub owners : LeftTable
  pub targets : LineTable

-- What the test found at a position, it finds now, or its key is that of a write after the position that the line has.
pub record LeadsBack {I : Type 0} (kind : Kind) (finds : I → Option Object → Bool) (objects : Objects) (left : I → List ℕ) (n : ℕ) (ws : List Write) : Type 0 where
  pub past : (i : I) (key : Key) (p : ℕ) → p ≤ n → finds i (object_at (contents (of_kind kind (oldest p ws))) key) ≡ true → (finds i (object_at objects key) || has_left p (left i) key ws) ≡ true
  pub falls : (i : I) → AreFalling (left i)
  pub next : (i : I) → AreAtMost (n + 1) (left i)
  pub within : (i : I) → AreAtMost (length ws) (left i)

-- the first n of the writes are known
pub record IsColumn (kind : Kind) (column : Columned) (n : ℕ) (ws : List Write) : Type 0 where
  pub leaves : column.objects ≡ contents (of_kind kind (oldest n ws))
  pub by_owner : LeadsBack kind is_owned_by column.objects (numbers_under column.owners) n ws
  pub by_target : LeadsBack kind is_of_secret column.objects (numbers_for column.targets) n ws

-- where the test found the object before, and not the one after, the line has the number; else it may have it
pub record NotesLeft {I : Type 0} (finds : I → Option Object → Bool) (number : ℕ) (before after : Option Object) (old new : I → List ℕ) : Type 0 where
  pub kept : (i : I) → IsTopped number (old i) (new i)
  pub noted : (i : I) → finds i before ≡ true → finds i after ≡ false → is_on_line number (new i) ≡ true

-- a column as the write of this number changes it
pub record IsColumnAfter (number : ℕ) (w : Write) (old new : Columned) : Type 0 where
  pub objects : new.objects ≡ put_at old.objects w.key w.object
  pub owners : NotesLeft is_owned_by number (object_at old.objects w.key) w.object (numbers_under old.owners) (numbers_under new.owners)
  pub targets : NotesLeft is_of_secret number (object_at old.objects w.key) w.object (numbers_for old.targets) (numbers_for new.targets)

-- a column where memory ran out: what was noted by then does no harm
pub record IsColumnKept (number : ℕ) (old new : Columned) : Type 0 where
  pub objects : new.objects ≡ old.objects
  pub owners : (uid : ℕ) → IsTopped number (numbers_under old.owners uid) (numbers_under new.owners uid)
  pub targets : (secret : SecretName) → IsTopped number (numbers_for old.targets secret) (numbers_for new.targets secret)

abbrev pub IsColumnBy : Bool → ℕ → Write → Columned → Columned → Type 0
IsColumnBy true number w old new = IsColumnAfter number w old new
IsColumnBy false number w old new = new ≡ old

abbrev pub IsColumnFailed : Bool → ℕ → Columned → Columned → Type 0
IsColumnFailed true number old new = IsColumnKept number old new
IsColumnFailed false number old new = new ≡ old

-- nothing is known of it
pub record IsEmptyColumn (column : Columned) : Type 0 where
  pub objects : column.objects ≡ no_objects
  pub owners : (uid : ℕ) → numbers_under column.owners uid ≡ []
  pub targets : (secret : SecretName) → numbers_for column.targets secret ≡ []

-- ---- all kinds

-- the first n of the writes are known
pub record IsBoard (table : LineTable) (certificates requests secrets : Columned) (n : ℕ) (ws : List Write) : Type 0 where
  pub known : n ≤ length ws
  pub lines : (key : Key) → numbers_in table key ≡ numbers key (oldest n ws)
  pub of_certificates : IsColumn Certificate certificates n ws
  pub of_requests : IsColumn CertificateRequest requests n ws
  pub of_secrets : IsColumn Secret secrets n ws

abbrev pub column_of : Kind → Columned → Columned → Columned → Columned
column_of Certificate c r s = c
column_of CertificateRequest c r s = r
column_of Secret c r s = s

-- what the crate itself sees of a board
pub record Boarded : Type 0 where
  -- the accepted writes, the newest first
  pub writes : List Write
  -- for how many more there is room already
  pub spare : ℕ
  -- how many of them its lines and columns have taken in
  pub known : ℕ

-- the objects of the kind that the first p of the writes leave
abbrev pub objects_by : Kind → ℕ → List Write → Objects
objects_by kind p ws = contents (of_kind kind (oldest p ws))

-- a board as one role sees one kind of it
pub record ShownKind : Type 0 where
  pub writes : List Write
  pub kind : Kind
  pub position : ℕ

abbrev pub shown_by : ShownKind → Objects
shown_by s = objects_by s.kind s.position s.writes

-- the uid of an object is the number of a write that names its key
abbrev pub AreBornWhereNumbered : List Write → Type 0
AreBornWhereNumbered ws = (key : Key) (o : Object) → IsVersion key o ws → (w : Write) × (write_at (uid_of o) ws ≡ Some w) × (w.key ≡ key)
