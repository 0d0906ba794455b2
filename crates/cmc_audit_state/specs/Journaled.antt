-- The accepted writes by key, by owner and by uid.
use Rattle.std.specs.Prelude.{◌≡◌, ℕ, ◌==◌, ◌&&◌, ◌<◌, Bool, true, false, List, [], ◌∷◌, length, reverse, nat_eq, nat_le, find, Option, Some, None, unwrap_or, if◌then◌else◌}
use Rattle.std.specs.BTreeMap.{is_at}
use Rattle.std.specs.List.{list_any}
use Rattle.std.specs.Map.{lookup}
use Rattle.cmc_meta.specs.declared.key.Key.{Key}
use Rattle.cmc_meta.specs.declared.key.Kind.{Kind}
use Rattle.cmc_meta.specs.declared.owners.OwnerRef.{OwnerRef}
use Rattle.cmc_meta.specs.Keys.{key_cmp, key_eq}
use Rattle.cmc_objects.specs.declared.object.Object.{Object}
use Rattle.cmc_objects.specs.declared.object.Object.TheVariants.{Cert, Request, Secret}
use Rattle.cmc_objects.specs.Requests.{is_denied}
use Rattle.cmc_model.specs.declared.write.Write.{Write}
use Rattle.cmc_model.specs.Objects.{Objects}
use Rattle.cmc_model.specs.Versions.{IsVersion, uid_of}
use Rattle.cmc_model.specs.Writes.{contents, oldest, of_kind}
use Rattle.cmc_rules.specs.Revisions.{stated_revision, revision_of_uid}
use Rattle.cmc_audit_state.specs.declared.indexes.Indexes.{Indexes}

-- the objects of the kind after the first p of the writes
abbrev pub cached : Kind → List Write → ℕ → Objects
cached kind ws p = contents (of_kind kind (oldest p ws))

-- ---- the versions under a key

-- the versions of the writes under the key, the newest first
unfoldable pub versions_under : Key → List Write → List ℕ
versions_under key [] = []
versions_under key (w ∷ ws) = if key_eq w.key key then length (w ∷ ws) ∷ versions_under key ws else versions_under key ws

-- the newest version up to p, and 0 where there is none
abbrev pub latest_in : ℕ → List ℕ → ℕ
latest_in p versions = unwrap_or (find (λ v. nat_le v p) versions) 0

-- what a write left, if there is one
abbrev pub object_left : Option Write → Option Object
object_left None = None
object_left (Some w) = w.object

-- what is kept of them: of each key its versions, the oldest first
unfoldable pub versions_in : List (Key × List ℕ) → Key → List ℕ
versions_in rows key = reverse (unwrap_or (lookup (key_eq key) rows) [])

abbrev pub has_any_version : List ℕ → Bool
has_any_version [] = false
has_any_version (v ∷ vs) = true

-- each is below the one before, and the first below n
abbrev pub FallFrom : ℕ → List ℕ → Type 0
FallFrom n [] = Unit {0}
FallFrom n (v ∷ vs) = (v < n) × FallFrom v vs

-- ---- the keys of requests by their owners

-- one of the owners has the uid
abbrev pub has_owner_uid : ℕ → List OwnerRef → Bool
has_owner_uid uid owners = list_any (λ owner. owner.uid == uid) owners

abbrev pub keys_or_none : Option (List Key) → List Key
keys_or_none None = []
keys_or_none (Some keys) = keys

-- the keys that are kept under the uid, in their order
unfoldable pub keys_under : List (ℕ × List Key) → ℕ → List Key
keys_under owned uid = keys_or_none (lookup (nat_eq uid) owned)

-- the key is one of these
abbrev pub is_key_among : List Key → Key → Bool
is_key_among keys key = list_any (is_at (key_cmp key)) keys

abbrev pub is_kept : List (ℕ × List Key) → ℕ → Key → Bool
is_kept owned uid key = is_key_among (keys_under owned uid) key

-- the object is a request, and one of its owners has the uid
abbrev pub is_request_of : ℕ → Option Object → Bool
is_request_of uid None = false
is_request_of uid (Some (Cert c)) = false
is_request_of uid (Some (Request r)) = has_owner_uid uid r.meta.owners
is_request_of uid (Some (Secret k)) = false

-- ---- revisions and denials by uid

unfoldable pub revision_under_uid : List (ℕ × ℕ) → ℕ → ℕ
revision_under_uid revisions uid = unwrap_or (lookup (nat_eq uid) revisions) 0

-- the revision of a uid, where a write left this
abbrev pub revision_noted : ℕ → Option Object → ℕ → ℕ
revision_noted uid None before = before
revision_noted uid (Some o) before = if uid_of o == uid then unwrap_or (stated_revision o) 0 else before

-- the write left a request of this uid that is denied
abbrev pub denies : ℕ → Option Object → Bool
denies uid None = false
denies uid (Some (Cert c)) = false
denies uid (Some (Request r)) = r.meta.uid == uid && is_denied r
denies uid (Some (Secret k)) = false

abbrev pub is_denied_uid : ℕ → List Write → Bool
is_denied_uid uid ws = list_any (λ w. denies uid w.object) ws

unfoldable pub has_noted_uid : List ℕ → ℕ → Bool
has_noted_uid uids uid = list_any (nat_eq uid) uids

-- ---- all of them

-- The indexes are those of the writes; an owner may lead to more keys.
pub record AreIndexed (ws : List Write) (i : Indexes) : Type 0 where
  pub versions : (key : Key) → versions_in i.versions key ≡ versions_under key ws
  pub owned : (uid : ℕ) (key : Key) (o : Object) → IsVersion key o ws → is_request_of uid (Some o) ≡ true → is_kept i.owned uid key ≡ true
  pub revisions : (uid : ℕ) → revision_under_uid i.revisions uid ≡ revision_of_uid uid ws
  pub denied : (uid : ℕ) → has_noted_uid i.denied uid ≡ is_denied_uid uid ws

-- the same as a closed word
unfoldable pub IsIndexOfWrites : List Write → Indexes → Type 0
IsIndexOfWrites ws i = AreIndexed ws i
