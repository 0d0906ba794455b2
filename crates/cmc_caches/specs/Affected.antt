-- Of which keys a role may see something new as it is told of more.
use Rattle.std.specs.Prelude.{◌≡◌, ◌⊎◌, ◌==◌, ◌||◌, ℕ, false, true, Bool, List, [], map, reverse, Option, Some, None, is_some}
use Rattle.std.specs.BTreeMap.{is_at}
use Rattle.std.specs.List.{list_any}
use Rattle.cmc_meta.specs.declared.key.Key.{Key}
use Rattle.cmc_meta.specs.declared.key.Kind.{Kind}
use Rattle.cmc_meta.specs.Keys.{key_cmp}
use Rattle.cmc_objects.specs.declared.certificate.Certificate.{Certificate}
use Rattle.cmc_objects.specs.declared.object.Object.{Object}
use Rattle.cmc_objects.specs.declared.role.Role.{Role}
use Rattle.cmc_objects.specs.Objects.{meta_of}
use Rattle.cmc_model.specs.declared.write.Write.{Write}
use Rattle.cmc_model.specs.Objects.{Objects, object_at}
use Rattle.cmc_model.specs.Writes.{contents, oldest, of_kind, is_known}
use Rattle.cmc_objects.specs.Informers.{looks_at_secret, looks_at_next, looks_at_requests}
use Rattle.cmc_rules.specs.Views.{Caches, certificate_at, target_at, next_of, requests_of, views_in}
use Rattle.cmc_informer.specs.Caches.{has_uid, is_owned_by, is_targeting}

abbrev pub is_among : List Key → Key → Bool
is_among keys key = list_any (is_at (key_cmp key)) keys

-- of a key that is not among these the role sees the same in both
abbrev pub SeesSame : Role → List Key → Caches → Caches → Type 0
SeesSame role keys old new = (key : Key) → is_among keys key ≡ false → views_in role old key ≡ views_in role new key

-- each of these keys is one of the kind, and one of the writes names it
abbrev pub AreNamed : Kind → List Write → List Key → Type 0
AreNamed kind ws keys = (key : Key) → is_among keys key ≡ true → (key.kind ≡ kind) × (is_known key ws ≡ true)

-- ---- what is taken for granted

-- what the first so many writes of the kind leave, where the oldest write stands first
abbrev pub left_by : List Write → Kind → ℕ → Objects
left_by ws kind p = contents (of_kind kind (oldest p (reverse ws)))

-- some first writes of the kind leave these objects
abbrev pub AreLeft : Kind → List Write → Objects → Type 0
AreLeft kind ws objects = (p : ℕ) × (objects ≡ left_by ws kind p)

-- each key under which something stands is one of the kind, and one of the writes names it
abbrev pub ExistUnderNamed : Kind → List Write → Objects → Type 0
ExistUnderNamed kind ws objects = (key : Key) → is_some (object_at objects key) ≡ true → (key.kind ≡ kind) × (is_known key ws ≡ true)

-- no uid stands under two keys
abbrev pub IsEachUidOfOneKey : Objects → Type 0
IsEachUidOfOneKey objects = (uid : ℕ) (j k : Key) → has_uid uid (object_at objects j) ≡ true → has_uid uid (object_at objects k) ≡ true → j ≡ k

-- ---- what differs between the objects of a kind before and after

-- what exists under a key that is not among these is the same
abbrev pub AreSameBut : List Key → Objects → Objects → Type 0
AreSameBut keys m n = (key : Key) → is_among keys key ≡ false → object_at m key ≡ object_at n key

abbrev pub is_uid_among : List ℕ → ℕ → Bool
is_uid_among uids uid = list_any (λ u. u == uid) uids

-- the uids that an object names as its owners
abbrev pub owner_uids_of : Option Object → List ℕ
owner_uids_of None = []
owner_uids_of (Some o) = map (λ owner. owner.uid) (meta_of o).owners

-- the owners of both are added to these uids, and no other
abbrev pub AddsOwners : Option Object → Option Object → List ℕ → List ℕ → Type 0
AddsOwners before after old new = (uid : ℕ) → is_uid_among new uid ≡ (is_uid_among old uid || (is_uid_among (owner_uids_of before) uid || is_uid_among (owner_uids_of after) uid))

-- what exists under the key is the same, or belongs to the uid in neither
abbrev pub IsForeign : ℕ → Objects → Objects → Key → Type 0
IsForeign uid m n key = (object_at m key ≡ object_at n key) ⊎ ((is_owned_by uid (object_at m key) ≡ false) × (is_owned_by uid (object_at n key) ≡ false))

-- what differs belongs, before or after, to none but these uids
abbrev pub AreSameButOf : List ℕ → Objects → Objects → Type 0
AreSameButOf uids m n = (uid : ℕ) → is_uid_among uids uid ≡ false → (key : Key) → IsForeign uid m n key

-- ---- which Certificates are listed

-- no key is lost
abbrev pub KeepsKeys : List Key → List Key → Type 0
KeepsKeys old new = (key : Key) → is_among old key ≡ true → is_among new key ≡ true

-- what is added are keys under which something stands
abbrev pub AddsExisting : Objects → List Key → List Key → Type 0
AddsExisting certificates old new = (key : Key) → is_among new key ≡ true → (is_among old key ≡ true) ⊎ (is_some (object_at certificates key) ≡ true)

-- the keys of all objects that have one of the uids are
abbrev pub AreListedByUid : Objects → List ℕ → List Key → Type 0
AreListedByUid certificates uids keys =
    (uid : ℕ) → is_uid_among uids uid ≡ true → (key : Key) → has_uid uid (object_at certificates key) ≡ true → is_among keys key ≡ true

-- the keys of all Certificates that name one of the Secrets are
abbrev pub AreListedBySecret : Objects → List Key → List Key → Type 0
AreListedBySecret certificates secrets keys =
    (secret : Key) → is_among secrets secret ≡ true → (key : Key) → is_targeting secret.namespace secret.name (object_at certificates key) ≡ true → is_among keys key ≡ true

-- ---- which parts of what is seen stay

-- of each Certificate that is not listed: the Secret that it names, its Secrets with a next private key, and the requests that it owns
abbrev pub SeesSameTarget : Role → Objects → List Key → Objects → Objects → Type 0
SeesSameTarget role certificates keys m n =
    (key : Key) (c : Certificate) → certificate_at certificates key ≡ Some c → is_among keys key ≡ false → looks_at_secret role ≡ true → target_at m c ≡ target_at n c

abbrev pub SeesSameNext : Role → Objects → List Key → Objects → Objects → Type 0
SeesSameNext role certificates keys m n =
    (key : Key) (c : Certificate) → certificate_at certificates key ≡ Some c → is_among keys key ≡ false → looks_at_next role ≡ true → next_of m c ≡ next_of n c

abbrev pub SeesSameRequests : Role → Objects → List Key → Objects → Objects → Type 0
SeesSameRequests role certificates keys m n =
    (key : Key) (c : Certificate) → certificate_at certificates key ≡ Some c → is_among keys key ≡ false → looks_at_requests role ≡ true → requests_of m c ≡ requests_of n c
