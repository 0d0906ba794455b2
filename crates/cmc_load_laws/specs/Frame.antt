-- Of which Certificate an object is, and what one write changes in what is seen of a Certificate.
use Rattle.std.specs.Prelude.{◌≡◌, ◌||◌, ◌++◌, Bool, false, List, [], Option, Some, None, option_and_then, if◌then◌else◌}
use Rattle.std.specs.BTreeMap.{is_at}
use Rattle.std.specs.List.{cons_option}
use Rattle.cmc_meta.specs.declared.key.Key.{Key}
use Rattle.cmc_meta.specs.declared.key.Kind.TheVariants as kinds
use Rattle.cmc_meta.specs.Keys.{key_cmp}
use Rattle.cmc_objects.specs.declared.certificate.Certificate.{Certificate}
use Rattle.cmc_objects.specs.declared.object.Object.{Object}
use Rattle.cmc_objects.specs.declared.role.Role.{Role}
use Rattle.cmc_objects.specs.declared.role.Role.TheVariants.{Issuing}
use Rattle.cmc_objects.specs.Informers.{looks_at_secret, looks_at_next, looks_at_requests}
use Rattle.cmc_model.specs.Objects.{Objects, object_at}
use Rattle.cmc_pass.specs.declared.pass.Views.{Views}
use Rattle.cmc_informer.specs.Caches.{is_owned_by}
use Rattle.cmc_rules.specs.Views.{Caches, certificate_at, certificate_in, secret_in, next_in, owned_in, views_in}

-- each kind as it is in the store
abbrev pub all_of : Objects → Caches
all_of m = record { certificates = m; requests = m; secrets = m }

-- what issuing sees of a Certificate, of which each other role sees a part
abbrev pub seen_of : Objects → Key → Views
seen_of m key = views_in Issuing (all_of m) key

-- the part of it that another role sees
abbrev pub part_for : Role → Views → Views
part_for role seen = record {
  certificate = seen.certificate;
  secret = if looks_at_secret role then seen.secret else None;
  next = if looks_at_next role then seen.next else [];
  requests = if looks_at_requests role then seen.requests else [];
  request = None;
}

-- ---- of which Certificate an object is

-- the key of the Secret that the Certificate names
abbrev pub key_of_target : Certificate → Key
key_of_target c = record { kind = kinds.Secret; namespace = c.meta.namespace; name = c.spec.secret_name }

-- What is under the key is of the Certificate under its own key: the Certificate itself, the Secret that it names, or what it owns.
abbrev pub is_of : Key → Certificate → Key → Option Object → Bool
is_of own c key o = is_at (key_cmp own) key || (is_at (key_cmp (key_of_target c)) key || is_owned_by c.meta.uid o)

-- What a write finds and leaves under its key is of no Certificate under the other key.
pub record IsElsewhere (m : Objects) (key : Key) (new : Option Object) (other : Key) : Type 0 where
  pub apart : is_at (key_cmp other) key ≡ false
  pub before : (c : Certificate) → certificate_at m other ≡ Some c → is_of other c key (object_at m key) ≡ false
  pub after : (c : Certificate) → certificate_at m other ≡ Some c → is_of other c key new ≡ false

-- ---- what one write changes

-- one item comes, goes, or is another, or nothing changes
pub record IsOneChange {A : Type 0} (old new : Option A) (before after : List A) : Type 0 where
  pub first : List A
  pub rest : List A
  pub was : before ≡ first ++ cons_option old rest
  pub is : after ≡ first ++ cons_option new rest

-- the Certificate is another version of the same: what it owns and the Secret that it names are the same
pub record IsSameOwner (c d : Certificate) : Type 0 where
  pub namespace : c.meta.namespace ≡ d.meta.namespace
  pub uid : c.meta.uid ≡ d.meta.uid
  pub secret_name : c.spec.secret_name ≡ d.spec.secret_name

-- Where a write finds the one object under the key and leaves the other, what is seen of the Certificate changes by that object alone.
pub record HasOneChange (own : Key) (c : Certificate) (key : Key) (old new : Option Object) (before after : Views) : Type 0 where
  pub certificate : after.certificate ≡ (if is_at (key_cmp own) key then option_and_then certificate_in new else before.certificate)
  pub secret : after.secret ≡ (if is_at (key_cmp (key_of_target c)) key then option_and_then secret_in new else before.secret)
  pub next : IsOneChange (option_and_then (next_in c) old) (option_and_then (next_in c) new) before.next after.next
  pub requests : IsOneChange (option_and_then (owned_in c) old) (option_and_then (owned_in c) new) before.requests after.requests
  pub request : after.request ≡ before.request

-- neither a next key of the Certificate nor a request that it owns
abbrev pub IsUnowned : Certificate → Option Object → Type 0
IsUnowned c o = (option_and_then (next_in c) o ≡ None) × (option_and_then (owned_in c) o ≡ None)
