-- What the objects of a load are like: each belongs to one Certificate.
use Rattle.std.specs.Prelude.{◌≡◌, ◌≤◌, ◌⊎◌, true, [], length, Option, Some, None}
use Rattle.cmc_meta.specs.declared.key.Key.{Key}
use Rattle.cmc_objects.specs.declared.certificate.Certificate.{Certificate}
use Rattle.cmc_objects.specs.declared.object.Object.{Object}
use Rattle.cmc_objects.specs.declared.object.Object.TheVariants.{Cert, Request, Secret}
use Rattle.cmc_objects.specs.Objects.{key_of, meta_of}
use Rattle.cmc_model.specs.Objects.{Objects, object_at}
use Rattle.cmc_rules.specs.Admitted.{HaveOwnSecrets}
use Rattle.cmc_rules.specs.Views.{certificate_at}
use Rattle.cmc_caches.specs.Affected.{IsEachUidOfOneKey}
use Rattle.cmc_load_laws.specs.Frame.{is_of, key_of_target}

-- a Certificate has no owner, and any other object one at most
abbrev pub HasFewOwners : Object → Type 0
HasFewOwners (Cert c) = c.meta.owners ≡ []
HasFewOwners (Request r) = length r.meta.owners ≤ 1
HasFewOwners (Secret s) = length s.meta.owners ≤ 1

-- Objects are under their own keys, no two have one uid, no two Certificates name one Secret, each has few owners, and a Secret that
-- a Certificate names has none.
pub record IsParted (m : Objects) : Type 0 where
  pub keyed : (q : Key) (o : Object) → object_at m q ≡ Some o → key_of o ≡ q
  pub uids : IsEachUidOfOneKey m
  pub secrets : HaveOwnSecrets m
  pub owners : (q : Key) (o : Object) → object_at m q ≡ Some o → HasFewOwners o
  pub targets : (q : Key) (c : Certificate) (o : Object) → object_at m q ≡ Some (Cert c) → object_at m (key_of_target c) ≡ Some o → (meta_of o).owners ≡ []

-- there is nothing, or it is of the Certificate
abbrev pub IsOfOrNone : Key → Certificate → Key → Option Object → Type 0
IsOfOrNone own c key o = (o ≡ None) ⊎ (is_of own c key o ≡ true)

-- A write for the Certificate under the key `own`, which stays one: it finds and leaves nothing but what is of it, and not both times nothing.
pub record IsWriteFor (own key : Key) (m : Objects) (new : Option Object) (n : Objects) : Type 0 where
  pub before : Certificate
  pub after : Certificate
  pub was : certificate_at m own ≡ Some before
  pub is : certificate_at n own ≡ Some after
  pub finds : IsOfOrNone own before key (object_at m key)
  pub leaves : IsOfOrNone own after key new
  pub writes : object_at m key ≡ None → new ≡ None → ⊥
