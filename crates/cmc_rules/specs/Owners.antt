-- What a role makes for a Certificate: it belongs to the Certificate, and goes when the Certificate goes.
use Rattle.std.specs.Prelude.{ℕ, pos, true, List, [], ◌∷◌}
use Rattle.cmc_meta.specs.declared.key.Kind.TheVariants as kinds
use Rattle.cmc_meta.specs.declared.object_meta.ObjectMeta.{ObjectMeta}
use Rattle.cmc_meta.specs.declared.owners.OwnerRef.{OwnerRef}
use Rattle.cmc_objects.specs.declared.certificate.Certificate.{Certificate}

-- the reference to the Certificate, as the controller of what it owns
unfoldable pub owner_of : Certificate → OwnerRef
owner_of c = record { kind = kinds.Certificate; name = c.meta.name; uid = c.meta.uid; controller = true }

-- Metadata of a new object in the namespace of the Certificate, which alone owns it. The name is the Certificate's: with a dash behind
-- it, it is the prefix of the name that is generated. What the store sets is left at nothing.
unfoldable pub owned_meta : Certificate → List (List ℕ × List ℕ) → List (List ℕ × List ℕ) → ObjectMeta
owned_meta c labels annotations = record {
  namespace = c.meta.namespace;
  name = c.meta.name;
  uid = 0;
  version = 0;
  generation = 0;
  created = pos 0;
  labels = labels;
  annotations = annotations;
  owners = owner_of c ∷ [];
}
