-- The keys of owners.
use Rattle.std.specs.Prelude.{ℕ, List}
use Rattle.cmc_meta.specs.declared.key.Key.{Key}
use Rattle.cmc_meta.specs.declared.owners.OwnerRef.{OwnerRef}

-- the key of an owner of an object of this namespace: owners live in the namespace of what they own
abbrev pub owner_key : List ℕ → OwnerRef → Key
owner_key namespace owner = record { kind = owner.kind; namespace = namespace; name = owner.name }
