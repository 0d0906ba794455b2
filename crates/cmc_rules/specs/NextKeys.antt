-- The private key of a Certificate's issuance in progress.
use Rattle.std.specs.Prelude.{ℕ, Bool, false, List, Option, Some, None, find}
use Rattle.std.specs.Str.{bytes_eq}
use Rattle.cmc_objects.specs.declared.key_spec.KeySpec.{KeySpec}
use Rattle.cmc_objects.specs.declared.secret.Secret.{Secret}
use Rattle.cmc_match.specs.Facts.{key_in, fits}

-- the name is this Secret's
abbrev pub is_named : Option (List ℕ) → Secret → Bool
is_named None k = false
is_named (Some name) k = bytes_eq k.meta.name name

-- the Secret of this name
abbrev pub named_key : Option (List ℕ) → List Secret → Option Secret
named_key name next = find (is_named name) next

-- a key file stands, and its key is of the algorithm and the size that are asked for
abbrev pub is_fitting : KeySpec → Option (List ℕ) → Bool
is_fitting spec None = false
is_fitting spec (Some file) = fits spec file

abbrev pub has_fitting_key : KeySpec → Secret → Bool
has_fitting_key spec k = is_fitting spec (key_in k)
