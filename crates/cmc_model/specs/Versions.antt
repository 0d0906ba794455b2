-- The versions of objects: what stood under a key directly after an accepted write.
use Rattle.std.specs.Prelude.{◌≡◌, ◌⊎◌, ℕ, List, [], ◌∷◌, Some}
use Rattle.cmc_meta.specs.declared.key.Key.{Key}
use Rattle.cmc_objects.specs.declared.object.Object.{Object}
use Rattle.cmc_objects.specs.declared.entry.Entry.{Entry}
use Rattle.cmc_objects.specs.Objects.{meta_of}
use Rattle.cmc_model.specs.declared.write.Write.{Write}
use Rattle.cmc_model.specs.Histories.{Setting}
use Rattle.cmc_model.specs.Writes.{writes}

abbrev pub uid_of : Object → ℕ
uid_of object = (meta_of object).uid

-- one of the writes put the object under the key
abbrev pub IsVersion : Key → Object → List Write → Type 0
IsVersion key object [] = ⊥
IsVersion key object (w ∷ ws) = ((w.key ≡ key) × (w.object ≡ Some object)) ⊎ IsVersion key object ws

abbrev pub HasVersion : Setting → List Entry → Key → Object → Type 0
HasVersion s h key object = IsVersion key object (writes s h)
