-- Generated names: a prefix, and a number in base 27 (Kubernetes API conventions, `generateName`).
use Rattle.std.specs.Prelude.{ℕ, zero, suc, ◌+◌, ◌-◌, ◌/◌, ◌%◌, ◌==◌, ◌&&◌, Bool, if◌then◌else◌, List, [], ◌∷◌, ◌++◌, codes, reverse, take, slice_index, is_some}
use Rattle.cmc_meta.specs.declared.key.Key.{Key}
use Rattle.cmc_meta.specs.declared.object_meta.ObjectMeta.{ObjectMeta}
use Rattle.cmc_objects.specs.declared.object.Object.{Object}
use Rattle.cmc_objects.specs.declared.object.Object.TheVariants.{Cert, Request, Secret}
use Rattle.cmc_objects.specs.Objects.{meta_of, kind_of, name_of}
use Rattle.cmc_model.specs.Objects.{Objects, object_at}

-- ---- the name that a number gives

-- no vowels, and no digits that look like them
abbrev pub digits : List ℕ
digits = codes "bcdfghjklmnpqrstvwxz2456789"

-- the digits of n, the lowest first: at least so many, and at most so many
abbrev pub low_digits : ℕ → ℕ → ℕ → List ℕ
low_digits zero least n = []
low_digits (suc room) least n = if (n == 0) && (least == 0) then [] else slice_index digits (n % 27) ∷ low_digits room (least - 1) (n / 27)

-- at least five digits; 14 hold each number that comes
abbrev pub suffix : ℕ → List ℕ
suffix n = reverse (low_digits 14 5 n)

-- the first 58 bytes of the name and a dash
abbrev pub prefix : List ℕ → List ℕ
prefix name = take 58 (name ++ 45 ∷ [])

unfoldable pub generated_name : List ℕ → ℕ → List ℕ
generated_name name n = prefix name ++ suffix n

-- ---- the first name that is free

abbrev pub renamed : List ℕ → ObjectMeta → ObjectMeta
renamed name m = record m { name = name }

-- the object under another name
unfoldable pub named : List ℕ → Object → Object
named name (Cert c) = Cert (record c { meta = renamed name c.meta })
named name (Request r) = Request (record r { meta = renamed name r.meta })
named name (Secret k) = Secret (record k { meta = renamed name k.meta })

-- the key that it then has
abbrev pub key_named : List ℕ → Object → Key
key_named name object = record { kind = kind_of object; namespace = (meta_of object).namespace; name = name }

abbrev pub has_name : Objects → Object → List ℕ → Bool
has_name objects object name = is_some (object_at objects (key_named name object))

abbrev pub has_number : Objects → Object → ℕ → Bool
has_number objects object n = has_name objects object (generated_name (name_of object) n)

-- the first number from n on that is not taken, of so many
abbrev pub free_from : ℕ → (ℕ → Bool) → ℕ → ℕ
free_from zero taken n = n
free_from (suc room) taken n = if taken n then free_from room taken (n + 1) else n

-- the object under the name of the first number, from the version of the create on, that no other object has
unfoldable pub free_named : ℕ → Objects → Object → Object
free_named version objects object = named (generated_name (name_of object) (free_from version (has_number objects object) version)) object
