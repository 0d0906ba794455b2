-- The stored objects: a finite map from keys to objects.
use Rattle.std.specs.Prelude.{Option}
use Rattle.std.specs.FinMap as map
use Rattle.cmc_meta.specs.declared.key.Key.{Key}
use Rattle.cmc_meta.specs.Keys.{key_cmp}
use Rattle.cmc_objects.specs.declared.object.Object.{Object}

abbrev pub Objects : Type 0
Objects = map.FinMap key_cmp Object

abbrev pub no_objects : Objects
no_objects = map.empty

-- the object that stands under the key
abbrev pub object_at : Objects → Key → Option Object
object_at objects key = map.get objects key

-- the objects with this one under the key
abbrev pub with_object : Objects → Key → Object → Objects
with_object objects key object = map.insert objects key object

-- the objects but that of the key
abbrev pub without_object : Objects → Key → Objects
without_object objects key = map.remove objects key
