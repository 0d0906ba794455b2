-- What a call speaks of, and whether its reply accepts it.
use Rattle.std.specs.Prelude.{Bool, true, false}
use Rattle.cmc_meta.specs.declared.key.Key.{Key}
use Rattle.cmc_objects.specs.declared.call.Call.{Call}
use Rattle.cmc_objects.specs.declared.call.Call.TheVariants.{Create, Update, UpdateStatus, Delete, Get}
use Rattle.cmc_objects.specs.declared.call.Reply.{Reply}
use Rattle.cmc_objects.specs.declared.call.Reply.TheVariants.{Ok, Unchanged, Found, Conflict, NotFound, AlreadyExists, Invalid, Unavailable}
use Rattle.cmc_objects.specs.Objects.{key_of}

-- the key that a call speaks of, where no name is to be generated
abbrev pub key_of_call : Call → Key
key_of_call (Create object generate) = key_of object
key_of_call (Update object named) = key_of object
key_of_call (UpdateStatus object named) = key_of object
key_of_call (Delete key named) = key
key_of_call (Get key) = key

-- a call that is answered Ok is an accepted write
abbrev pub is_accepted : Reply → Bool
is_accepted (Ok version name) = true
is_accepted (Unchanged version) = false
is_accepted (Found object) = false
is_accepted (Conflict named have) = false
is_accepted (NotFound at) = false
is_accepted (AlreadyExists have) = false
is_accepted (Invalid rule) = false
is_accepted (Unavailable number) = false
