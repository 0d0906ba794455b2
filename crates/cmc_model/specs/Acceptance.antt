-- What an accepted call found under its key.
use Rattle.std.specs.Prelude.{◌≡◌, ◌≢◌, ℕ, true, false, Option, Some, None}
use Rattle.cmc_objects.specs.declared.object.Object.{Object}
use Rattle.cmc_objects.specs.declared.call.Call.{Call}
use Rattle.cmc_objects.specs.declared.call.Call.TheVariants.{Create, Update, UpdateStatus, Delete, Get}
use Rattle.cmc_objects.specs.Objects.{key_of, version_of}
use Rattle.cmc_model.specs.Objects.{Objects, object_at}
use Rattle.cmc_model.specs.Stored.{updated, with_status}
use Rattle.cmc_model.specs.Admission.{is_taken, refusing_rule}

abbrev pub IsNamedVersion : Option ℕ → Object → Type 0
IsNamedVersion None old = Unit {0}
IsNamedVersion (Some named) old = version_of old ≡ named

-- an update found the version that it names, changes the object, and no rule refuses it
pub record IsOnVersion (old new : Object) (named : ℕ) (rule : Option ℕ) : Type 0 where
  pub version : version_of old ≡ named
  pub change : new ≢ old
  pub passed : rule ≡ None

-- a create found nothing under its name, every other write an object, at the version that it names
unfoldable pub IsFounded : Objects → Call → Type 0
IsFounded objects (Create object generate) = (object_at objects (key_of object) ≡ None) × (refusing_rule None object false (is_taken objects object) ≡ None)
IsFounded objects (Update object named) =
    (old : Object) × (object_at objects (key_of object) ≡ Some old)
    × IsOnVersion old (updated old object) named (refusing_rule (Some old) object false (is_taken objects object))
IsFounded objects (UpdateStatus object named) =
    (old : Object) × (object_at objects (key_of object) ≡ Some old) × IsOnVersion old (with_status old object) named (refusing_rule (Some old) object true false)
IsFounded objects (Delete key named) = (old : Object) × (object_at objects key ≡ Some old) × IsNamedVersion named old
IsFounded objects (Get key) = ⊥
