-- A plain store that is asked one call at a time: which reply is right, and what then stands.
use Rattle.std.specs.Prelude.{◌≡◌, ◌≢◌, ◌⊎◌, ℕ, ℤ, ◌+◌, ◌==◌, Bool, true, false, MatchBool, List, Option, Some, None, if◌then◌else◌}
use Rattle.std.specs.List.{list_any}
use Rattle.cmc_meta.specs.declared.key.Key.{Key}
use Rattle.cmc_objects.specs.declared.object.Object.{Object}
use Rattle.cmc_objects.specs.declared.call.Call.{Call}
use Rattle.cmc_objects.specs.declared.call.Call.TheVariants.{Create, Update, UpdateStatus, Delete, Get}
use Rattle.cmc_objects.specs.declared.call.Reply.{Reply}
use Rattle.cmc_objects.specs.declared.call.Reply.TheVariants.{Ok, Unchanged, Found, Conflict, NotFound, AlreadyExists, Invalid, Unavailable}
use Rattle.cmc_objects.specs.Objects.{key_of, name_of, version_of}
pub use Rattle.cmc_objects.specs.Calls.{is_accepted, key_of_call}
use Rattle.cmc_model.specs.Objects.{Objects, no_objects, object_at, with_object, without_object}
use Rattle.cmc_model.specs.Stored.{created, updated, with_status, revised, restated}
use Rattle.cmc_model.specs.Admission.{is_taken, refusing_rule}
use Rattle.cmc_model.specs.Generated.{named, free_named}

-- a store: its objects, the accepted writes so far and the calls so far
pub record State : Type 0 where
  pub objects : Objects
  pub accepted : ℕ
  pub calls : ℕ

abbrev pub empty_store : State
empty_store = record { objects = no_objects; accepted = 0; calls = 0 }

-- ---- which reply is right

-- no rule refuses, or the least one does
abbrev pub IsAdmitted : Option ℕ → Type 0 → Reply → Type 0
IsAdmitted None admitted reply = admitted
IsAdmitted (Some rule) admitted reply = reply ≡ Invalid rule

-- a write that would leave the object as it was writes nothing
abbrev pub IsChange : ℕ → List ℕ → Object → Object → Reply → Type 0
IsChange accepted name old new reply =
    ((new ≡ old) × (reply ≡ Unchanged (version_of old))) ⊎ ((new ≢ old) × (reply ≡ Ok (accepted + 1) name))

abbrev pub IsCreated : ℕ → Bool → Object → Option Object → Reply → Type 0
IsCreated accepted taken object (Some old) reply = reply ≡ AlreadyExists (version_of old)
IsCreated accepted taken object None reply = IsAdmitted (refusing_rule None object false taken) (reply ≡ Ok (accepted + 1) (name_of object)) reply

abbrev pub IsCreatedIn : ℕ → Objects → Object → Reply → Type 0
IsCreatedIn accepted objects object reply = IsCreated accepted (is_taken objects object) object (object_at objects (key_of object)) reply

-- the object that exists has the named version, or there is a conflict
abbrev pub IsAtVersion : ℕ → Object → Type 0 → Reply → Type 0
IsAtVersion named old served reply = MatchBool (named == version_of old) served (reply ≡ Conflict named (version_of old))

abbrev pub IsUpdated : ℕ → Bool → Object → ℕ → Option Object → Reply → Type 0
IsUpdated accepted taken object named None reply = reply ≡ NotFound accepted
IsUpdated accepted taken object named (Some old) reply =
    IsAtVersion named old (IsAdmitted (refusing_rule (Some old) object false taken) (IsChange accepted (name_of object) old (updated old object) reply) reply) reply

abbrev pub IsRestated : ℕ → Object → ℕ → Option Object → Reply → Type 0
IsRestated accepted object named None reply = reply ≡ NotFound accepted
IsRestated accepted object named (Some old) reply =
    IsAtVersion named old (IsAdmitted (refusing_rule (Some old) object true false) (IsChange accepted (name_of object) old (with_status old object) reply) reply) reply

abbrev pub IsDeleted : ℕ → Option ℕ → List ℕ → Option Object → Reply → Type 0
IsDeleted accepted named name None reply = reply ≡ NotFound accepted
IsDeleted accepted None name (Some old) reply = reply ≡ Ok (accepted + 1) name
IsDeleted accepted (Some named) name (Some old) reply = IsAtVersion named old (reply ≡ Ok (accepted + 1) name) reply

abbrev pub IsGot : ℕ → Option Object → Reply → Type 0
IsGot accepted None reply = reply ≡ NotFound accepted
IsGot accepted (Some old) reply = reply ≡ Found old

-- The reply of the objects that exist. A create that wants a generated name is one of the first name that is free.
abbrev pub IsServed : ℕ → Objects → Call → Reply → Type 0
IsServed accepted objects (Create object generate) reply = IsCreatedIn accepted objects (if generate then free_named (accepted + 1) objects object else object) reply
IsServed accepted objects (Update object named) reply = IsUpdated accepted (is_taken objects object) object named (object_at objects (key_of object)) reply
IsServed accepted objects (UpdateStatus object named) reply = IsRestated accepted object named (object_at objects (key_of object)) reply
IsServed accepted objects (Delete key named) reply = IsDeleted accepted named key.name (object_at objects key) reply
IsServed accepted objects (Get key) reply = IsGot accepted (object_at objects key) reply

-- the calls whose numbers stand in faults fail; each other one is answered by the objects
abbrev pub IsReply : List ℕ → State → Call → Reply → Type 0
IsReply faults s call reply =
    MatchBool (list_any (λ n. n == s.calls + 1) faults) (reply ≡ Unavailable (s.calls + 1)) (IsServed s.accepted s.objects call reply)

-- ---- what stands after a call

abbrev pub from_old : (Object → Object) → Option Object → Option Object
from_old change None = None
from_old change (Some old) = Some (change old)

-- what a call that is accepted as this version leaves under its key, where this was there
abbrev pub stored_over : ℕ → ℤ → Option Object → Call → Option Object
stored_over version now old (Create object generate) = Some (created version now object)
stored_over version now old (Update object named) = from_old (λ o. revised version o object) old
stored_over version now old (UpdateStatus object named) = from_old (λ o. restated version o object) old
stored_over version now old (Delete key named) = None
stored_over version now old (Get key) = old

-- and where these objects stood
abbrev pub stored : ℕ → ℤ → Objects → Call → Option Object
stored version now objects call = stored_over version now (object_at objects (key_of_call call)) call

-- the object under the name that the reply has
abbrev pub under_reply : Object → Reply → Object
under_reply object (Ok version name) = named name object
under_reply object other = object

-- the call with the name that its reply has: what a create with a generated name comes to
unfoldable pub settled : Call → Reply → Call
settled (Create object generate) reply = Create (if generate then under_reply object reply else object) false
settled other reply = other

-- the objects with this one under the key, or with none
abbrev pub put_at : Objects → Key → Option Object → Objects
put_at objects key (Some object) = with_object objects key object
put_at objects key None = without_object objects key

-- the store after a call that is answered so at this moment
abbrev pub state_after : ℤ → State → Call → Reply → State
state_after now s call reply =
    record {
      objects = if is_accepted reply then put_at s.objects (key_of_call (settled call reply)) (stored (s.accepted + 1) now s.objects (settled call reply)) else s.objects;
      accepted = if is_accepted reply then s.accepted + 1 else s.accepted;
      calls = s.calls + 1;
    }

-- the key that an accepted write wrote, and what it stored there
abbrev pub key_written : Call → Reply → Option Key
key_written call reply = if is_accepted reply then Some (key_of_call (settled call reply)) else None

abbrev pub object_written : ℤ → State → Call → Reply → Option Object
object_written now s call reply = if is_accepted reply then stored (s.accepted + 1) now s.objects (settled call reply) else None
