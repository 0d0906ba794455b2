-- Names that are generated.
use Rattle.std.specs.Prelude.{◌≡◌, ◌<◌, ◌^◌, List, true, None}
use Rattle.cmc_objects.specs.declared.call.Call.TheVariants.{Create}
use Rattle.cmc_objects.specs.declared.call.Reply.{Reply}
use Rattle.cmc_objects.specs.declared.call.Reply.TheVariants.{Ok, AlreadyExists}
use Rattle.cmc_objects.specs.declared.entry.Entry.{Entry}
use Rattle.cmc_objects.specs.declared.object.Object.{Object}
use Rattle.cmc_model.specs.Generated.{key_named}
use Rattle.cmc_model.specs.Histories.{Setting, state, objects, accepted}
use Rattle.cmc_model.specs.Objects.{Objects, object_at}
use Rattle.cmc_model.specs.Replies.{IsReply}

-- No object exists under the name that the reply gives, and the reply is not that one does.
abbrev pub IsFresh : Objects → Object → Reply → Type 0
IsFresh stored object (Ok version name) = object_at stored (key_named name object) ≡ None
IsFresh stored object (AlreadyExists have) = ⊥
IsFresh stored object other = Unit {0}

-- Each right reply to a create with a generated name is so.
abbrev pub AreNamesFree : Setting → List Entry → Type 0
AreNamesFree s h =
    accepted s h < 2 ^ 64 → (object : Object) (reply : Reply) → IsReply s.faults (state s h) (Create object true) reply → IsFresh (objects s h) object reply
