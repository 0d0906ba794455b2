-- What a call on the objects left and told.
use Rattle.std.specs.Prelude.{◌≡◌, ℕ, Option, Some, None, if◌then◌else◌}
use Rattle.cmc_meta.specs.declared.key.Key.{Key}
use Rattle.cmc_objects.specs.declared.object.Object.{Object}
use Rattle.cmc_objects.specs.declared.call.Reply.TheVariants.{Invalid}
use Rattle.cmc_model.specs.Objects.{Objects}
use Rattle.cmc_model.specs.Replies.{is_accepted, put_at}
use Rattle.cmc_store.specs.declared.calls.Replied.{Replied}

-- an accepted call put this under the key and says so; any other left all as it was
pub record IsPutOrRefused (key : Key) (object : Option Object) (old new : Objects) (answer : Replied) : Type 0 where
  pub after : new ≡ (if is_accepted answer.reply then put_at old key object else old)
  pub key_told : answer.key ≡ (if is_accepted answer.reply then Some key else None)
  pub object_told : answer.object ≡ (if is_accepted answer.reply then object else None)

-- the answer of the least rule that refuses, where one does
abbrev pub refusal_of : Option ℕ → Option Replied
refusal_of None = None
refusal_of (Some rule) = Some (record { reply = Invalid rule; key = None; object = None })
