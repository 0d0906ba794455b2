-- What exists under one key as the entries of a run are read in order of time, up to a number of accepted writes.
use Rattle.std.specs.Prelude.{ℕ, ℤ, ◌+◌, nat_lt, Bool, false, List, [], ◌∷◌, Option, Some, None, if◌then◌else◌}
use Rattle.cmc_meta.specs.declared.key.Key.{Key}
use Rattle.cmc_meta.specs.Keys.{key_eq}
use Rattle.cmc_objects.specs.declared.object.Object.{Object}
use Rattle.cmc_objects.specs.declared.call.Call.{Call}
use Rattle.cmc_objects.specs.declared.entry.Entry.{Entry}
use Rattle.cmc_objects.specs.declared.entry.Entry.TheVariants.{Call as Called}
use Rattle.cmc_model.specs.Replies.{is_accepted, key_of_call, settled, stored_over}
use Rattle.cmc_model.specs.Histories.{moment_with}
use Rattle.cmc_history.specs.declared.standing.Standing.{Standing}

-- whether the entry is an accepted write
abbrev pub is_written : Entry → Bool
is_written (Called who call reply) = is_accepted reply
is_written other = false

-- the call of an entry that is an accepted write, under the name that its reply has
abbrev pub written_call : Entry → Option Call
written_call (Called who call reply) = if is_accepted reply then Some (settled call reply) else None
written_call other = None

-- what a call, accepted as this version, leaves under this key
abbrev pub written_over : Key → ℕ → ℤ → Option Object → Call → Option Object
written_over key version now old call = if key_eq key (key_of_call call) then stored_over version now old call else old

-- one accepted write more, but no more than so many
abbrev pub count_after : ℕ → ℕ → Option Call → ℕ
count_after position n None = n
count_after position n (Some call) = if nat_lt n position then n + 1 else n

-- the object after an accepted write, if it is among the first so many
abbrev pub object_after : ℕ → Key → Standing → Option Call → Option Object
object_after position key standing None = standing.object
object_after position key standing (Some call) =
    if nat_lt standing.accepted position then written_over key (standing.accepted + 1) standing.moment standing.object call else standing.object

-- one entry more is read
abbrev pub standing_after : ℕ → Key → Standing → Entry → Standing
standing_after position key standing e =
    record {
      moment = moment_with standing.moment e;
      accepted = count_after position standing.accepted (written_call e);
      object = object_after position key standing (written_call e);
    }

-- the entries, the newest first, are read from the moment of the beginning on
abbrev pub replayed : ℤ → ℕ → Key → List Entry → Standing
replayed now position key [] = record { moment = now; accepted = 0; object = None }
replayed now position key (e ∷ h) = standing_after position key (replayed now position key h) e
