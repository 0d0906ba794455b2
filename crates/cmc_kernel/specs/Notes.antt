-- What an accepted write leaves in the log, in how roles stand and in what they remember.
use Rattle.std.specs.Prelude.{ℕ, ◌<◌, ◌-◌, ◌^◌, Bool, Option, Some, None, List, ◌∷◌, if◌then◌else◌}
use Rattle.cmc_meta.specs.declared.key.Key.{Key}
use Rattle.cmc_meta.specs.declared.key.Kind.{Kind}
use Rattle.cmc_objects.specs.declared.object.Object.{Object}
use Rattle.cmc_model.specs.declared.write.Write.{Write}
use Rattle.cmc_rules.specs.declared.progress.Past.{Past}
use Rattle.cmc_rules.specs.Memory.{with_own}
use Rattle.cmc_rules.specs.Positions.{position_of}
use Rattle.cmc_held.specs.declared.role_states.RoleState.{RoleState}
use Rattle.cmc_kernel.specs.Changes.{writing}

-- the log with one more write where a key was written
abbrev pub logged : Option Key → Option Object → List Write → List Write
logged None object ws = ws
logged (Some key) object ws = record { key = key; object = object } ∷ ws

-- how a role stands after a write of this kind, if there was one: the writer counts it, and any other stands as it did
abbrev pub own_write_counted : Option Kind → Bool → RoleState → RoleState → RoleState
own_write_counted None own writer other = other
own_write_counted (Some kind) own writer other = if own then writing kind writer else other

-- what is remembered after the write, if there was one, where it is one of the writer's own on the key
abbrev pub noted : Option Kind → ℕ → Bool → Past → Past
noted None version own past = past
noted (Some kind) version own past = if own then with_own kind version past else past

-- one more write of each kind can be counted
abbrev pub CanCount : RoleState → Type 0
CanCount t = (kind : Kind) → position_of kind t.written < 2 ^ 64 - 1
