-- What changes of how a role stands.
use Rattle.std.specs.Prelude.{ℕ, ◌+◌, Bool, true, false, if◌then◌else◌}
use Rattle.cmc_meta.specs.declared.key.Kind.{Kind}
use Rattle.cmc_objects.specs.declared.role.Role.{Role}
use Rattle.cmc_objects.specs.declared.entry.Positions.{Positions}
use Rattle.cmc_objects.specs.declared.entry.Step.{Step}
use Rattle.cmc_objects.specs.declared.entry.Step.TheVariants as steps
use Rattle.cmc_model.specs.Histories.{role_eq}
use Rattle.cmc_rules.specs.Positions.{position_of}
use Rattle.cmc_rules.specs.Memory.{with_position}
use Rattle.cmc_held.specs.declared.role_states.RoleState.{RoleState}
use Rattle.cmc_held.specs.RoleStates.{with_flag}

-- a role is told of a kind up to a write
abbrev pub telling : Kind → ℕ → RoleState → RoleState
telling kind to t = record t { told = with_position kind to t.told }

-- a role stops
abbrev pub stopping : RoleState → RoleState
stopping t = record t { running = false }

-- the same position for each kind
abbrev pub each_at : ℕ → Positions
each_at at = record { certificates = at; requests = at; secrets = at }

-- a role starts, told of the first so many writes
abbrev pub starting : ℕ → RoleState → RoleState
starting at t = record t { running = true; incarnation = t.incarnation + 1; told = each_at at }

-- deliveries of a kind are held back from a role, or no longer
abbrev pub keeping : Kind → Bool → RoleState → RoleState
keeping kind on t = record t { held = with_flag kind on t.held }

-- a role wrote an object of the kind
abbrev pub writing : Kind → RoleState → RoleState
writing kind t = record t { written = with_position kind (position_of kind t.written + 1) t.written }

-- what a step makes of how one role stands
abbrev pub scripted_standing : Step → Role → RoleState → RoleState
scripted_standing (steps.Hold role kind) r t = if role_eq role r then keeping kind true t else t
scripted_standing (steps.Release role kind) r t = if role_eq role r then keeping kind false t else t
scripted_standing other r t = t
