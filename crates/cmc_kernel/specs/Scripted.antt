-- What the next step of a script brings about and holds back, by what a world holds.
use Rattle.std.specs.Prelude.{ℕ, ℤ, List, Option, Some, None, option_and_then, slice_get}
use Rattle.cmc_objects.specs.declared.role.Role.{Role}
use Rattle.cmc_objects.specs.declared.entry.Step.{Step}
use Rattle.cmc_rules.specs.declared.effect.Effect.{Effect}
use Rattle.cmc_model.specs.Objects.{Objects}
use Rattle.cmc_rules.specs.UserSteps.{effect_on}
use Rattle.cmc_held.specs.declared.role_states.RoleState.{RoleState}
use Rattle.cmc_kernel.specs.Changes.{scripted_standing}

-- what the step in this place of the script brings about, if there is one
abbrev pub effect_in : Objects → ℕ → ℤ → List Step → ℕ → Option Effect
effect_in objects accepted moment script place = option_and_then (effect_on objects accepted moment) (slice_get script place)

-- what a step, if there is one, makes of how a role stands
abbrev pub role_state_after : Option Step → Role → RoleState → RoleState
role_state_after None r t = t
role_state_after (Some step) r t = scripted_standing step r t
