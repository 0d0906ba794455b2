-- A flag for each role.
use Rattle.std.specs.Prelude.{◌≡◌, Bool, false, List, slice_index_or}
use Rattle.cmc_objects.specs.declared.role.Role.{Role}
use Rattle.cmc_objects.specs.Roles.{role_rank}
use Rattle.cmc_setup.specs.declared.flags.RoleFlags.{RoleFlags}
use Rattle.cmc_setup.specs.Setups.{is_among}

-- the flag of the role, in a list in the order of roles
unfoldable pub is_on : List Bool → Role → Bool
is_on flags role = slice_index_or flags (role_rank role) false

-- the flag of the role
abbrev pub flag_of : RoleFlags → Role → Bool
flag_of f role = is_on f.flags role

-- the flags tell whether a role is among the roles
pub record Tells (flags : Role → Bool) (roles : List Role) : Type 0 where
  pub each : (role : Role) → flags role ≡ is_among roles role
