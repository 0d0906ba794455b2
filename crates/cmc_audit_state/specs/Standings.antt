-- How the roles stand: which of them run, and how far each was told.
use Rattle.std.specs.Prelude.{Bool, false, List, slice_index_or}
use Rattle.cmc_objects.specs.declared.role.Role.{Role}
use Rattle.cmc_objects.specs.declared.entry.Positions.{Positions}
use Rattle.cmc_objects.specs.Roles.{role_rank}
use Rattle.cmc_audit_state.specs.declared.standings.Standing.{Standing}

abbrev pub no_positions : Positions
no_positions = record { certificates = 0; requests = 0; secrets = 0 }

-- a role at the beginning was told of nothing
abbrev pub first_standing : Bool → Standing
first_standing running = record { running = running; told = no_positions }

-- the rows are in the order of roles
unfoldable pub standing_of : List Standing → Role → Standing
standing_of rows role = slice_index_or rows (role_rank role) (first_standing false)
