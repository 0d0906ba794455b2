-- How the roles stand: which of them run, how far each was told, what is held back from it, and how much it wrote.
use Rattle.std.specs.Prelude.{Bool, false, List, if◌then◌else◌, slice_index_or}
use Rattle.cmc_meta.specs.declared.key.Kind.{Kind}
use Rattle.cmc_meta.specs.declared.key.Kind.TheVariants.{Certificate, CertificateRequest, Secret}
use Rattle.cmc_objects.specs.declared.role.Role.{Role}
use Rattle.cmc_objects.specs.declared.entry.Positions.{Positions}
use Rattle.cmc_objects.specs.Roles.{role_rank}
use Rattle.cmc_held.specs.declared.role_states.Flags.{Flags}
use Rattle.cmc_held.specs.declared.role_states.RoleState.{RoleState}

abbrev pub no_positions : Positions
no_positions = record { certificates = 0; requests = 0; secrets = 0 }

abbrev pub no_flags : Flags
no_flags = record { certificates = false; requests = false; secrets = false }

-- a role at the beginning: it has begun once, or is stopped
abbrev pub first_role_state : Bool → RoleState
first_role_state running = record { running = running; incarnation = if running then 1 else 0; told = no_positions; held = no_flags; written = no_positions }

-- the rows are in the order of roles
unfoldable pub role_state_of : List RoleState → Role → RoleState
role_state_of rows role = slice_index_or rows (role_rank role) (first_role_state false)

abbrev pub kind_flag_of : Kind → Flags → Bool
kind_flag_of Certificate flags = flags.certificates
kind_flag_of CertificateRequest flags = flags.requests
kind_flag_of Secret flags = flags.secrets

abbrev pub with_flag : Kind → Bool → Flags → Flags
with_flag Certificate held flags = record flags { certificates = held }
with_flag CertificateRequest held flags = record flags { requests = held }
with_flag Secret held flags = record flags { secrets = held }
