-- The order of roles.
use Rattle.std.specs.Prelude.{ℕ}
use Rattle.cmc_objects.specs.declared.role.Role.{Role}
use Rattle.cmc_objects.specs.declared.role.Role.TheVariants.{Trigger, KeyManager, RequestManager, Approver, Issuer, Issuing, Readiness, Revision}

-- the place of a role in the order of roles
abbrev pub role_rank : Role → ℕ
role_rank Trigger = 0
role_rank KeyManager = 1
role_rank RequestManager = 2
role_rank Approver = 3
role_rank Issuer = 4
role_rank Issuing = 5
role_rank Readiness = 6
role_rank Revision = 7
