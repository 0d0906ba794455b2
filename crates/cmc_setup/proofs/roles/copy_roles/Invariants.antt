use Rattle.std.proofs.Common.{◌≡◌, take}
use Rattle.cmc_setup.proofs.roles.copy_roles.Given as goal

abbrev pub invariant-loop-role : goal.invariant-loop-role
invariant-loop-role l = l.items.items ≡ take l.role-index l.roles
