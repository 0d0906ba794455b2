use Rattle.std.proofs.Common.{◌≡◌}
use Rattle.cmc_rules.specs.UserWrites as spec
use Rattle.cmc_moves.proofs.user_writes.first_for.Given as goal

-- the first of those that are left is the first of all
abbrev pub invariant-loop-object : goal.invariant-loop-object
invariant-loop-object l = spec.first_for l.certificate l.revision l.object-iterator ≡ spec.first_for l.certificate l.revision l.objects.entries
