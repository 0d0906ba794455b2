use Rattle.std.proofs.Common.{◌≡◌, length}
use Rattle.cmc_der.specs.Integers.{trimmed}
use Rattle.cmc_der.proofs.fields.without_zeros.Given as goal

abbrev pub invariant-loop-rest : goal.invariant-loop-rest
invariant-loop-rest l = trimmed l.rest ≡ trimmed l.octets

abbrev pub decreases-loop-rest : goal.decreases-loop-rest
decreases-loop-rest l = length l.rest
