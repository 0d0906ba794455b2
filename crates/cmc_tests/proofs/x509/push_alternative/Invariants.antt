use Rattle.std.proofs.Common.{length}
use Rattle.cmc_x509.specs.Lists.{IsValueList}
use Rattle.cmc_tests.proofs.x509.push_alternative.Given as goal

abbrev pub invariant-loop-tag : goal.invariant-loop-tag
invariant-loop-tag l = IsValueList l.rest

abbrev pub decreases-loop-tag : goal.decreases-loop-tag
decreases-loop-tag l = length l.rest
