use Rattle.std.proofs.Common.{arith}
use Rattle.jiff_core.proofs.SignedLemmas.{signed_casts}
use Rattle.cmc_time.proofs.moment.seconds_since_year_1.Goals as goal

pub overflow_add-result : goal.overflow_add-result
overflow_add-result c = omega (arith, signed_casts)

pub overflow_cast-result : goal.overflow_cast-result
overflow_cast-result c = omega (arith, signed_casts)

pub returns-clause-value : goal.returns-clause-value
returns-clause-value c = omega (arith, signed_casts)

pub returns-clause-bound : goal.returns-clause-bound
returns-clause-bound c = omega (arith, signed_casts)
