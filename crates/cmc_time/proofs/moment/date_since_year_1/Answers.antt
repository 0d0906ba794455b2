use Rattle.std.proofs.Common.{arith}
use Rattle.jiff_core.proofs.SignedLemmas.{signed_casts}
use Rattle.cmc_time.proofs.moment.date_since_year_1.Goals as goal

pub returns : goal.returns
returns c = omega (arith, signed_casts)
