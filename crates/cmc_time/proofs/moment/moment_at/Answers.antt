use Rattle.std.proofs.Common.{arith, sym, ap, ◌∙◌, ◌≡◌}
use Rattle.cmc_time.specs.Moment.{moment_of, seconds_of}
use Rattle.jiff_core.proofs.SignedLemmas.{signed_casts}
use Rattle.cmc_time.proofs.Inverse.{moment_of-seconds_of}
use Rattle.cmc_time.proofs.moment.moment_at.Goals as goal

pub returns-clause-lies_at : goal.returns-clause-lies_at
returns-clause-lies_at c = omega (arith, signed_casts)

pub returns-clause-value : goal.returns-clause-value
returns-clause-value c =
    let m = c.moment_since_year_1 in
    let lies_at : seconds_of m.result ≡ c.args.at = omega (arith, signed_casts) in
    sym (moment_of-seconds_of m.result m.ensures.is_real) ∙ ap moment_of lies_at
