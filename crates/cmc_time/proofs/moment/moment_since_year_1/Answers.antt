use Rattle.std.proofs.Common.{arith}
use Rattle.cmc_time.specs.Moment.{seconds_of}
use Rattle.jiff_core.specs.Date.{epoch_day}
use Rattle.jiff_core.proofs.DateLemmas.{civil}
use Rattle.cmc_time.proofs.Days.{real_date, second_from_parts}
use Rattle.cmc_time.proofs.moment.moment_since_year_1.Goals as goal

pub returns-clause-is_real : goal.returns-clause-is_real
returns-clause-is_real c =
    let date = c.date_since_year_1-date.result in
    record {
      date = real_date _ _ _ _ c.year_of.ensures.value c.year_of.ensures.low (civil date);
      hour = omega arith;
      minute = omega arith;
      second = omega arith;
    }

pub returns-clause-lies_at : goal.returns-clause-lies_at
unfolding seconds_of
returns-clause-lies_at c =
    rw (← c.year_of.ensures.value) (second_from_parts (epoch_day c.date_since_year_1-date.result) c.args.since c.date_since_year_1-date.ensures)
