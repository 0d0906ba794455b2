use Rattle.std.proofs.Common.{sym, ◌∙◌}
use Rattle.cmc_time.proofs.DurationLaws.{duration_again}
use Rattle.cmc_time.proofs.duration.read_duration.Goals as goal

pub returns-clause-only : goal.returns-clause-only
returns-clause-only c seconds h = sym c.ok_or.ensures.ok_part ∙ c.duration_seconds.ensures ∙ duration_again _ seconds h
