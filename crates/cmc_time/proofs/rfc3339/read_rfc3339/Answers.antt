use Rattle.std.proofs.Common.{sym, ◌∙◌}
use Rattle.cmc_time.proofs.Rfc3339Laws.{rfc3339_again}
use Rattle.cmc_time.proofs.rfc3339.read_rfc3339.Goals as goal

pub returns-clause-only : goal.returns-clause-only
returns-clause-only c at h = sym c.ok_or.ensures.ok_part ∙ c.seconds_in.ensures ∙ rfc3339_again _ at h
