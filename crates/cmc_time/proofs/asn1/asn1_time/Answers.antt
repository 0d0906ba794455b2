use Rattle.std.proofs.Common.{sym, ◌∙◌}
use Rattle.cmc_time.proofs.Asn1Laws.{asn1_again}
use Rattle.cmc_time.proofs.asn1.asn1_time.Goals as goal

pub returns-clause-only : goal.returns-clause-only
returns-clause-only c at h = sym c.ok_or.ensures.ok_part ∙ c.asn1_time_at.ensures ∙ asn1_again _ _ at h
