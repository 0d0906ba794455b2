use Rattle.std.proofs.Common.{subst}
use Rattle.std.proofs.lemmas.List.{take_rest}
use Rattle.cmc_codec.specs.Laws.{HaveUids}
use Rattle.cmc_codec.proofs.OwnersHaveUids.{one_more}
use Rattle.cmc_codec.proofs.laws.+have_uids.Goals as goal

pub returns-in-len1-up : goal.returns-in-len1-up
returns-in-len1-up t c = one_more _ _ c.in-len1-up.len_at_least c.first-item.is c.has_uid.ensures (subst HaveUids (take_rest c.args.owners.now 1) c.have_uids.ensures)
