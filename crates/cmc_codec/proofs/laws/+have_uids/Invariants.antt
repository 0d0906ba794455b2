use Rattle.std.proofs.Common.{length}
use Rattle.cmc_codec.proofs.laws.+have_uids.Given as goal

abbrev pub decreases-have_uids : goal.decreases-have_uids
decreases-have_uids l = length l.owners.now
