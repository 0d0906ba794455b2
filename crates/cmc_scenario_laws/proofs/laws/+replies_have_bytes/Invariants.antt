use Rattle.std.proofs.Common.{length}
use Rattle.cmc_scenario_laws.proofs.laws.+replies_have_bytes.Given as goal

abbrev pub decreases-replies_have_bytes : goal.decreases-replies_have_bytes
decreases-replies_have_bytes l = length l.rows.now
