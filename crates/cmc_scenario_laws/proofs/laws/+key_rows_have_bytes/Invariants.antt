use Rattle.std.proofs.Common.{length}
use Rattle.cmc_scenario_laws.proofs.laws.+key_rows_have_bytes.Given as goal

abbrev pub decreases-key_rows_have_bytes : goal.decreases-key_rows_have_bytes
decreases-key_rows_have_bytes l = length l.rows.now
