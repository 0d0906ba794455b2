use Rattle.std.proofs.Common.{length}
use Rattle.cmc_scenario_laws.proofs.policies.+have_octets.Given as goal

abbrev pub decreases-have_octets : goal.decreases-have_octets
decreases-have_octets l = length l.policies.now
