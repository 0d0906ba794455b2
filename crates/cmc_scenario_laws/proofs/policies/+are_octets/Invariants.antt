use Rattle.std.proofs.Common.{length}
use Rattle.cmc_scenario_laws.proofs.policies.+are_octets.Given as goal

abbrev pub decreases-are_octets : goal.decreases-are_octets
decreases-are_octets l = length l.patterns.now
