use Rattle.std.proofs.Common.{subst}
use Rattle.std.specs.List.{AllByRecursion}
use Rattle.std.proofs.lemmas.List.{take_rest}
use Rattle.cmc_scenario_laws.specs.Policies.{HasAddressOctets}
use Rattle.cmc_scenario_laws.proofs.OneMoreOf.{one_more}
use Rattle.cmc_scenario_laws.proofs.policies.+have_octets.Goals as goal

pub returns-in-len1-up : goal.returns-in-len1-up
returns-in-len1-up t c = one_more HasAddressOctets _ _ c.in-len1-up.len_at_least c.first-item.is c.has_octets.ensures (subst (AllByRecursion HasAddressOctets) (take_rest c.args.policies.now 1) c.have_octets.ensures)
