use Rattle.std.proofs.Common.{subst}
use Rattle.std.specs.List.{AllByRecursion}
use Rattle.std.proofs.lemmas.List.{take_rest}
use Rattle.base64.specs.GeneralPurpose.{IsBytes}
use Rattle.cmc_scenario_laws.proofs.OneMoreOf.{one_more}
use Rattle.cmc_scenario_laws.proofs.policies.+are_octets.Goals as goal

pub returns-in-len1-up : goal.returns-in-len1-up
returns-in-len1-up t c = one_more IsBytes _ _ c.in-len1-up.len_at_least c.first-item.is c.has_bytes.ensures (subst (AllByRecursion IsBytes) (take_rest c.args.patterns.now 1) c.are_octets.ensures)
