use Rattle.cmc_rules.proofs.Admitted.{versions_meet}
use Rattle.cmc_rules.proofs.laws.versions_meet_rules.Goals as goal

pub returns : goal.returns
returns c = versions_meet
