use Rattle.cmc_world.proofs.Determined.{ends_agree, one_end}
use Rattle.cmc_world.proofs.laws.plain_ends_agree.Goals as goal

pub returns-clause-one : goal.returns-clause-one
returns-clause-one c = ends_agree

pub returns-clause-apart : goal.returns-clause-apart
returns-clause-apart c = one_end
