use Rattle.cmc_waits.proofs.EachNamed.{each_named}
use Rattle.cmc_waits.proofs.SummaryItems.{whole}
use Rattle.cmc_waits.proofs.laws.each_wait_is_named.Goals as goal

pub returns-clause-named : goal.returns-clause-named
returns-clause-named c = each_named

pub returns-clause-whole : goal.returns-clause-whole
returns-clause-whole c = λ s h run rest. whole s h (each_named s h run rest)
