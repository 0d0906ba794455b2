use Rattle.cmc_informer.proofs.OneKey.{nothing_counts}
use Rattle.cmc_informer.proofs.marks.Marks.first.Goals as goal

pub returns-in-Nothing : goal.returns-in-Nothing
returns-in-Nothing c = rw (← c.self.view_is, c.in-Nothing.is) nothing_counts
