use Rattle.cmc_informer.proofs.OneKey.{one_counts, one_lacks}
use Rattle.cmc_informer.proofs.marks.Mark.first.Goals as goal

pub returns-then-self : goal.returns-then-self
returns-then-self c = one_counts c.args.self.now c.if-self.true

pub returns : goal.returns
returns c = one_lacks c.args.self.now c.if-self.false
