use Rattle.std.proofs.Common.{◌∙◌}
use Rattle.cmc_history.proofs.Counting.{counted_in_order}
use Rattle.cmc_history.proofs.history.History.accepted.Goals as goal

pub returns : goal.returns
returns c = λ s. c.count_written.ensures ∙ counted_in_order s c.as_slice.result.now c.args.self.now.entries c.as_slice.ensures
