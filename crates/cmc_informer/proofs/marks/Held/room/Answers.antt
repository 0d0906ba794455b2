use Rattle.std.proofs.Common.{sym, ◌∙◌, refl}
use Rattle.cmc_informer.proofs.OneKey.{nothing_counts, nothing_stands, one_lacks, placed_here}
use Rattle.cmc_informer.proofs.marks.Held.room.Goals as goal

pub returns-in_ok-key-in-Nothing-clause-room : goal.returns-in_ok-key-in-Nothing-clause-room
returns-in_ok-key-in-Nothing-clause-room c = placed_here _ c.args.key.now c.in_ok-key-in-Nothing.ensures

pub returns-in_ok-key-in-Nothing-clause-same : goal.returns-in_ok-key-in-Nothing-clause-same
returns-in_ok-key-in-Nothing-clause-same c = rw c.in-Nothing.is (λ k. one_lacks _ refl k ∙ sym (nothing_counts k))

pub returns-in_ok-key-in-Nothing-clause-keeps : goal.returns-in_ok-key-in-Nothing-clause-keeps
returns-in_ok-key-in-Nothing-clause-keeps c = rw c.in-Nothing.is (λ k has. absurd (nothing_stands k has))

pub returns-else-not-same-clause-room : goal.returns-else-not-same-clause-room
returns-else-not-same-clause-room c = placed_here c.in-One.mark c.args.key.now (c.same.ensures.0 c.if-not-same.false)
