use Rattle.std.proofs.Common.{ap, ◌∙◌}
use Rattle.cmc_queue.specs.Rows.{left}
use Rattle.cmc_queue.proofs.Waits.{found_by_put}
use Rattle.cmc_queue.proofs.queue.Queue.leave.Goals as goal

pub invariant_of-self : goal.invariant_of-self
invariant_of-self c =
    let same = c.left.ensures ∙ ap (left) c.in-Some.ensures.row in
    found_by_put _ c.write.new.self c.args.key.now c.left.result c.self.invariant (ap (λ r. r.timed) same) (ap (λ r. r.parked) same) (c.write.ensures.rows c.args.key.now c.in-Some.ensures.at)
