use Rattle.std.proofs.Common.{ap, ◌∙◌}
use Rattle.cmc_queue.specs.declared.row.Found.TheVariants.{Something}
use Rattle.cmc_queue.specs.Rows.{looked}
use Rattle.cmc_queue.proofs.Waits.{found_by_put}
use Rattle.cmc_queue.proofs.queue.Queue.found_something.Goals as goal

pub invariant_of-self : goal.invariant_of-self
invariant_of-self c =
    let same = c.looked.ensures ∙ ap (looked Something) c.in-Some.ensures.row in
    found_by_put _ c.write.new.self c.args.key.now c.looked.result c.self.invariant (ap (λ r. r.timed) same) (ap (λ r. r.parked) same) (c.write.ensures.rows c.args.key.now c.in-Some.ensures.at)
