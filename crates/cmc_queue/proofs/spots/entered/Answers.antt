use Rattle.std.proofs.Common.{arith, inl, inr}
use Rattle.cmc_queue.specs.Rows.{qualifies}
use Rattle.cmc_queue.proofs.Counts.{count_within}
use Rattle.cmc_queue.proofs.FirstRows.{spot_entered}
use Rattle.cmc_queue.proofs.spots.entered.Goals as goal
use Rattle.cmc_queue.proofs.spots.entered.Goals.{then-spot-eq0-via-then-spot-eq0, then-spot-eq0-via-else-spot-eq0+then-at-spot}

pub overflow_add-count : goal.overflow_add-count
overflow_add-count c =
    let before = c.requires.before in
    let within = count_within (qualifies c.args.sort) before.0 in
    let count = before.2.count in
    let long = before.1.long in
    let len = c.len-len.ensures.len in
    let small = c.len-len.ensures.small in
    omega (arith, within, count, long, len, small)

pub returns-then-spot-eq0 : goal.returns-then-spot-eq0
returns-then-spot-eq0 c =
    let b = c.requires.before in
    elim c.then-spot-eq0.branch [
      | then-spot-eq0-via-then-spot-eq0 w ↦ spot_entered _ b.0 _ c.args.at c.args.was c.args.row b.1 c.args.spot b.2 c.requires.off c.requires.on (inl w.if-spot-eq0.true)
      | then-spot-eq0-via-else-spot-eq0+then-at-spot w ↦ spot_entered _ b.0 _ c.args.at c.args.was c.args.row b.1 c.args.spot b.2 c.requires.off c.requires.on (inr w.if-at-spot.true)
    ]
