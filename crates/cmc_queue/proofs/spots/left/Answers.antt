use Rattle.std.proofs.Common.{arith, ◌-◌}
use Rattle.std.proofs.lemmas.Option.{slice_get_within}
use Rattle.cmc_queue.specs.Rows.{qualifies}
use Rattle.cmc_queue.proofs.Counts.{some_counted}
use Rattle.cmc_queue.proofs.FirstRows.{spot_left_first}
use Rattle.cmc_queue.proofs.spots.left.Goals as goal

pub overflow_sub-count : goal.overflow_sub-count
overflow_sub-count c =
    let b = c.requires.before in
    let some = some_counted (qualifies c.args.sort) b.0 c.args.at (b.1.key, c.args.was) b.1.before c.requires.on in
    let count = b.2.count in
    omega (arith, some, count)

pub overflow_add-at : goal.overflow_add-at
overflow_add-at c =
    let b = c.requires.before in
    let within = slice_get_within c.args.map.now.entries c.args.at (b.1.key, c.args.row) b.1.after in
    let len = c.len-len.ensures.len in
    let small = c.len-len.ensures.small in
    omega (arith, within, len, small)

pub returns-then-at-spot : goal.returns-then-at-spot
returns-then-at-spot c =
    let b = c.requires.before in
    let some = some_counted (qualifies c.args.sort) b.0 c.args.at (b.1.key, c.args.was) b.1.before c.requires.on in
    let count = b.2.count in
    spot_left_first _ b.0 _ c.args.at c.args.was c.args.row b.1 c.args.spot (c.args.spot.count - 1) c.place_from.result b.2 c.requires.on c.requires.off (omega (arith, some, count)) c.if-at-spot.true c.place_from.ensures
