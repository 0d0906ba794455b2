use Rattle.std.proofs.Common.{arith}
use Rattle.std.proofs.lemmas.List.{length-map}
use Rattle.cmc_queue.proofs.RowOrder.{place_behind, place_between}
use Rattle.cmc_queue.proofs.rows.Rows.place_above.Goals as goal

pub returns-in-Ok : goal.returns-in-Ok
returns-in-Ok c =
    let es = c.self.inside.map.entries in
    let long = length-map es (λ e. e.0) in
    let low = c.in-Ok.ensures.bound in
    rw (← c.self.view_is) (place_behind es c.args.key.now c.in-Ok.at c.self.invariant.sorted c.len-len.ensures.unique (omega (arith, low, long)) c.in-Ok.ensures.position)

pub returns-in-Err : goal.returns-in-Err
returns-in-Err c =
    let es = c.self.inside.map.entries in
    let long = length-map es (λ e. e.0) in
    let low = c.in-Err.ensures.bound in
    rw (← c.self.view_is) (place_between es c.args.key.now c.in-Err.at c.self.invariant.sorted (omega (arith, low, long)) c.in-Err.ensures.position)
