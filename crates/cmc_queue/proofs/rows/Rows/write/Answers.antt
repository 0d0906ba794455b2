use Rattle.std.proofs.Common.{arith, sym, ◌∙◌}
use Rattle.cmc_queue.specs.Rows.{is_found, is_fresh}
use Rattle.cmc_queue.proofs.Counts.{count_within, some_counted}
use Rattle.cmc_queue.proofs.OneRow.{found_at, rooms_kept, row_written}
use Rattle.cmc_queue.proofs.rows.Rows.write.Goals as goal

pub recount-self-inside-requires-clause-some : goal.recount-self-inside-requires-clause-some
recount-self-inside-requires-clause-some c = λ on.
    let w = c.put_row.ensures.rewritten in
    let some = some_counted is_fresh c.self.inside.map.entries c.args.at (w.key, c.args.was) w.before (sym c.is_fresh.ensures ∙ on) in
    let count = c.self.invariant.fresh in
    omega (arith, some, count)

pub recount-self-inside-requires-clause-few : goal.recount-self-inside-requires-clause-few
recount-self-inside-requires-clause-few c =
    let within = count_within is_fresh c.self.inside.map.entries in
    let count = c.self.invariant.fresh in
    let len = c.len-len.ensures.len in
    let small = c.len-len.ensures.small in
    omega (arith, within, count, len, small)

pub recount-self-inside-requires-2-clause-some : goal.recount-self-inside-requires-2-clause-some
recount-self-inside-requires-2-clause-some c = λ on.
    let w = c.put_row.ensures.rewritten in
    let some = some_counted is_found c.self.inside.map.entries c.args.at (w.key, c.args.was) w.before (sym c.is_something.ensures ∙ on) in
    let count = c.self.invariant.found in
    omega (arith, some, count)

pub recount-self-inside-requires-2-clause-few : goal.recount-self-inside-requires-2-clause-few
recount-self-inside-requires-2-clause-few c =
    let within = count_within is_found c.self.inside.map.entries in
    let count = c.self.invariant.found in
    let len = c.len-len.ensures.len in
    let small = c.len-len.ensures.small in
    omega (arith, within, count, len, small)

pub returns-clause-rows : goal.returns-clause-rows
returns-clause-rows c = rw (← c.self.view_is) (λ key is. row_written c.self.inside.map.entries c.put_row.new.map.entries key c.args.row (c.put_row.ensures.rows key is))

pub returns-clause-room : goal.returns-clause-room
returns-clause-room c =
    let w = c.put_row.ensures.rewritten in
    rw (← c.self.view_is) (rooms_kept c.self.inside.map.entries c.put_row.new.map.entries w.key c.args.row c.args.was (found_at c.self.inside.map.entries c.args.at w.key c.args.was c.len-len.ensures.unique w.before) (c.put_row.ensures.rows w.key w.before))
