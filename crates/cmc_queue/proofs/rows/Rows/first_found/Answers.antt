use Rattle.std.proofs.Common.{refl, sym}
use Rattle.cmc_queue.specs.Rows.{is_found}
use Rattle.cmc_queue.proofs.OneRow.{found_at, row_found}
use Rattle.cmc_queue.proofs.RowOrder.{finds_none, none_past}
use Rattle.cmc_queue.proofs.rows.Rows.first_found.Goals as goal

pub returns-in-Some-clause-at : goal.returns-in-Some-clause-at
returns-in-Some-clause-at c = (c.in-Some._key.now, rw (← c.self.view_is) (sym c.in-Some.ensures.entry))

pub returns-in-Some-clause-found : goal.returns-in-Some-clause-found
returns-in-Some-clause-found c = c.place_from-at.ensures.here (c.in-Some._key.now, c.in-Some.row.now) (sym c.in-Some.ensures.entry)

pub returns-in-None-clause-none : goal.returns-in-None-clause-none
returns-in-None-clause-none c =
    let es = c.self.inside.map.entries in
    rw (← c.self.view_is) (finds_none is_found es refl (none_past is_found es c.place_from-at.result c.place_from-at.ensures (sym c.in-None.ensures.entry)))

pub returns-in-Some-clause-row : goal.returns-in-Some-clause-row
returns-in-Some-clause-row c = rw (← c.self.view_is) (λ key is. sym (row_found c.self.inside.map.entries key c.in-Some.row.now (found_at c.self.inside.map.entries c.place_from-at.result key c.in-Some.row.now c.len-len.ensures.unique is)))
