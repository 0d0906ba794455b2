use Rattle.std.proofs.Common.{refl, sym, subst, Option}
use Rattle.cmc_meta.specs.declared.key.Key.{Key}
use Rattle.cmc_queue.specs.Queues.{FindsFirst}
use Rattle.cmc_queue.specs.Rows.{is_fresh, row_in}
use Rattle.cmc_queue.proofs.RowOrder.{finds_from_start}
use Rattle.cmc_queue.proofs.rows.Rows.first_fresh.Goals as goal

pub returns : goal.returns
returns c =
    let es = c.self.inside.map.entries in
    rw (← c.self.view_is)
    (subst (λ (o : Option Key). FindsFirst (λ k. is_fresh (row_in es k)) o) (sym (rw (← c.self.view_is) at c.key_at.ensures))
    (finds_from_start is_fresh es c.place_from.result c.self.invariant.sorted c.len-len.ensures.unique refl c.place_from.ensures))
