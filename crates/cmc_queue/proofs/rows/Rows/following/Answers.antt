use Rattle.std.proofs.Common.{refl, sym, subst, Option}
use Rattle.std.specs.Prelude.{◌&&◌}
use Rattle.std.specs.Ordering.{is_lt}
use Rattle.cmc_meta.specs.declared.key.Key.{Key}
use Rattle.cmc_meta.specs.Keys.{key_cmp}
use Rattle.cmc_queue.specs.Queues.{FindsFirst}
use Rattle.cmc_queue.specs.Rows.{is_free, row_in}
use Rattle.cmc_queue.proofs.RowOrder.{finds_above}
use Rattle.cmc_queue.proofs.rows.Rows.following.Goals as goal

pub returns : goal.returns
returns c =
    let es = c.self.inside.map.entries in
    rw (← c.self.view_is)
    (subst (λ (o : Option Key). FindsFirst (λ k. is_lt (key_cmp c.args.below.now k) && is_free (row_in es k)) o) (sym (rw (← c.self.view_is) at c.key_at.ensures))
    (finds_above c.args.below.now is_free es c.place_above.result c.place_from.result c.self.invariant.sorted c.len-len.ensures.unique refl (rw (← c.self.view_is) at c.place_above.ensures) c.place_from.ensures))
