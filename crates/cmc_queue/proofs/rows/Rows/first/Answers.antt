use Rattle.std.proofs.Common.{◌<◌, arith, refl, sym, subst, ◌∙◌, Option}
use Rattle.cmc_meta.specs.declared.key.Key.{Key}
use Rattle.cmc_queue.specs.Queues.{FindsFirst}
use Rattle.cmc_queue.specs.Rows.{is_free, row_in}
use Rattle.cmc_queue.proofs.Counts.{none_counted}
use Rattle.cmc_queue.proofs.RowOrder.{finds_kept, finds_none}
use Rattle.cmc_queue.proofs.rows.Rows.first.Goals as goal

pub returns-then-self-eq0 : goal.returns-then-self-eq0
returns-then-self-eq0 c =
    let es = c.self.inside.map.entries in
    rw (← c.self.view_is) (finds_none is_free es refl (λ i e at. none_counted is_free es i e (sym c.self.invariant.free.count ∙ c.if-self-eq0.true) at))

pub returns : goal.returns
returns c =
    let es = c.self.inside.map.entries in
    let none = c.if-self-eq0.false in
    let some : 0 < c.self.inside.free.count = omega (arith, none) in
    rw (← c.self.view_is)
    (subst (λ (o : Option Key). FindsFirst (λ k. is_free (row_in es k)) o) (sym (rw (← c.self.view_is) at c.key_at.ensures))
    (finds_kept is_free es c.self.inside.free.first c.self.invariant.sorted c.len-len.ensures.unique refl (c.self.invariant.free.first some)))
