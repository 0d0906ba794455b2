use Rattle.std.proofs.Common.{◌<◌, arith, refl, sym, subst, ◌∙◌, Option, Some, None}
use Rattle.std.proofs.lemmas.Option.{IfSome_then}
use Rattle.std.specs.Borrow.{Bor}
use Rattle.std.specs.Option.{option_copied}
use Rattle.std.specs.Prelude.{◌&&◌, option_map}
use Rattle.cmc_meta.specs.declared.key.Key.{Key}
use Rattle.cmc_queue.specs.declared.row.Row.{Row}
use Rattle.cmc_queue.specs.Queues.{is_above, FindsFirst}
use Rattle.cmc_queue.specs.Rows.{is_pending, row_in}
use Rattle.cmc_queue.proofs.Counts.{none_above, none_counted}
use Rattle.cmc_queue.proofs.OneRow.{found_at, row_found}
use Rattle.cmc_queue.proofs.RowOrder.{finds_above, finds_kept, finds_none}
use Rattle.cmc_queue.proofs.rows.Rows.next_pending.Goals as goal

pub returns-then-self-eq0-clause-finds : goal.returns-then-self-eq0-clause-finds
returns-then-self-eq0-clause-finds c =
    let es = c.self.inside.map.entries in
    rw (← c.self.view_is) (λ k. none_above _ _ (finds_none is_pending es refl (λ i e at. none_counted is_pending es i e (sym c.self.invariant.pending.count ∙ c.if-self-eq0.true) at) k))

pub returns-in-Some-clause-finds : goal.returns-in-Some-clause-finds
returns-in-Some-clause-finds c =
    let es = c.self.inside.map.entries in
    rw (← c.self.view_is)
    (subst (λ (b : Option (Bor Key)). FindsFirst (λ k. is_above (option_copied b) k && is_pending (row_in es k)) (option_map {T = Bor Key × Row} {U = Key} (λ p. p.0.now) c.entry_at.result)) (sym c.in-Some.is)
    (subst (λ (o : Option Key). FindsFirst (λ k. is_above (Some c.in-Some.below.now) k && is_pending (row_in es k)) o) (sym (rw (← c.self.view_is) at c.entry_at.ensures.key))
    (finds_above c.in-Some.below.now is_pending es c.place_above-from.result c.place_from.result c.self.invariant.sorted c.len-len.ensures.unique refl (rw (← c.self.view_is) at c.place_above-from.ensures) c.place_from.ensures)))

pub returns-in-Some-clause-row : goal.returns-in-Some-clause-row
returns-in-Some-clause-row c =
    let es = c.self.inside.map.entries in
    let entry = (rw (← c.self.view_is) at c.entry_at.ensures.entry) in
    rw (← c.self.view_is) (IfSome_then c.entry_at.result entry (λ p at. sym (row_found es p.0.now p.1 (found_at es c.place_from.result p.0.now p.1 c.len-len.ensures.unique at))))

pub returns-in-None-clause-finds : goal.returns-in-None-clause-finds
returns-in-None-clause-finds c =
    let es = c.self.inside.map.entries in
    let none = c.if-self-eq0.false in
    let some : 0 < c.self.inside.pending.count = omega (arith, none) in
    rw (← c.self.view_is)
    (subst (λ (b : Option (Bor Key)). FindsFirst (λ k. is_above (option_copied b) k && is_pending (row_in es k)) (option_map {T = Bor Key × Row} {U = Key} (λ p. p.0.now) c.entry_at-in-None.result)) (sym c.in-None.is)
    (subst (λ (o : Option Key). FindsFirst (λ k. is_above None k && is_pending (row_in es k)) o) (sym (rw (← c.self.view_is) at c.entry_at-in-None.ensures.key))
    (finds_kept is_pending es c.self.inside.pending.first c.self.invariant.sorted c.len-len.ensures.unique refl (c.self.invariant.pending.first some))))

pub returns-in-None-clause-row : goal.returns-in-None-clause-row
returns-in-None-clause-row c =
    let es = c.self.inside.map.entries in
    let entry = (rw (← c.self.view_is) at c.entry_at-in-None.ensures.entry) in
    rw (← c.self.view_is) (IfSome_then c.entry_at-in-None.result entry (λ p at. sym (row_found es p.0.now p.1 (found_at es c.self.inside.pending.first p.0.now p.1 c.len-len.ensures.unique at))))
