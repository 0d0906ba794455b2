use Rattle.std.proofs.Common.{ap, ◌∙◌, arith}
use Rattle.cmc_meta.specs.ConditionLists.{place_in}
use Rattle.cmc_meta.proofs.Orders.{place_is_within, place_is_taken, set_at_place, insert_at_place}
use Rattle.cmc_meta.proofs.conditions.put_condition.Goals as goal

pub index_mut-requires : goal.index_mut-requires
index_mut-requires c = omega (arith, c.as_slice.ensures.len, place_is_taken c.as_slice.result.now c.args.new.kind _ c.place_of-place.ensures c.if-taken.true)

pub returns-then-taken-clause-ok : goal.returns-then-taken-clause-ok
returns-then-taken-clause-ok c = set_at_place _ _ _ (c.place_of-place.ensures ∙ ap (λ l. place_in l c.args.new.kind) c.as_slice.ensures.value) c.if-taken.true

pub insert-requires : goal.insert-requires
insert-requires c = omega (arith, c.as_slice.ensures.len, place_is_within c.as_slice.result.now c.args.new.kind _ c.place_of-place.ensures)

pub returns-clause-ok : goal.returns-clause-ok
returns-clause-ok c = (rw c.in_ok-insert.was at c.insert.ensures.items) ∙ insert_at_place _ _ _ (c.place_of-place.ensures ∙ ap (λ l. place_in l c.args.new.kind) c.as_slice.ensures.value) c.if-taken.false
