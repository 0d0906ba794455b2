use Rattle.std.proofs.Common.{Option, ap, sym, subst, ◌∙◌}
use Rattle.std.specs.Prelude.{is_some}
use Rattle.cmc_collector.specs.declared.examination.Examination.{Examination}
use Rattle.cmc_collector.specs.Caches.{informer_object}
use Rattle.cmc_collector.specs.CachePositions.{is_orphan_in}
use Rattle.cmc_collector.specs.Examinations.{current_of}
use Rattle.cmc_collector.specs.Rows.{Rowed}
use Rattle.cmc_collector.proofs.Firsts.{RowsLeft, all_rows_left, due_has_row, due_test, fewer_rows_left, first_found, first_row}
use Rattle.cmc_collector.proofs.orphans.first_due.Goals as goal

pub loop-key-init : goal.loop-key-init
loop-key-init c =
    rw (c.into_iter-key-iterator.ensures.into_iter_gives, c.iter-key-items.ensures.rest)
    (all_rows_left c.args.rows.now.entries (due_test c.args.rows.now.entries (informer_object c.args.caches.now) c.args.given) c.iter-key-items.ensures.ordered c.iter-key-items.ensures.found (due_has_row c.args.rows.now.entries (informer_object c.args.caches.now) c.args.given c.requires))

pub loop-key-preserved : goal.loop-key-preserved
loop-key-preserved c =
    let left = subst (λ (es : Rowed). RowsLeft c.args.rows.now.entries (due_test c.args.rows.now.entries (informer_object c.args.caches.now) c.args.given) es) c.in-Some.ensures.steps c.loop-key.invariant in
    fewer_rows_left c.args.rows.now.entries (due_test c.args.rows.now.entries (informer_object c.args.caches.now) c.args.given) c.in-Some.key.now c.in-Some.row.now c.next.new.self
    (ap (λ (x : Option Examination). is_some (current_of x (is_orphan_in (informer_object c.args.caches.now) c.args.given c.in-Some.key.now.namespace (informer_object c.args.caches.now c.in-Some.key.now)) (informer_object c.args.caches.now c.in-Some.key.now)))
    (first_row c.args.rows.now.entries (due_test c.args.rows.now.entries (informer_object c.args.caches.now) c.args.given) _ _ _ left ∙ sym c.as_ref.ensures.value) ∙ sym c.in_ok-is_due.ensures ∙ c.if-branch.false) left

pub returns-then-branch : goal.returns-then-branch
returns-then-branch c =
    let left = subst (λ (es : Rowed). RowsLeft c.args.rows.now.entries (due_test c.args.rows.now.entries (informer_object c.args.caches.now) c.args.given) es) c.in-Some.ensures.steps c.loop-key.invariant in
    first_found c.args.rows.now.entries (due_test c.args.rows.now.entries (informer_object c.args.caches.now) c.args.given) c.in-Some.key.now c.in-Some.row.now c.next.new.self
    (ap (λ (x : Option Examination). is_some (current_of x (is_orphan_in (informer_object c.args.caches.now) c.args.given c.in-Some.key.now.namespace (informer_object c.args.caches.now c.in-Some.key.now)) (informer_object c.args.caches.now c.in-Some.key.now)))
    (first_row c.args.rows.now.entries (due_test c.args.rows.now.entries (informer_object c.args.caches.now) c.args.given) _ _ _ left ∙ sym c.as_ref.ensures.value) ∙ sym c.in_ok-is_due.ensures ∙ c.if-branch.true) left
