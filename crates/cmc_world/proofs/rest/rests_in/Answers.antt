use Rattle.std.proofs.Common.{◌∙◌, refl, sym, ap, subst, Option, None}
use Rattle.std.specs.Prelude.{not}
use Rattle.cmc_meta.specs.declared.key.Key.{Key}
use Rattle.cmc_queue.specs.Queues.{FindsFirst}
use Rattle.cmc_queue.specs.Rows.{is_pending}
use Rattle.cmc_waking.specs.Queues.{row_at}
use Rattle.cmc_kernel.specs.Kept.{setting_of}
use Rattle.cmc_world.specs.declared.pending.Pending.{Pending}
use Rattle.cmc_world.specs.Searches.{FindsPending}
use Rattle.cmc_world.proofs.Finding.{none_by, nothing_pending}
use Rattle.cmc_world.proofs.KeptActs.{work_was_found}
use Rattle.cmc_world.proofs.KeptOver.{kept_noted}
use Rattle.cmc_world.proofs.Resting.{rests_by_none, rests_not}
use Rattle.cmc_world.proofs.rest.rests_in.Goals as goal

pub returns-then-is_none-clause-test : goal.returns-then-is_none-clause-test
returns-then-is_none-clause-test c =
    let s = setting_of c.args.kernel.now.scenario in
    let h = c.args.kernel.now.history in
    let none = subst (λ (k : Option Key). FindsFirst (λ k. is_pending (row_at c.args.queues.now c.args.role k)) k) (none_by _ c.first_pending.result (c.is_none.ensures ∙ ap not c.if-is_none.true)) c.first_pending.ensures in (
      λ on up. rests_by_none s h c.args.role c.is_run.ensures.run c.requires.closed c.requires.told up (nothing_pending s h c.args.role c.args.queues.now c.requires.fed none),
      λ rests. refl,
    )

pub returns-in-None-clause-test : goal.returns-in-None-clause-test
returns-in-None-clause-test c =
    let s = setting_of c.args.kernel.now.scenario in
    let h = c.args.kernel.now.history in
    let none = subst (λ (p : Pending). FindsPending s h c.args.role None p) c.in-None.is c.in_ok-next_pending.ensures.finds in (
      λ on up. rests_by_none s h c.args.role c.is_run.ensures.run c.requires.closed c.requires.told up (λ key work. none key (record { above = refl; work = work })),
      λ rests. refl,
    )

pub returns-in-Key-clause-test : goal.returns-in-Key-clause-test
returns-in-Key-clause-test c =
    let s = setting_of c.args.kernel.now.scenario in
    let h = c.args.kernel.now.history in
    let first = subst (λ (p : Pending). FindsPending s h c.args.role None p) c.in-Key.is c.in_ok-next_pending.ensures.finds in
    let up = sym c.runs.ensures ∙ c.if-not-runs.false in (
      λ on. absurd (cc on),
      λ rests. absurd (rests_not s h c.args.role c.in-Key._key c.is_run.ensures.run c.requires.told first.0.work (rests up)),
    )

pub returns-in-Pass-clause-test : goal.returns-in-Pass-clause-test
returns-in-Pass-clause-test c =
    let s = setting_of c.args.kernel.now.scenario in
    let h = c.args.kernel.now.history in
    let first = subst (λ (p : Pending). FindsPending s h c.args.role None p) c.in-Pass.is c.in_ok-next_pending.ensures.finds in
    let up = sym c.runs.ensures ∙ c.if-not-runs.false in (
      λ on. absurd (cc on),
      λ rests. absurd (rests_not s h c.args.role c.in-Pass.opening.key c.is_run.ensures.run c.requires.told first.1.work (rests up)),
    )

pub returns-in-Pass-clause-kept : goal.returns-in-Pass-clause-kept
returns-in-Pass-clause-kept c =
    let s = setting_of c.args.kernel.now.scenario in
    let h = c.args.kernel.now.history in
    let first = subst (λ (p : Pending). FindsPending s h c.args.role None p) c.in-Pass.is c.in_ok-next_pending.ensures.finds in
    kept_noted c.args.kernel.now c.next_pending.new.kept c.note.new.self c.in-Pass.opening c.note.ensures.told c.note.ensures.act c.note.ensures.looked
    (work_was_found s h c.args.role c.in-Pass.opening.key c.in-Pass.opening first.1) c.next_pending.ensures.kept
