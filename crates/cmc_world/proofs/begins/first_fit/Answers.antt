use Rattle.std.proofs.Common.{◌≡◌, ◌∙◌, sym, ap, subst, Option, false}
use Rattle.cmc_meta.specs.declared.key.Key.{Key}
use Rattle.cmc_queue.specs.declared.row.Row.{Row}
use Rattle.cmc_queue.specs.Queues.{row_of, FindsFirst, Work}
use Rattle.cmc_queue.specs.Rows.{is_free, is_unknown}
use Rattle.cmc_waking.specs.Queues.{row_at}
use Rattle.cmc_kernel.specs.Kept.{setting_of}
use Rattle.cmc_world.proofs.Finding.{fits_first, fits_none, free_fits}
use Rattle.cmc_world.proofs.begins.first_fit.Goals as goal

pub returns-then-not-is_unknown-clause-finds : goal.returns-then-not-is_unknown-clause-finds
returns-then-not-is_unknown-clause-finds c =
    let s = setting_of c.args.kernel.now.scenario in
    let h = c.args.kernel.now.history in
    let role = c.args.role in
    let key = c.in-Some.key in
    let queues = c.loop-key.queues in
    let first = subst (λ (k : Option Key). FindsFirst (λ k. is_free (row_at queues role k)) k) c.in-Some.is c.in_ok-key.ensures in
    let row = c.row.ensures ∙ ap (λ (q : Work). row_of q key) c.queue.ensures in
    let known = subst (λ (r : Row). is_unknown r.work ≡ false) row (sym c.is_unknown.ensures ∙ c.if-not-is_unknown.true) in
    fits_first s h role queues key c.loop-key.invariant.0 first
    (free_fits s h role key queues c.is_run.ensures.run.legal c.loop-key.invariant.0 c.requires.running first.0 known)

pub returns-clause-finds : goal.returns-clause-finds
returns-clause-finds c =
    fits_none (setting_of c.args.kernel.now.scenario) c.args.kernel.now.history c.args.role c.loop-key.queues c.loop-key.invariant.0
    (subst (λ (k : Option Key). FindsFirst (λ k. is_free (row_at c.loop-key.queues c.args.role k)) k) c.in_default.is c.in_ok-key.ensures)
