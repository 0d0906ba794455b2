use Rattle.std.proofs.Common.{sym, ◌∙◌}
use Rattle.cmc_world.proofs.BeginsFed.{fit_due, fit_queued, looked_fits, nothing_found}
use Rattle.cmc_world.proofs.fed_begins.begin_seen.Goals as goal

pub begin_noted-requires-clause-nothing : goal.begin_noted-requires-clause-nothing
begin_noted-requires-clause-nothing c = sym c.requires.work ∙ nothing_found c.args.work c.requires.looked (sym c.may_work.ensures ∙ c.if-not-may_work.true)

pub begin_due-requires-clause-free : goal.begin_due-requires-clause-free
begin_due-requires-clause-free c = (looked_fits c.args.kernel.now c.args.role c.args.key c.args.queues.now c.args.work c.is_run.ensures.run c.requires.fed c.requires.running c.requires.free c.requires.looked c.requires.work).may.idle

pub begin_due-requires-clause-due : goal.begin_due-requires-clause-due
begin_due-requires-clause-due c = fit_due c.args.kernel.now c.args.role c.args.key c.args.seen c.requires.sees (looked_fits c.args.kernel.now c.args.role c.args.key c.args.queues.now c.args.work c.is_run.ensures.run c.requires.fed c.requires.running c.requires.free c.requires.looked c.requires.work)

pub begin_due-requires-clause-queued : goal.begin_due-requires-clause-queued
begin_due-requires-clause-queued c = fit_queued c.args.kernel.now c.args.role c.args.key (looked_fits c.args.kernel.now c.args.role c.args.key c.args.queues.now c.args.work c.is_run.ensures.run c.requires.fed c.requires.running c.requires.free c.requires.looked c.requires.work)
