use Rattle.cmrun.specs.Headline.{IsRunOf}
use Rattle.cmrun.specs.Statuses.{Refuses, scenario_limit}
use Rattle.cmrun.proofs.Telling.{of_runs, told_cause}
use Rattle.cmrun.proofs.top.run_source.Goals as goal

pub returns-in-Err-clause-told : goal.returns-in-Err-clause-told
returns-in-Err-clause-told g c =
    told_cause scenario_limit (IsRunOf c.args.workers c.args.alone) Refuses c.in-Err.status c.in-Ok.bytes.items _ _ _ of_runs c.in-Ok.ensures.content c.in-Ok.ensures.end (rw c.as_slice.ensures.value at c.in-Err.ensures.err) c.in-Ok.ensures.short
