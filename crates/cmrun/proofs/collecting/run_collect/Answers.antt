use Rattle.cmrun.specs.Headline.{IsCollectOf}
use Rattle.cmrun.specs.Statuses.{RefusesScriptIn, scenario_limit}
use Rattle.cmrun.proofs.Telling.{of_scripts, told_cause}
use Rattle.cmrun.proofs.collecting.run_collect.Goals as goal

pub returns-in-Err-clause-told : goal.returns-in-Err-clause-told
returns-in-Err-clause-told g c =
    told_cause scenario_limit IsCollectOf RefusesScriptIn c.in-Err.status c.in-Ok.bytes.items _ _ _ of_scripts c.in-Ok.ensures.content c.in-Ok.ensures.end (rw c.as_slice.ensures.value at c.in-Err.ensures.err) c.in-Ok.ensures.short
