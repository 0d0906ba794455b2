use Rattle.std.proofs.Common.{◌∙◌, arith, sym}
use Rattle.cmc_workers.proofs.Ends.{driven_drives, finished_on}
use Rattle.cmc_workers.proofs.run.drive.Goals as goal

pub returns-then-same-clause-ends : goal.returns-then-same-clause-ends
returns-then-same-clause-ends g c =
    finished_on c.args.scenario c.in_threads-left.result c.in-Finished.world c.in_ok-world.field-0 c.in_ok-world.ensures c.in-Finished.is
    (sym c.scenario.ensures ∙ c.same-same.ensures.0 c.if-same.true)

pub returns-clause-ends : goal.returns-clause-ends
returns-clause-ends g c = driven_drives c.args.scenario c.drive_plain-2.result c.drive_plain-2.ensures

-- without workers that call is not reached
pub returns-then-same-clause-alone : goal.returns-then-same-clause-alone
returns-then-same-clause-alone g c = λ none. absurd (omega (arith, none, c.if-workers-eq0.false))
