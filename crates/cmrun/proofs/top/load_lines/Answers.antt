use Rattle.cmrun.proofs.Loads.{load_printed, load_refused}
use Rattle.cmrun.proofs.top.load_lines.Goals as goal

-- what is printed of a load is that of its scenario, whether its JSON was made or not
pub returns-clause-ok : goal.returns-clause-ok
returns-clause-ok g c =
    load_printed c.args.workers c.args.alone c.args.count _ c.in_ok-scenario.scenario c.run_of-lines.result c.in_ok-scenario.ensures c.in_ok-value.ensures.said c.run_of-lines.ensures.ok

pub returns-clause-err : goal.returns-clause-err
returns-clause-err g c =
    load_refused c.generated_loads_end.ensures c.args.count c.in_ok-scenario.scenario c.run_of-lines.result c.requires.some c.requires.few c.in_ok-scenario.ensures c.run_of-lines.ensures.err
