use Rattle.cmrun.proofs.OneAnswer.{one_run, run_or_spent, one_load, load_or_spent}
use Rattle.cmrun.proofs.laws.output_is_a_function_of_the_input.Goals as goal

pub returns-clause-run : goal.returns-clause-run
returns-clause-run c = one_run

pub returns-clause-unspent : goal.returns-clause-unspent
returns-clause-unspent c = run_or_spent

pub returns-clause-load : goal.returns-clause-load
returns-clause-load c = one_load

pub returns-clause-load_unspent : goal.returns-clause-load_unspent
returns-clause-load_unspent c = load_or_spent
