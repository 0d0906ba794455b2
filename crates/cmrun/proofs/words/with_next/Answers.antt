use Rattle.std.proofs.Common.{sym, ◌∙◌}
use Rattle.cmrun.proofs.Saying.{last_refused, last_taken, value_refused}
use Rattle.cmrun.proofs.words.with_next.Goals as goal

pub returns-in_err-with_word-clause-taken : goal.returns-in_err-with_word-clause-taken
returns-in_err-with_word-clause-taken c = last_refused c.args.said c.args.word.now c.args.rest.now c.from_residual.result c.in_default.ensures.cases c.in_err-with_word.ensures c.from_residual.ensures

pub returns-in_default-clause-taken : goal.returns-in_default-clause-taken
returns-in_default-clause-taken c = last_taken c.args.said c.in_ok-with_word.field-0 c.args.word.now c.args.rest.now c.in_default.ensures.cases c.in_ok-with_word.ensures

pub returns-in_err-with_workers-clause-taken : goal.returns-in_err-with_workers-clause-taken
returns-in_err-with_workers-clause-taken c = value_refused c.args.said c.args.word.now c.args.rest.now c.in-Some.behind.now c.in-Some.value.now c.from_residual-in_err-with_workers.result c.in-Some.ensures.cases.0 (sym c.eq.ensures ∙ c.if-eq.true) (rw c.as_str.ensures.value at c.in_err-with_workers.ensures) c.from_residual-in_err-with_workers.ensures
