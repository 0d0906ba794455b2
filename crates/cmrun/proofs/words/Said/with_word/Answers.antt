use Rattle.std.proofs.Common.{sym, ◌∙◌}
use Rattle.cmrun.proofs.Saying.{word_other}
use Rattle.cmrun.proofs.words.Said.with_word.Goals as goal

pub returns : goal.returns
returns c = word_other c.args.self c.args.word.now c.with_other.result c.in_default.ensures.cases (sym c.eq.ensures ∙ c.if-eq.false) c.with_other.ensures
