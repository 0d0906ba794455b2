use Rattle.std.proofs.Common.{sym, subst, ◌∙◌}
use Rattle.cmc_meta.specs.declared.key.Key.{Key}
use Rattle.cmc_moves.specs.declared.moves.Stepped.{Stepped}
use Rattle.cmc_moves.specs.declared.moves.Stepped.TheVariants.{Done}
use Rattle.cmc_moves.specs.Answers.{AnswersBegin}
use Rattle.cmc_kernel.specs.Kept.{setting_of}
use Rattle.cmc_moves.proofs.Tables.{the_done}
use Rattle.cmc_kernel.proofs.kernel.Kernel.step_begin.Goals as goal

pub open-requires-clause-may : goal.open-requires-clause-may
open-requires-clause-may c =
    subst (λ (k : Key). AnswersBegin (setting_of c.args.self.now.scenario) c.args.self.now.history c.args.role k Done) (sym c.in_ok-prepared.ensures.key)
    (subst (λ (a : Stepped). AnswersBegin (setting_of c.args.self.now.scenario) c.args.self.now.history c.args.role c.args.key a) (the_done c.in_ok-answer.answer (sym c.is_done.ensures ∙ c.if-not-is_done.false)) c.in_ok-answer.ensures)

pub returns-clause-answer : goal.returns-clause-answer
returns-clause-answer c =
    subst (λ (a : Stepped). AnswersBegin (setting_of c.args.self.now.scenario) c.args.self.now.history c.args.role c.args.key a) (the_done c.in_ok-answer.answer (sym c.is_done.ensures ∙ c.if-not-is_done.false)) c.in_ok-answer.ensures
