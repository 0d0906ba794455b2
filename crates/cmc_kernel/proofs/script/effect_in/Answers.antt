use Rattle.std.proofs.Common.{sym}
use Rattle.cmc_kernel.proofs.StepAnswers.{formed_at}
use Rattle.cmc_kernel.proofs.script.effect_in.Goals as goal

pub effect_on-requires-clause-form : goal.effect_on-requires-clause-form
effect_on-requires-clause-form c = formed_at c.args.script.now c.args.place c.in-Some.step.now c.requires.forms (sym c.in-Some.ensures)
