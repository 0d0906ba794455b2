use Rattle.std.proofs.Common.{◌∙◌, ap, sym}
use Rattle.std.specs.Option.{option_copied}
use Rattle.cmc_kernel.proofs.StepAnswers.{is_left}
use Rattle.cmc_kernel.proofs.kernel.Kernel.judge_script.Goals as goal

pub judge_left-requires-clause-left : goal.judge_left-requires-clause-left
judge_left-requires-clause-left c = is_left c.args.self.now.scenario.script _ _ (sym c.next_step.ensures ∙ ap option_copied c.in-Some.is)
