use Rattle.std.proofs.Common.{ap}
use Rattle.std.specs.Option.{option_copied}
use Rattle.cmc_kernel.specs.Kept.{setting_of}
use Rattle.cmc_world.proofs.Asking.{question_made}
use Rattle.cmc_world.proofs.questions.question.Goals as goal

pub question_at-requires : goal.question_at-requires
question_at-requires c =
    question_made (setting_of c.args.kernel.now.scenario) c.args.kernel.now.history c.args.pass c.in-Some.open.now _ _ c.is_run.ensures.run (c.passes.ensures c.args.pass) c.get.ensures (ap option_copied c.in-Some.is)
