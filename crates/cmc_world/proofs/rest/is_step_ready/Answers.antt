use Rattle.std.proofs.lemmas.Result.{IfOk-weaker}
use Rattle.cmc_kernel.specs.Kept.{setting_of}
use Rattle.cmc_world.proofs.Awaiting.{ready_at_rest}
use Rattle.cmc_world.proofs.rest.is_step_ready.Goals as goal

pub returns-in-Rest-clause-test : goal.returns-in-Rest-clause-test
returns-in-Rest-clause-test c =
    IfOk-weaker c.is_at_rest.result _ _ (λ b rest. ready_at_rest (setting_of c.args.kernel.now.scenario) c.args.kernel.now.history c.awaited.result b c.awaited.ensures c.in-Rest.is rest) c.is_at_rest.ensures.test
