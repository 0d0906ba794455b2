use Rattle.std.proofs.Common.{◌∙◌, sym}
use Rattle.std.proofs.lemmas.Result.{IfOk-weaker}
use Rattle.cmc_kernel.specs.Kept.{setting_of}
use Rattle.cmc_world.proofs.Resting.{at_rest_where}
use Rattle.cmc_world.proofs.rest.is_at_rest.Goals as goal

pub returns-clause-test : goal.returns-clause-test
returns-clause-test c =
    let no_pass = sym c.is_some.ensures ∙ c.if-is_some.false in
    let no_delivery = sym c.is_some-2.ensures ∙ c.if-is_some-2.false in
    IfOk-weaker c.rests_in_each.result _ _
    (λ b rests. at_rest_where (setting_of c.args.kernel.now.scenario) c.args.kernel.now.history c.first_pass.result c.next_delivery.result b no_pass no_delivery c.first_pass.ensures c.next_delivery.ensures.finds rests) c.rests_in_each.ensures.test
