use Rattle.std.proofs.Common.{ℕ, subst}
use Rattle.cmc_kernel.specs.Kept.{setting_of}
use Rattle.cmc_moves.specs.Answers.{AnswersDelivery}
use Rattle.cmc_world.proofs.Making.{behind_by}
use Rattle.cmc_world.proofs.deliveries.takes_delivery.Goals as goal

pub returns : goal.returns
returns c =
    let s = setting_of c.args.kernel.now.scenario in
    let h = c.args.kernel.now.history in
    behind_by s h c.args.role c.args.kind c.judge_delivery.result c.is_accepted.result
    (subst (λ (to : ℕ). AnswersDelivery s h c.args.role c.args.kind to c.judge_delivery.result) c.requires c.judge_delivery.ensures)
    c.is_accepted.ensures
