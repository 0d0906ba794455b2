use Rattle.std.proofs.Common.{refl}
use Rattle.cmc_setup.proofs.Grips.{at_first, one_more, not_in_turn, all_in_turn}
use Rattle.cmc_setup.proofs.holding.are_held_in_turn.Goals as goal

pub loop-step-init : goal.loop-step-init
loop-step-init c = at_first _ _ c.none-holding.ensures

pub loop-step-preserved : goal.loop-step-preserved
loop-step-preserved c = one_more _ _ _ _ _ c.loop-step-test.true c.step-item.is c.in-Some.ensures c.loop-step.invariant

pub returns : goal.returns
returns c = (λ t. all_in_turn _ _ _ c.loop-step-test.false c.loop-step.invariant, λ o. refl)

pub returns-in-None : goal.returns-in-None
returns-in-None c = (λ t. absurd (cc), λ o. absurd (not_in_turn _ _ _ _ c.loop-step-test.true c.step-item.is c.in-None.ensures c.loop-step.invariant o))
