use Rattle.std.proofs.Common.{refl}
use Rattle.cmc_setup.proofs.Orderly.{one_more, not_orderly, all_orderly}
use Rattle.cmc_setup.proofs.running.are_orderly.Goals as goal

pub loop-step-init : goal.loop-step-init
loop-step-init c = record { running = c.args.roles.now; tells = c.of-running.ensures; same = (λ o. o, λ o. o) }

pub loop-step-preserved : goal.loop-step-preserved
loop-step-preserved c = one_more _ _ _ _ _ _ c.loop-step-test.true c.step-item.is c.in-Some.ensures c.loop-step.invariant

pub returns : goal.returns
returns c = (λ t. all_orderly _ _ _ _ c.loop-step-test.false c.loop-step.invariant, λ o. refl)

pub returns-in-None : goal.returns-in-None
returns-in-None c = (λ t. absurd (cc), λ o. absurd (not_orderly _ _ _ _ _ c.loop-step-test.true c.step-item.is c.in-None.ensures c.loop-step.invariant o))
