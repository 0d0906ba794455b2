use Rattle.std.proofs.Common.{ap, ◌∙◌}
use Rattle.cmc_status.proofs.KnownTimes.{begins_known, ends_known, renewal_known}
use Rattle.cmc_status.proofs.reasons.judge.Goals as goal

pub returns-clause-before : goal.returns-clause-before
returns-clause-before c = c.times_of.ensures.before ∙ begins_known _ _ _ (ap (λ k. k.pair) c.facts_for-facts.ensures) (ap (λ k. k.not_before) c.facts_for-facts.ensures)

pub returns-clause-after : goal.returns-clause-after
returns-clause-after c = c.times_of.ensures.after ∙ ends_known _ _ _ (ap (λ k. k.pair) c.facts_for-facts.ensures) (ap (λ k. k.not_after) c.facts_for-facts.ensures)

pub returns-clause-renewal : goal.returns-clause-renewal
returns-clause-renewal c = c.times_of.ensures.renewal ∙ renewal_known _ c.args.frame.renew _ _ _ (ap (λ k. k.pair) c.facts_for-facts.ensures) (ap (λ k. k.not_before) c.facts_for-facts.ensures) (ap (λ k. k.not_after) c.facts_for-facts.ensures)
