use Rattle.std.proofs.Common.{sym, ◌∙◌, ap}
use Rattle.std.specs.Prelude.{not}
use Rattle.cmc_policy_rules.specs.Allowed.{allows, all_fields, refused_field}
use Rattle.cmc_policy_rules.specs.declared.decision.Field.{Field}
use Rattle.cmc_policy_rules.specs.declared.decision.Field.TheVariants.{CommonName}
use Rattle.cmc_policy_rules.proofs.Finds.{find_here, find_further, find_none}
use Rattle.cmc_policy_rules.proofs.allowing.allows.Goals as goal

pub returns-then-not-allows_field : goal.returns-then-not-allows_field
unfolding refused_field
returns-then-not-allows_field c =
    find_here (λ (field : Field). not (allows field c.args.policy.now c.args.wanted.now)) all_fields c.loop-field.field-index CommonName
    c.loop-field-test.true c.loop-field.invariant (ap not (sym c.allows_field.ensures ∙ c.if-not-allows_field.true))

pub loop-field-preserved : goal.loop-field-preserved
loop-field-preserved c =
    find_further (λ (field : Field). not (allows field c.args.policy.now c.args.wanted.now)) all_fields c.loop-field.field-index CommonName
    c.loop-field-test.true c.loop-field.invariant (ap not (sym c.allows_field.ensures ∙ c.if-not-allows_field.false))

pub returns : goal.returns
unfolding refused_field
returns c =
    find_none (λ (field : Field). not (allows field c.args.policy.now c.args.wanted.now)) all_fields c.loop-field.field-index
    c.loop-field-test.false c.loop-field.invariant
