use Rattle.std.proofs.Common.{rules}
use Rattle.cmc_policy_rules.proofs.Decisions.{yes_decided, no_decided, unbound_decided, no_refusal}
use Rattle.cmc_policy_rules.proofs.deciding.decide.Goals as goal

pub returns-in-Some : goal.returns-in-Some
returns-in-Some c = yes_decided _ _ _ (search rules)

pub returns-in-Err : goal.returns-in-Err
returns-in-Err c = no_decided c.args.policies.now c.args.wanted.now _ c.index-policies-place.result _ (search rules) (search rules) (search rules) c.in-Err.ensures

pub returns-in-None : goal.returns-in-None
returns-in-None c = unbound_decided _ _ (search rules) (search rules)

pub unreachable-requires : goal.unreachable-requires
unreachable-requires c = no_refusal c.args.policies.now c.args.wanted.now c.in-Some-first_bound.place c.index-policies-place.result (search rules) (search rules) (search rules) c.in-Ok.ensures
