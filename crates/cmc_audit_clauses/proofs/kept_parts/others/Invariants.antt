use Rattle.std.proofs.Common.{◌≡◌, take}
use Rattle.cmc_rules.specs.Rights.{other_conditions}
use Rattle.cmc_audit_clauses.proofs.kept_parts.others.Given as goal

abbrev pub invariant-loop-condition : goal.invariant-loop-condition
invariant-loop-condition l = l.others ≡ other_conditions l.kind (take l.condition-index l.conditions)
