use Rattle.std.proofs.Common.{◌≡◌, drop}
use Rattle.std.specs.List.{find}
use Rattle.std.specs.Prelude.{not}
use Rattle.cmc_policy_rules.specs.Allowed.{allows, all_fields}
use Rattle.cmc_policy_rules.proofs.allowing.allows.Given as goal

abbrev pub invariant-loop-field : goal.invariant-loop-field
invariant-loop-field l =
    find (λ field. not (allows field l.policy l.wanted)) (drop l.field-index all_fields)
    ≡ find (λ field. not (allows field l.policy l.wanted)) all_fields
