-- What a list of policies decides of a request.
use Rattle.std.specs.Prelude.{ℕ, Bool, ◌&&◌, List, Option, Some, None, is_none, find, position}
use Rattle.std.specs.Option.{option_and_then}
use Rattle.cmc_policy_rules.specs.declared.decision.Decision.{Decision}
use Rattle.cmc_policy_rules.specs.declared.decision.Decision.TheVariants.{Yes, No, Unbound}
use Rattle.cmc_policy_rules.specs.declared.decision.Field.{Field}
use Rattle.cmc_policy_rules.specs.declared.policy.Policy.{Policy}
use Rattle.cmc_policy_rules.specs.declared.wanted.Wanted.{Wanted}
use Rattle.cmc_policy_rules.specs.Allowed.{matches_any, refused_field}

-- the policy is for the issuer that the request names
abbrev pub is_bound : Policy → Wanted → Bool
is_bound policy wanted = matches_any policy.issuers wanted.issuer

-- it is for that issuer, and allows all of the request
abbrev pub is_allowed_by : Policy → Wanted → Bool
is_allowed_by policy wanted = is_bound policy wanted && is_none (refused_field policy wanted)

-- the first field that the first policy for the issuer does not allow
abbrev pub first_refusal : List Policy → Wanted → Option Field
first_refusal policies wanted = option_and_then (λ policy. refused_field policy wanted) (find (λ policy. is_bound policy wanted) policies)

-- by the place of the first policy that passes, that of the first one for the issuer, and the field that this refuses
abbrev pub decided : Option ℕ → Option ℕ → Option Field → Decision
decided (Some passing) bound refusal = Yes passing
decided None (Some bound) (Some field) = No bound field
decided None (Some bound) None = Unbound
decided None None refusal = Unbound

unfoldable pub decision : List Policy → Wanted → Decision
decision policies wanted =
    decided (position (λ policy. is_allowed_by policy wanted) policies) (position (λ policy. is_bound policy wanted) policies)
    (first_refusal policies wanted)
