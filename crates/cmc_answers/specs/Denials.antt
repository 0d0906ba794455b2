-- Whether a request may be approved, and why not.
use Rattle.std.specs.Prelude.{ℕ, Bool, List, [], ◌∷◌, ◌++◌, Option, Some, None, unwrap_or, slice_get, if◌then◌else◌}
use Rattle.std.specs.List.{list_any}
use Rattle.std.specs.Option.{option_to_list, option_map}
use Rattle.std.specs.Str.Lossy.{utf8_lossy}
use Rattle.cmc_der.specs.Keys.{RequestFields}
use Rattle.cmc_x509.specs.ReadCertificates.{request_fields_at}
use Rattle.cmc_objects.specs.declared.orders.Rules.{Rules}
use Rattle.cmc_objects.specs.declared.orders.JudgeOrder.{JudgeOrder}
use Rattle.cmc_policy_rules.specs.Allowed.{has_entry}
use Rattle.cmc_policy_rules.specs.Decisions.{decision}
use Rattle.cmc_policy_rules.specs.declared.policy.Policy.{Policy}
use Rattle.cmc_policy_rules.specs.declared.wanted.Wanted.{Wanted}
use Rattle.cmc_policy_rules.specs.declared.decision.Decision.{Decision}
use Rattle.cmc_policy_rules.specs.declared.decision.Decision.TheVariants.{Yes, No, Unbound}
use Rattle.cmc_answers.specs.declared.denial.Denial.{Denial}
use Rattle.cmc_answers.specs.declared.denial.Denial.TheVariants as denials
use Rattle.cmc_answers.specs.Wanted.{wanted_of}

-- the common name or a DNS name is one that no request may have
abbrev pub has_refused_name : List (List ℕ) → Wanted → Bool
has_refused_name refuse wanted = list_any (λ name. has_entry refuse name) (option_to_list wanted.common ++ wanted.dns)

-- the name of the policy at this place, as a text
abbrev pub policy_name : List Policy → ℕ → List ℕ
policy_name policies place = utf8_lossy (unwrap_or (option_map (λ policy. policy.name) (slice_get policies place)) [])

abbrev pub denial_by : List Policy → Decision → Option Denial
denial_by policies (Yes place) = None
denial_by policies (No place field) = Some (denials.Policy (policy_name policies place) field)
denial_by policies Unbound = Some denials.Unbound

-- with no policies each request is allowed
abbrev pub denial_by_policies : List Policy → Wanted → Option Denial
denial_by_policies [] wanted = None
denial_by_policies (policy ∷ policies) wanted = denial_by (policy ∷ policies) (decision (policy ∷ policies) wanted)

-- a request that is read is denied for a refused name, and else by the policies
abbrev pub denial_of_wanted : Rules → Wanted → Option Denial
denial_of_wanted rules wanted = if has_refused_name rules.refuse wanted then Some denials.Refused else denial_by_policies rules.policies wanted

-- a request that is not readable is denied
abbrev pub denial_on : JudgeOrder → Option RequestFields → Option Denial
denial_on order None = Some denials.Unreadable
denial_on order (Some csr) = denial_of_wanted order.rules (wanted_of order.request csr)

-- why the request may not be approved: none where it may be
unfoldable pub denial_of : JudgeOrder → Option Denial
denial_of order = denial_on order (request_fields_at order.request.spec.request)

-- what contracts see of a judged question
pub record JudgedQuestion : Type 0 where
  pub order : JudgeOrder
  pub denial : Option Denial
