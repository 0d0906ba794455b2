-- What printing an approver with its policies and reading it make of each other.
use Rattle.std.specs.Prelude.{◌≡◌, ℕ, List, Ok, IfSome}
use Rattle.std.specs.List.{AllByRecursion}
use Rattle.std.specs.Str.{IsUtf8}
use Rattle.base64.specs.GeneralPurpose.{IsBytes}
use Rattle.serde_json.specs.Data.{Data, object}
use Rattle.cmc_policy_rules.specs.declared.policy.Policy.{Policy}
use Rattle.cmc_objects.specs.declared.orders.Rules.{Rules}
use Rattle.cmc_material.specs.Approvers.{approver_at, policy_at}
use Rattle.cmc_scenario_print.specs.PolicyTrees.{approver_members, policy_tree}

-- The patterns are UTF-8, as those of each text are.
abbrev pub AreTexts : List (List ℕ) → Type 0
AreTexts patterns = AllByRecursion IsUtf8 patterns

-- Each pattern of the policy that stands for a text is UTF-8.
pub record IsTextual (p : Policy) : Type 0 where
  pub name : IsUtf8 p.name
  pub issuers : AreTexts p.issuers
  pub common : IfSome p.common AreTexts
  pub dns : IfSome p.dns AreTexts
  pub emails : IfSome p.emails AreTexts
  pub uris : IfSome p.uris AreTexts
  pub usages : AreTexts p.usages

abbrev pub AreTextual : List Policy → Type 0
AreTextual policies = AllByRecursion IsTextual policies

-- Where the policy was read of some value, and its texts are UTF-8, what is printed of it is read as the same policy.
abbrev pub IsPolicyReadAgain : Policy → Type 0
IsPolicyReadAgain p = IsTextual p → (d : Data) → policy_at d ≡ Ok p → policy_at (policy_tree p) ≡ Ok p

-- The same of an approver with its policies.
abbrev pub IsApproverReadAgain : Rules → Type 0
IsApproverReadAgain rules =
    AreTextual rules.policies → (d : Data) → approver_at d ≡ Ok rules → approver_at (object (approver_members rules)) ≡ Ok rules

-- ---- what is so of each policy: the octets of its addresses are bytes

abbrev pub AreOctetLists : List (List ℕ) → Type 0
AreOctetLists patterns = AllByRecursion IsBytes patterns

abbrev pub HasAddressOctets : Policy → Type 0
HasAddressOctets p = IfSome p.ips AreOctetLists

abbrev pub HaveOctets : List Policy → Type 0
HaveOctets policies = AllByRecursion HasAddressOctets policies
