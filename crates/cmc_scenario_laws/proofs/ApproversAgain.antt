-- An approver that was read is printed as one that is read again.
use Rattle.std.proofs.Common.{◌≡◌, ℕ, ◌+◌, List, [], ◌∷◌, Ok, Option, Some, None, refl, map, drop, codes}
use Rattle.std.specs.List.{AllByRecursion}
use Rattle.serde_json.specs.Data.{Data, string, object, Members, no_members, member}
use Rattle.serde_json.specs.View.{items_of}
use Rattle.cmc_policy_rules.specs.declared.policy.Policy.{Policy}
use Rattle.cmc_objects.specs.declared.orders.Rules.{Rules}
use Rattle.cmc_cursor.specs.Members.{fields_at, optional_at, at_end}
use Rattle.cmc_cursor.specs.Readers.{texts_from, texts_at}
use Rattle.cmc_cursor.proofs.Always.{Always, so, next, after, below, further}
use Rattle.cmc_print.specs.Puts.{strings}
use Rattle.cmc_material.specs.Lists.{numbered_below, member_or}
use Rattle.cmc_material.specs.Approvers.{policy_at, policies_at, every_issuer, approver_at, default_approver}
use Rattle.cmc_scenario_print.specs.Defaults.{is_every_issuer}
use Rattle.cmc_scenario_print.specs.PolicyTrees.{policy_tree, policies_tree, approver_members}
use Rattle.cmc_codec.proofs.Slots.{slots, start, bind, next_is, some_list, put_list_is, some_object}
use Rattle.cmc_scenario_laws.specs.Policies.{AreTextual, HaveOctets, IsApproverReadAgain, IsPolicyReadAgain, HasAddressOctets}
use Rattle.cmc_scenario_laws.proofs.Members.{some_unless, put_unless_is, list_given, under_given, Again, numbered_below_again, list_again, list_so}
use Rattle.cmc_scenario_laws.proofs.PoliciesAgain.{IsReadable, policy_so, issuers_given}

abbrev Places : Type 0
Places = List (List ℕ × Option Data)

abbrev AreReadable : List Policy → Type 0
AreReadable policies = AllByRecursion IsReadable policies

both_so : (policies : List Policy) → AreTextual policies → HaveOctets policies → AreReadable policies
both_so [] texts octets = tt
both_so (p ∷ ps) texts octets = ((texts.0, octets.0), both_so ps texts.1 octets.1)

-- ---- texts

texts_listed : (n : ℕ) (ts : List (List ℕ)) → texts_from n (items_of (map string ts)) ≡ Ok ts
texts_listed n [] = refl
texts_listed n (t ∷ ts) = rw (texts_listed (n + 1) ts) refl

texts_again : (ts : List (List ℕ)) → texts_at (strings ts) ≡ Ok ts
texts_again ts = texts_listed 0 ts

-- ---- the approver

abbrev approver_places : Rules → Places
approver_places rules =
    (codes "issuers", some_unless (is_every_issuer rules.issuers) strings rules.issuers) ∷ (codes "policies", some_list policies_tree rules.policies) ∷ (codes "refuse", some_list strings rules.refuse) ∷ []

approver_printed : (rules : Rules) → approver_members rules ≡ slots (approver_places rules)
unfolding approver_members
approver_printed rules =
    let issuers = put_unless_is (is_every_issuer rules.issuers) strings (codes "issuers") rules.issuers (start {ss = (codes "issuers", None) ∷ (codes "policies", None) ∷ (codes "refuse", None) ∷ []} refl) refl in
    let policies = put_list_is policies_tree (codes "policies") rules.policies issuers refl in
    let refuse = put_list_is strings (codes "refuse") rules.refuse policies refl in
    refuse.same

approver_again : (rules : Rules) → member_or [] (codes "policies") policies_at (some_list policies_tree rules.policies) ≡ Ok rules.policies → approver_at (object (approver_members rules)) ≡ Ok rules
unfolding approver_at
approver_again rules given =
    let ps = approver_places rules in
    rw (approver_printed rules)
    (bind _ _ _ _ (next_is (codes "issuers") (some_unless (is_every_issuer rules.issuers) strings rules.issuers) (drop 1 ps) refl)
    (bind _ _ _ _ (issuers_given strings texts_at rules.issuers (texts_again rules.issuers))
    (bind _ _ _ _ (next_is (codes "policies") (some_list policies_tree rules.policies) (drop 2 ps) refl)
    (bind _ _ _ _ given
    (bind _ _ _ _ (next_is (codes "refuse") (some_list strings rules.refuse) [] refl)
    (bind _ _ _ _ (list_given texts_at strings (codes "refuse") rules.refuse (texts_again rules.refuse)) refl))))))

policies_so : (d : Data) → Always (Again AreReadable policies_at policies_tree) (policies_at d)
policies_so d = list_again IsReadable (numbered_below 100 policy_at) policy_tree (numbered_below_again IsReadable 100 policy_at policy_tree policy_so) d

abbrev ArePoliciesGiven : List Policy → Type 0
ArePoliciesGiven policies = AreReadable policies → member_or [] (codes "policies") policies_at (some_list policies_tree policies) ≡ Ok policies

abbrev pub IsApproverAgain : Rules → Type 0
IsApproverAgain rules = AreReadable rules.policies → approver_at (object (approver_members rules)) ≡ Ok rules

pub approver_so : (d : Data) → Always IsApproverAgain (approver_at d)
unfolding approver_at
approver_so d =
    next IsApproverAgain (fields_at d) _ (λ fs. next IsApproverAgain (optional_at (codes "issuers") fs) _ (λ first. next IsApproverAgain (member_or every_issuer (codes "issuers") texts_at first.0) _
    (λ issuers. next IsApproverAgain (optional_at (codes "policies") first.1) _ (λ second. after ArePoliciesGiven IsApproverAgain (member_or [] (codes "policies") policies_at second.0) _ (list_so IsReadable policies_at policy_tree (codes "policies") second.0 policies_so)
    (λ policies are_policies. next IsApproverAgain (optional_at (codes "refuse") second.1) _ (λ third. next IsApproverAgain (member_or [] (codes "refuse") texts_at third.0) _
    (λ refuse. next IsApproverAgain (at_end third.1) _ (λ end. so (λ readable. approver_again (record { issuers = issuers; refuse = refuse; policies = policies }) (are_policies readable))))))))))

-- ---- the member of a scenario

-- an approver without members is the default one
given_again : (rules : Rules) (ms : Members) → approver_at (object ms) ≡ Ok rules → member_or default_approver (codes "approver") approver_at (some_object ms) ≡ Ok rules
unfolding approver_at
given_again rules no_members again = again
given_again rules (member name d ms) again = under_given (codes "approver") (approver_at (object (member name d ms))) rules again

abbrev pub IsApproverGiven : Rules → Type 0
IsApproverGiven rules = AreTextual rules.policies → HaveOctets rules.policies → member_or default_approver (codes "approver") approver_at (some_object (approver_members rules)) ≡ Ok rules

default_again : IsApproverGiven default_approver
unfolding approver_members
default_again texts octets = refl

pub approver_given_so : (given : Option Data) → Always IsApproverGiven (member_or default_approver (codes "approver") approver_at given)
approver_given_so None = so default_again
approver_given_so (Some d) = below IsApproverGiven (codes "approver") (approver_at d) (further IsApproverAgain IsApproverGiven (approver_at d)
    (λ rules again texts octets. given_again rules (approver_members rules) (again (both_so rules.policies texts octets))) (approver_so d))

-- ---- the laws

pub policy_law : (p : Policy) → HasAddressOctets p → IsPolicyReadAgain p
policy_law p octets texts d read = (policy_so d).each p read (texts, octets)

pub approver_law : (rules : Rules) → HaveOctets rules.policies → IsApproverReadAgain rules
approver_law rules octets texts d read = (approver_so d).each rules read (both_so rules.policies texts octets)
