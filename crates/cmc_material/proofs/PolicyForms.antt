-- What is read of an approver has the form of a scenario.
use Rattle.std.proofs.Common.{◌≡◌, ℕ, ◌+◌, ◌-◌, ◌*◌, ◌≤◌, inl, inr, List, [], ◌∷◌, length, Bool, true, false, Ok, Err, Option, Some, None, refl, ap, ◌∙◌, codes, arith}
use Rattle.std.specs.Prelude.{if◌then◌else◌, nat_le, ◌&&◌, ◌||◌, ◌==◌, replicate}
use Rattle.std.specs.List.{list_all}
use Rattle.std.specs.Str.{bytes_eq}
use Rattle.std.specs.Net.Addr.{octets_of}
use Rattle.std.specs.Net.Grammar.{IsColonHex}
use Rattle.std.proofs.lemmas.Bool.Decides.{nat_tests}
use Rattle.std.proofs.lemmas.List.{length-append, length-replicate}
use Rattle.std.proofs.lemmas.Bool.{and_from}
use Rattle.serde_json.specs.Data.{Data}
use Rattle.cmc_policy_rules.specs.declared.policy.Policy.{Policy}
use Rattle.cmc_objects.specs.declared.orders.Rules.{Rules}
use Rattle.cmc_objects.specs.Requests.{is_duration_form}
use Rattle.cmc_time.specs.Durations.{longest, IsDuration}
use Rattle.cmc_time.specs.DurationTexts.{duration_seconds}
use Rattle.cmc_time.proofs.DurationLaws.{duration_found}
use Rattle.cmc_x509_build.specs.Addresses.{IsAddress, address_at}
use Rattle.cmc_x509_build.proofs.AddressLaws.{address_found}
use Rattle.cmc_setup.specs.Forms.{is_pattern_form, is_any_address, is_address_form, is_short_list, is_short_option, are_names_formed, is_policy_form, is_approver_form}
use Rattle.cmc_cursor.specs.Members.{under, Field, fields_at, optional_at, required_at, at_end}
use Rattle.cmc_cursor.specs.Readers.{found, text_at, texts_at, flag_at, small_count_at}
use Rattle.cmc_material.specs.declared.policy.Limits.{Limits}
use Rattle.cmc_material.specs.declared.policy.Named.{Named}
use Rattle.cmc_material.specs.Lists.{numbered_below, member_or, member_option}
use Rattle.cmc_material.specs.Approvers.{pattern_at, address_in, address_pattern_at, patterns_at, addresses_at, duration_at, is_rsa_at, named_in, limits_in, policy_of, policy_at, policies_at, every_issuer, approver_at, default_approver}
use Rattle.cmc_cursor.proofs.Always.{Always, so, failed, next, after, where_true, with_both, further}
use Rattle.cmc_material.proofs.ListForms.{of_member_or, of_member_option, of_numbered_below, of_list, of_short_list}

-- ---- patterns

abbrev IsPattern : List ℕ → Type 0
IsPattern pattern = is_pattern_form pattern ≡ true

of_pattern : (d : Data) → Always IsPattern (pattern_at d)
unfolding pattern_at
of_pattern d = next IsPattern (text_at d) (λ t. if is_pattern_form t then Ok t else Err []) (λ t. where_true IsPattern (is_pattern_form t) (Ok t) [] (λ e. so e))

abbrev ArePatterns : List (List ℕ) → Type 0
ArePatterns patterns = is_short_list is_pattern_form patterns ≡ true

of_patterns : (d : Data) → Always ArePatterns (patterns_at d)
of_patterns d =
    further (λ (xs : List (List ℕ)). (nat_le (length xs) 100 ≡ true) × (list_all is_pattern_form xs ≡ true)) ArePatterns (patterns_at d) (λ xs is. and_from (nat_le (length xs) 100) (list_all is_pattern_form xs) is.0 is.1)
    (with_both (λ (xs : List (List ℕ)). nat_le (length xs) 100 ≡ true) (λ xs. list_all is_pattern_form xs ≡ true) (patterns_at d)
    (of_short_list 100 pattern_at d) (of_list is_pattern_form (numbered_below 100 pattern_at) (of_numbered_below IsPattern 100 pattern_at of_pattern) d))

abbrev AreOptional : Option (List (List ℕ)) → Type 0
AreOptional patterns = is_short_option is_pattern_form patterns ≡ true

of_optional : (name : List ℕ) (given : Option Data) → Always AreOptional (member_option name patterns_at given)
of_optional name given = of_member_option ArePatterns AreOptional name patterns_at given refl (λ x is. is) of_patterns

-- ---- addresses

abbrev IsAddressForm : List ℕ → Type 0
IsAddressForm pattern = is_address_form pattern ≡ true

length_octets : (segments : List ℕ) → length (octets_of segments) ≡ 2 * length segments
length_octets [] = refl
length_octets (s ∷ segments) = omega (arith, length_octets segments)

eight_segments : (text segments : List ℕ) → IsColonHex text segments → length segments ≡ 8
eight_segments text segments (inl whole) = whole.1
eight_segments text segments (inr e) =
    let sizes : length segments ≡ (length e.head + length {A = ℕ} (replicate (8 - length e.head - length e.tail) 0)) + length e.tail = ap length e.value ∙ simp length-append in
    let zeros : length {A = ℕ} (replicate (8 - length e.head - length e.tail) 0) ≡ 8 - length e.head - length e.tail = length-replicate (8 - length e.head - length e.tail) 0 in
    omega (arith, sizes, zeros, e.room)

four : (p : List ℕ) → length p ≡ 4 → IsAddressForm p
four p is = rw is refl

sixteen : (p : List ℕ) → length p ≡ 16 → IsAddressForm p
sixteen p is = rw is refl

of_octets : (text octets : List ℕ) → IsAddress text octets → IsAddressForm octets
of_octets text octets (inl dotted) = four octets (ap length dotted.value)
of_octets text octets (inr colons) =
    let eight : length colons.0 ≡ 8 = eight_segments text colons.0 colons.1 in
    let size : length octets ≡ 16 = ap length colons.3 ∙ omega (arith, length_octets colons.0, eight) in
    sixteen octets size

any_address : (p : List ℕ) → is_any_address p ≡ true → IsAddressForm p
any_address p is = third (length p == 4) (length p == 16) (is_any_address p) is
  where
    third : (a b c : Bool) → c ≡ true → (a || (b || c)) ≡ true
    third true b c e = refl
    third false true c e = refl
    third false false c e = e

of_found : (text : List ℕ) (o : Option (List ℕ)) → address_at text ≡ o → Always IsAddressForm (found o)
of_found text None is = failed []
of_found text (Some octets) is = so (of_octets text octets (address_found text octets is))

of_address_text : (t : List ℕ) → Always IsAddressForm (address_in t)
of_address_text t = by_test (bytes_eq t (codes "*")) refl
  where
    by_test : (b : Bool) → bytes_eq t (codes "*") ≡ b → Always IsAddressForm (if b then Ok t else found (address_at t))
    by_test true is = so (any_address t is)
    by_test false is = of_found t (address_at t) refl

of_address : (d : Data) → Always IsAddressForm (address_pattern_at d)
unfolding address_pattern_at
of_address d = next IsAddressForm (text_at d) address_in of_address_text

abbrev AreAddresses : List (List ℕ) → Type 0
AreAddresses patterns = is_short_list is_address_form patterns ≡ true

of_addresses : (d : Data) → Always AreAddresses (addresses_at d)
of_addresses d =
    further (λ (xs : List (List ℕ)). (nat_le (length xs) 100 ≡ true) × (list_all is_address_form xs ≡ true)) AreAddresses (addresses_at d) (λ xs is. and_from (nat_le (length xs) 100) (list_all is_address_form xs) is.0 is.1)
    (with_both (λ (xs : List (List ℕ)). nat_le (length xs) 100 ≡ true) (λ xs. list_all is_address_form xs ≡ true) (addresses_at d)
    (of_short_list 100 address_pattern_at d) (of_list is_address_form (numbered_below 100 address_pattern_at) (of_numbered_below IsAddressForm 100 address_pattern_at of_address) d))

abbrev AreOptionalAddresses : Option (List (List ℕ)) → Type 0
AreOptionalAddresses patterns = is_short_option is_address_form patterns ≡ true

of_optional_addresses : (given : Option Data) → Always AreOptionalAddresses (member_option (codes "ipAddresses") addresses_at given)
of_optional_addresses given = of_member_option AreAddresses AreOptionalAddresses (codes "ipAddresses") addresses_at given refl (λ x is. is) of_addresses

-- ---- durations

abbrev IsDurationForm : Option ℕ → Type 0
IsDurationForm seconds = is_duration_form seconds ≡ true

is_no_longer : (n : ℕ) → n ≤ longest → nat_le n 3599999996400 ≡ true
is_no_longer n is = grind (arith, nat_tests)

within : (text : List ℕ) (n : ℕ) → IsDuration text n → n ≤ longest
within text n (inl none) = omega (arith, none.1)
within text n (inr parts) = parts.within

of_seconds : (text : List ℕ) (o : Option ℕ) → duration_seconds text ≡ o → Always (λ n. nat_le n 3599999996400 ≡ true) (found o)
of_seconds text None is = failed []
of_seconds text (Some n) is = so (is_no_longer n (within text n (duration_found text n is)))

of_duration : (name : List ℕ) (given : Option Data) → Always IsDurationForm (member_option name duration_at given)
of_duration name given = of_member_option (λ n. nat_le n 3599999996400 ≡ true) IsDurationForm name duration_at given refl (λ n is. is)
    (λ d. next (λ n. nat_le n 3599999996400 ≡ true) (text_at d) (λ t. found (duration_seconds t)) (λ t. of_seconds t (duration_seconds t) refl))

-- ---- policies

record AreNamed (named : Named) : Type 0 where
  common : AreOptional named.common
  dns : AreOptional named.dns
  emails : AreOptional named.emails
  ips : AreOptionalAddresses named.ips

abbrev IsNamed : Named × List Field → Type 0
IsNamed p = AreNamed p.0

of_named : (fs : List Field) → Always IsNamed (named_in fs)
unfolding named_in
of_named fs = next (IsNamed) (optional_at (codes "algorithm") fs) _ (λ first. next (IsNamed) (member_option (codes "algorithm") is_rsa_at first.0) _ (λ algorithm. next (IsNamed) (optional_at (codes "commonName") first.1) _ (λ second. after (AreOptional) (IsNamed) (member_option (codes "commonName") patterns_at second.0) _ (of_optional (codes "commonName") second.0) (λ common is_common. next (IsNamed) (optional_at (codes "dnsNames") second.1) _ (λ third. after (AreOptional) (IsNamed) (member_option (codes "dnsNames") patterns_at third.0) _ (of_optional (codes "dnsNames") third.0) (λ dns is_dns. next (IsNamed) (optional_at (codes "emailAddresses") third.1) _ (λ fourth. after (AreOptional) (IsNamed) (member_option (codes "emailAddresses") patterns_at fourth.0) _ (of_optional (codes "emailAddresses") fourth.0) (λ emails is_emails. next (IsNamed) (optional_at (codes "ipAddresses") fourth.1) _ (λ fifth. after (AreOptionalAddresses) (IsNamed) (member_option (codes "ipAddresses") addresses_at fifth.0) _ (of_optional_addresses fifth.0) (λ ips is_ips. so (record { common = is_common; dns = is_dns; emails = is_emails; ips = is_ips })))))))))))

record AreLimited (limits : Limits) : Type 0 where
  issuers : ArePatterns limits.issuers
  max : IsDurationForm limits.max
  min : IsDurationForm limits.min

abbrev IsLimited : Limits × List Field → Type 0
IsLimited p = AreLimited p.0

of_limits : (fs : List Field) → Always IsLimited (limits_in fs)
unfolding limits_in
of_limits fs = next (IsLimited) (optional_at (codes "isCA") fs) _ (λ first. next (IsLimited) (member_or false (codes "isCA") flag_at first.0) _ (λ ca. next (IsLimited) (optional_at (codes "issuers") first.1) _ (λ second. after (ArePatterns) (IsLimited) (member_or every_issuer (codes "issuers") patterns_at second.0) _ (of_member_or ArePatterns every_issuer (codes "issuers") patterns_at second.0 refl of_patterns) (λ issuers is_issuers. next (IsLimited) (optional_at (codes "maxDuration") second.1) _ (λ third. after (IsDurationForm) (IsLimited) (member_option (codes "maxDuration") duration_at third.0) _ (of_duration (codes "maxDuration") third.0) (λ max is_max. next (IsLimited) (optional_at (codes "maxSize") third.1) _ (λ fourth. next (IsLimited) (member_option (codes "maxSize") small_count_at fourth.0) _ (λ max_size. next (IsLimited) (optional_at (codes "minDuration") fourth.1) _ (λ fifth. after (IsDurationForm) (IsLimited) (member_option (codes "minDuration") duration_at fifth.0) _ (of_duration (codes "minDuration") fifth.0) (λ min is_min. next (IsLimited) (optional_at (codes "minSize") fifth.1) _ (λ sixth. next (IsLimited) (member_option (codes "minSize") small_count_at sixth.0) _ (λ min_size. so (record { issuers = is_issuers; max = is_max; min = is_min })))))))))))))

abbrev IsPolicy : Policy → Type 0
IsPolicy policy = is_policy_form policy ≡ true

all_five : (a b c d e : Bool) → a ≡ true → b ≡ true → c ≡ true → d ≡ true → e ≡ true → (a && (b && (c && (d && e)))) ≡ true
all_five a b c d e ia ib ic id ie = rw (ia, ib, ic, id, ie) refl

is_formed : (named : Named) (limits : Limits) (name : List ℕ) (uris : Option (List (List ℕ))) (usages : List (List ℕ)) → AreNamed named → AreLimited limits → AreOptional uris → ArePatterns usages
    → IsPolicy (policy_of named limits name uris usages)
is_formed named limits name uris usages is_named is_limited is_uris is_usages =
    let names : are_names_formed (policy_of named limits name uris usages) ≡ true = all_five (is_short_option is_pattern_form named.common) (is_short_option is_pattern_form named.dns) (is_short_option is_address_form named.ips) (is_short_option is_pattern_form uris) (is_short_option is_pattern_form named.emails) is_named.common is_named.dns is_named.ips is_uris is_named.emails in
    all_five (are_names_formed (policy_of named limits name uris usages)) (is_short_list is_pattern_form limits.issuers) (is_short_list is_pattern_form usages) (is_duration_form limits.min) (is_duration_form limits.max) names is_limited.issuers is_usages is_limited.min is_limited.max

of_policy : (d : Data) → Always IsPolicy (policy_at d)
unfolding policy_at
of_policy d = next (IsPolicy) (fields_at d) _ (λ fs. after (IsNamed) (IsPolicy) (named_in fs) _ (of_named fs) (λ named is_named. after (IsLimited) (IsPolicy) (limits_in named.1) _ (of_limits named.1) (λ limits is_limited. next (IsPolicy) (required_at (codes "name") limits.1) _ (λ given. next (IsPolicy) (under (codes "name") (text_at given.0)) _ (λ name. next (IsPolicy) (optional_at (codes "uris") given.1) _ (λ first. after (AreOptional) (IsPolicy) (member_option (codes "uris") patterns_at first.0) _ (of_optional (codes "uris") first.0) (λ uris is_uris. next (IsPolicy) (optional_at (codes "usages") first.1) _ (λ second. after (ArePatterns) (IsPolicy) (member_or [] (codes "usages") patterns_at second.0) _ (of_member_or ArePatterns [] (codes "usages") patterns_at second.0 refl of_patterns) (λ usages is_usages. next (IsPolicy) (at_end second.1) _ (λ end. so (is_formed named.0 limits.0 name uris usages is_named is_limited is_uris is_usages)))))))))))

abbrev ArePolicies : List Policy → Type 0
ArePolicies policies = (nat_le (length policies) 100 && list_all is_policy_form policies) ≡ true

of_policies : (d : Data) → Always ArePolicies (policies_at d)
of_policies d =
    further (λ (xs : List Policy). (nat_le (length xs) 100 ≡ true) × (list_all is_policy_form xs ≡ true)) ArePolicies (policies_at d) (λ xs is. and_from (nat_le (length xs) 100) (list_all is_policy_form xs) is.0 is.1)
    (with_both (λ (xs : List Policy). nat_le (length xs) 100 ≡ true) (λ xs. list_all is_policy_form xs ≡ true) (policies_at d)
    (of_short_list 100 policy_at d) (of_list is_policy_form (numbered_below 100 policy_at) (of_numbered_below IsPolicy 100 policy_at of_policy) d))

-- ---- the approver

abbrev pub IsApprover : Rules → Type 0
IsApprover rules = is_approver_form rules ≡ true

of_rules : (d : Data) → Always IsApprover (approver_at d)
unfolding approver_at
of_rules d = next (IsApprover) (fields_at d) _ (λ fs. next (IsApprover) (optional_at (codes "issuers") fs) _ (λ first. next (IsApprover) (member_or every_issuer (codes "issuers") texts_at first.0) _ (λ issuers. next (IsApprover) (optional_at (codes "policies") first.1) _ (λ second. after (ArePolicies) (IsApprover) (member_or [] (codes "policies") policies_at second.0) _ (of_member_or ArePolicies [] (codes "policies") policies_at second.0 refl of_policies) (λ policies formed. next (IsApprover) (optional_at (codes "refuse") second.1) _ (λ third. next (IsApprover) (member_or [] (codes "refuse") texts_at third.0) _ (λ refuse. next (IsApprover) (at_end third.1) _ (λ end. so formed))))))))

pub of_approver : (given : Option Data) → Always IsApprover (member_or default_approver (codes "approver") approver_at given)
of_approver given = of_member_or IsApprover default_approver (codes "approver") approver_at given refl of_rules
