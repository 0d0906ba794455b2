-- A policy that was read is printed as one that is read again.
use Rattle.std.proofs.Common.{◌≡◌, ℕ, List, [], ◌∷◌, Bool, true, false, Ok, Option, Some, None, refl, ap, drop, codes}
use Rattle.std.specs.Prelude.{IfSome}
use Rattle.std.specs.Str.{IsUtf8}
use Rattle.std.proofs.lemmas.Slice.Eq.{bytes_eq-Decides}
use Rattle.std.proofs.lemmas.Str.{utf8_lossy-IsUtf8}
use Rattle.base64.specs.GeneralPurpose.{IsBytes}
use Rattle.serde_json.specs.Data.{Data, object}
use Rattle.cmc_policy_rules.specs.declared.policy.Policy.{Policy}
use Rattle.cmc_setup.specs.Forms.{is_pattern_form}
use Rattle.cmc_cursor.specs.Members.{Read, ◌>>=◌, under, Field, fields_of, fields_at, optional_at, required_at, at_end}
use Rattle.cmc_cursor.specs.Readers.{text_at, flag_at, small_count_at}
use Rattle.cmc_cursor.proofs.Always.{Always, so, next, after, below, further, where_true}
use Rattle.cmc_print.specs.Trees.{natural}
use Rattle.cmc_print.specs.Printed.{duration_tree}
use Rattle.cmc_material.specs.Lists.{numbered_below, member_or, member_option}
use Rattle.cmc_material.specs.Approvers.{pattern_at, address_pattern_at, patterns_at, addresses_at, duration_at, is_rsa_at, named_in, limits_in, policy_of, policy_at}
use Rattle.cmc_material.specs.declared.policy.Limits.{Limits}
use Rattle.cmc_material.specs.declared.policy.Named.{Named}
use Rattle.cmc_scenario_print.specs.Defaults.{is_every_issuer}
use Rattle.cmc_scenario_print.specs.PolicyTrees.{pattern_tree, patterns_tree, address_tree, addresses_tree, key_algorithm_tree, put_allowed_names, put_limits, policy_tree}
use Rattle.cmc_codec.proofs.Slots.{slots, start, bind, next_is, required_is, put_is, some_option, put_option_is, some_list, put_list_is, some_true, put_true_is}
use Rattle.cmc_codec.proofs.ValuesAgain.{duration_is_again, small_count_again}
use Rattle.cmc_scenario_laws.specs.Policies.{AreTexts, AreOctetLists, HasAddressOctets, IsTextual}
use Rattle.cmc_scenario_laws.proofs.Addresses.{address_pattern_so}
use Rattle.cmc_scenario_laws.proofs.Members.{some_unless, put_unless_is, option_given, true_given, under_given, option_so, Again, numbered_below_again, list_again, list_so}

abbrev Places : Type 0
Places = List (List ℕ × Option Data)

-- ---- patterns

abbrev IsPatternAgain : List ℕ → Type 0
IsPatternAgain = Again IsUtf8 pattern_at pattern_tree

pattern_so : (d : Data) → Always IsPatternAgain (pattern_at d)
unfolding pattern_at
pattern_so d = next IsPatternAgain (text_at d) _ (λ t. where_true IsPatternAgain (is_pattern_form t) (Ok t) [] (λ h. so (λ text. rw (utf8_lossy-IsUtf8 t text, h) refl)))

abbrev ArePatternsAgain : List (List ℕ) → Type 0
ArePatternsAgain = Again AreTexts patterns_at patterns_tree

pub patterns_so : (d : Data) → Always ArePatternsAgain (patterns_at d)
patterns_so d = list_again IsUtf8 (numbered_below 100 pattern_at) pattern_tree (numbered_below_again IsUtf8 100 pattern_at pattern_tree pattern_so) d

abbrev AreAddressesAgain : List (List ℕ) → Type 0
AreAddressesAgain = Again AreOctetLists addresses_at addresses_tree

addresses_so : (d : Data) → Always AreAddressesAgain (addresses_at d)
addresses_so d = list_again IsBytes (numbered_below 100 address_pattern_at) address_tree (numbered_below_again IsBytes 100 address_pattern_at address_tree address_pattern_so) d

-- what stands under a name is read again, if what Q says is so of it
given_again : {A : Type 0} (Q : A → Type 0) (read : Data → Read A) (tree : A → Data) (n : List ℕ) (o : Option A) → IfSome o (Again Q read tree) → IfSome o Q → member_option n read (some_option tree o) ≡ Ok o
given_again Q read tree n None again q = refl
given_again Q read tree n (Some x) again q = rw (again q) refl

-- ---- all issuers

abbrev every : List (List ℕ)
every = codes "*" ∷ []

pub every_is : (issuers : List (List ℕ)) → is_every_issuer issuers ≡ true → issuers ≡ every
every_is [] h = cc
every_is (issuer ∷ []) h = ap (λ (x : List ℕ). x ∷ []) ((bytes_eq-Decides issuer (codes "*")).0 h)
every_is (issuer ∷ other ∷ issuers) h = cc

abbrev IsGivenIssuers : (List (List ℕ) → Data) → (Data → Read (List (List ℕ))) → List (List ℕ) → Type 0
IsGivenIssuers tree read issuers = member_or every (codes "issuers") read (some_unless (is_every_issuer issuers) tree issuers) ≡ Ok issuers

pub issuers_given : (tree : List (List ℕ) → Data) (read : Data → Read (List (List ℕ))) (issuers : List (List ℕ)) → read (tree issuers) ≡ Ok issuers → IsGivenIssuers tree read issuers
issuers_given tree read issuers again = by_test (is_every_issuer issuers) refl
  where
    by_test : (b : Bool) → is_every_issuer issuers ≡ b → member_or every (codes "issuers") read (some_unless b tree issuers) ≡ Ok issuers
    by_test true e = rw (every_is issuers e) refl
    by_test false e = rw again refl

abbrev AreIssuersAgain : List (List ℕ) → Type 0
AreIssuersAgain issuers = AreTexts issuers → IsGivenIssuers patterns_tree patterns_at issuers

issuers_so : (given : Option Data) → Always AreIssuersAgain (member_or every (codes "issuers") patterns_at given)
issuers_so None = so (λ texts. refl)
issuers_so (Some d) = below AreIssuersAgain (codes "issuers") (patterns_at d) (further ArePatternsAgain AreIssuersAgain (patterns_at d) (λ issuers again texts. issuers_given patterns_tree patterns_at issuers (again texts)) (patterns_so d))

-- ---- what was read of the members

abbrev IsSeconds : ℕ → Type 0
IsSeconds n = duration_at (duration_tree n) ≡ Ok n

seconds_so : (d : Data) → Always IsSeconds (duration_at d)
seconds_so d = duration_is_again d

abbrev IsSize : ℕ → Type 0
IsSize n = small_count_at (natural n) ≡ Ok n

each_rsa : (o : Option Bool) → IfSome o (λ is_rsa. is_rsa_at (key_algorithm_tree is_rsa) ≡ Ok is_rsa)
each_rsa None = tt
each_rsa (Some true) = refl
each_rsa (Some false) = refl

record IsNamed (p : Named × List Field) : Type 0 where
  common : IfSome p.0.common ArePatternsAgain
  dns : IfSome p.0.dns ArePatternsAgain
  emails : IfSome p.0.emails ArePatternsAgain
  ips : IfSome p.0.ips AreAddressesAgain

named_so : (fs : List Field) → Always IsNamed (named_in fs)
unfolding named_in
named_so fs =
    next IsNamed (optional_at (codes "algorithm") fs) _ (λ first. next IsNamed (member_option (codes "algorithm") is_rsa_at first.0) _
    (λ algorithm. next IsNamed (optional_at (codes "commonName") first.1) _ (λ second. after (λ o. IfSome o ArePatternsAgain) IsNamed (member_option (codes "commonName") patterns_at second.0) _ (option_so ArePatternsAgain (codes "commonName") patterns_at second.0 patterns_so)
    (λ common is_common. next IsNamed (optional_at (codes "dnsNames") second.1) _ (λ third. after (λ o. IfSome o ArePatternsAgain) IsNamed (member_option (codes "dnsNames") patterns_at third.0) _ (option_so ArePatternsAgain (codes "dnsNames") patterns_at third.0 patterns_so)
    (λ dns is_dns. next IsNamed (optional_at (codes "emailAddresses") third.1) _ (λ fourth. after (λ o. IfSome o ArePatternsAgain) IsNamed (member_option (codes "emailAddresses") patterns_at fourth.0) _ (option_so ArePatternsAgain (codes "emailAddresses") patterns_at fourth.0 patterns_so)
    (λ emails is_emails. next IsNamed (optional_at (codes "ipAddresses") fourth.1) _ (λ fifth. after (λ o. IfSome o AreAddressesAgain) IsNamed (member_option (codes "ipAddresses") addresses_at fifth.0) _ (option_so AreAddressesAgain (codes "ipAddresses") addresses_at fifth.0 addresses_so)
    (λ ips is_ips. so (record { common = is_common; dns = is_dns; emails = is_emails; ips = is_ips })))))))))))

record AreLimits (p : Limits × List Field) : Type 0 where
  issuers : AreIssuersAgain p.0.issuers
  max : IfSome p.0.max IsSeconds
  max_size : IfSome p.0.max_size IsSize
  min : IfSome p.0.min IsSeconds
  min_size : IfSome p.0.min_size IsSize

limits_so : (fs : List Field) → Always AreLimits (limits_in fs)
unfolding limits_in
limits_so fs =
    next AreLimits (optional_at (codes "isCA") fs) _ (λ first. next AreLimits (member_or false (codes "isCA") flag_at first.0) _
    (λ ca. next AreLimits (optional_at (codes "issuers") first.1) _ (λ second. after AreIssuersAgain AreLimits (member_or every (codes "issuers") patterns_at second.0) _ (issuers_so second.0)
    (λ issuers are_issuers. next AreLimits (optional_at (codes "maxDuration") second.1) _ (λ third. after (λ o. IfSome o IsSeconds) AreLimits (member_option (codes "maxDuration") duration_at third.0) _ (option_so IsSeconds (codes "maxDuration") duration_at third.0 seconds_so)
    (λ max is_max. next AreLimits (optional_at (codes "maxSize") third.1) _ (λ fourth. after (λ o. IfSome o IsSize) AreLimits (member_option (codes "maxSize") small_count_at fourth.0) _ (option_so IsSize (codes "maxSize") small_count_at fourth.0 small_count_again)
    (λ max_size is_max_size. next AreLimits (optional_at (codes "minDuration") fourth.1) _ (λ fifth. after (λ o. IfSome o IsSeconds) AreLimits (member_option (codes "minDuration") duration_at fifth.0) _ (option_so IsSeconds (codes "minDuration") duration_at fifth.0 seconds_so)
    (λ min is_min. next AreLimits (optional_at (codes "minSize") fifth.1) _ (λ sixth. after (λ o. IfSome o IsSize) AreLimits (member_option (codes "minSize") small_count_at sixth.0) _ (option_so IsSize (codes "minSize") small_count_at sixth.0 small_count_again)
    (λ min_size is_min_size. so (record { issuers = are_issuers; max = is_max; max_size = is_max_size; min = is_min; min_size = is_min_size })))))))))))))

-- ---- what is printed

abbrev blank_places : Places
blank_places =
    (codes "algorithm", None) ∷ (codes "commonName", None) ∷ (codes "dnsNames", None) ∷ (codes "emailAddresses", None) ∷ (codes "ipAddresses", None) ∷ (codes "isCA", None) ∷ (codes "issuers", None)
    ∷ (codes "maxDuration", None) ∷ (codes "maxSize", None) ∷ (codes "minDuration", None) ∷ (codes "minSize", None) ∷ (codes "name", None) ∷ (codes "uris", None) ∷ (codes "usages", None) ∷ []

abbrev policy_places : Policy → Places
policy_places p =
    (codes "algorithm", some_option key_algorithm_tree p.algorithm) ∷ (codes "commonName", some_option patterns_tree p.common) ∷ (codes "dnsNames", some_option patterns_tree p.dns)
    ∷ (codes "emailAddresses", some_option patterns_tree p.emails) ∷ (codes "ipAddresses", some_option addresses_tree p.ips) ∷ (codes "isCA", some_true p.ca)
    ∷ (codes "issuers", some_unless (is_every_issuer p.issuers) patterns_tree p.issuers) ∷ (codes "maxDuration", some_option duration_tree p.max) ∷ (codes "maxSize", some_option natural p.max_size)
    ∷ (codes "minDuration", some_option duration_tree p.min) ∷ (codes "minSize", some_option natural p.min_size) ∷ (codes "name", Some (pattern_tree p.name))
    ∷ (codes "uris", some_option patterns_tree p.uris) ∷ (codes "usages", some_list patterns_tree p.usages) ∷ []

policy_printed : (p : Policy) → policy_tree p ≡ object (slots (policy_places p))
unfolding policy_tree put_limits put_allowed_names
policy_printed p =
    let algorithm = put_option_is key_algorithm_tree (codes "algorithm") p.algorithm (start {ss = blank_places} refl) refl in
    let common = put_option_is patterns_tree (codes "commonName") p.common algorithm refl in
    let dns = put_option_is patterns_tree (codes "dnsNames") p.dns common refl in
    let emails = put_option_is patterns_tree (codes "emailAddresses") p.emails dns refl in
    let ips = put_option_is addresses_tree (codes "ipAddresses") p.ips emails refl in
    let ca = put_true_is (codes "isCA") p.ca ips refl in
    let issuers = put_unless_is (is_every_issuer p.issuers) patterns_tree (codes "issuers") p.issuers ca refl in
    let max = put_option_is duration_tree (codes "maxDuration") p.max issuers refl in
    let max_size = put_option_is natural (codes "maxSize") p.max_size max refl in
    let min = put_option_is duration_tree (codes "minDuration") p.min max_size refl in
    let min_size = put_option_is natural (codes "minSize") p.min_size min refl in
    let name = put_is (codes "name") (pattern_tree p.name) min_size refl in
    let uris = put_option_is patterns_tree (codes "uris") p.uris name refl in
    let usages = put_list_is patterns_tree (codes "usages") p.usages uris refl in
    ap object usages.same

-- ---- what is read of the print

record IsGiven (p : Policy) : Type 0 where
  common : member_option (codes "commonName") patterns_at (some_option patterns_tree p.common) ≡ Ok p.common
  dns : member_option (codes "dnsNames") patterns_at (some_option patterns_tree p.dns) ≡ Ok p.dns
  emails : member_option (codes "emailAddresses") patterns_at (some_option patterns_tree p.emails) ≡ Ok p.emails
  ips : member_option (codes "ipAddresses") addresses_at (some_option addresses_tree p.ips) ≡ Ok p.ips
  issuers : IsGivenIssuers patterns_tree patterns_at p.issuers
  max : IfSome p.max IsSeconds
  max_size : IfSome p.max_size IsSize
  min : IfSome p.min IsSeconds
  min_size : IfSome p.min_size IsSize
  name : text_at (pattern_tree p.name) ≡ Ok p.name
  uris : member_option (codes "uris") patterns_at (some_option patterns_tree p.uris) ≡ Ok p.uris
  usages : member_or [] (codes "usages") patterns_at (some_list patterns_tree p.usages) ≡ Ok p.usages

abbrev names_of : Policy → Named
names_of p = record { algorithm = p.algorithm; common = p.common; dns = p.dns; emails = p.emails; ips = p.ips }

abbrev limits_of : Policy → Limits
limits_of p = record { ca = p.ca; issuers = p.issuers; max = p.max; max_size = p.max_size; min = p.min; min_size = p.min_size }

named_again : (p : Policy) → IsGiven p → named_in (fields_of (slots (policy_places p))) ≡ Ok (names_of p, fields_of (slots (drop 5 (policy_places p))))
unfolding named_in
named_again p given =
    let ps = policy_places p in
    (bind _ _ _ _ (next_is (codes "algorithm") (some_option key_algorithm_tree p.algorithm) (drop 1 ps) refl)
    (bind _ _ _ _ (option_given is_rsa_at key_algorithm_tree (codes "algorithm") p.algorithm (each_rsa p.algorithm))
    (bind _ _ _ _ (next_is (codes "commonName") (some_option patterns_tree p.common) (drop 2 ps) refl)
    (bind _ _ _ _ given.common
    (bind _ _ _ _ (next_is (codes "dnsNames") (some_option patterns_tree p.dns) (drop 3 ps) refl)
    (bind _ _ _ _ given.dns
    (bind _ _ _ _ (next_is (codes "emailAddresses") (some_option patterns_tree p.emails) (drop 4 ps) refl)
    (bind _ _ _ _ given.emails
    (bind _ _ _ _ (next_is (codes "ipAddresses") (some_option addresses_tree p.ips) (drop 5 ps) refl)
    (bind _ _ _ _ given.ips refl))))))))))

limits_again : (p : Policy) → IsGiven p → limits_in (fields_of (slots (drop 5 (policy_places p)))) ≡ Ok (limits_of p, fields_of (slots (drop 11 (policy_places p))))
unfolding limits_in
limits_again p given =
    let ps = policy_places p in
    (bind _ _ _ _ (next_is (codes "isCA") (some_true p.ca) (drop 6 ps) refl)
    (bind _ _ _ _ (true_given (codes "isCA") p.ca)
    (bind _ _ _ _ (next_is (codes "issuers") (some_unless (is_every_issuer p.issuers) patterns_tree p.issuers) (drop 7 ps) refl)
    (bind _ _ _ _ given.issuers
    (bind _ _ _ _ (next_is (codes "maxDuration") (some_option duration_tree p.max) (drop 8 ps) refl)
    (bind _ _ _ _ (option_given duration_at duration_tree (codes "maxDuration") p.max given.max)
    (bind _ _ _ _ (next_is (codes "maxSize") (some_option natural p.max_size) (drop 9 ps) refl)
    (bind _ _ _ _ (option_given small_count_at natural (codes "maxSize") p.max_size given.max_size)
    (bind _ _ _ _ (next_is (codes "minDuration") (some_option duration_tree p.min) (drop 10 ps) refl)
    (bind _ _ _ _ (option_given duration_at duration_tree (codes "minDuration") p.min given.min)
    (bind _ _ _ _ (next_is (codes "minSize") (some_option natural p.min_size) (drop 11 ps) refl)
    (bind _ _ _ _ (option_given small_count_at natural (codes "minSize") p.min_size given.min_size) refl))))))))))))

-- the members behind the name
abbrev last_in : Policy → List Field → List ℕ → Read Policy
last_in p fs name = do
  first ← optional_at (codes "uris") fs
  uris ← member_option (codes "uris") patterns_at first.0
  second ← optional_at (codes "usages") first.1
  usages ← member_or [] (codes "usages") patterns_at second.0
  end ← at_end second.1
  Ok (policy_of (names_of p) (limits_of p) name uris usages)

last_again : (p : Policy) → IsGiven p → last_in p (fields_of (slots (drop 12 (policy_places p)))) p.name ≡ Ok p
last_again p given =
    let ps = policy_places p in
    (bind _ _ _ _ (next_is (codes "uris") (some_option patterns_tree p.uris) (drop 13 ps) refl)
    (bind _ _ _ _ given.uris
    (bind _ _ _ _ (next_is (codes "usages") (some_list patterns_tree p.usages) [] refl)
    (bind _ _ _ _ given.usages refl))))

policy_again : (p : Policy) → IsGiven p → policy_at (policy_tree p) ≡ Ok p
unfolding policy_at
policy_again p given =
    let ps = policy_places p in
    rw (policy_printed p)
    (bind _ _ _ _ (named_again p given)
    (bind _ _ _ _ (limits_again p given)
    (bind _ _ _ _ (required_is (codes "name") (pattern_tree p.name) (drop 12 ps) refl)
    (bind (under (codes "name") (text_at (pattern_tree p.name))) p.name (last_in p (fields_of (slots (drop 12 ps)))) (Ok p) (under_given (codes "name") (text_at (pattern_tree p.name)) p.name given.name) (last_again p given)))))

-- ---- policies that were read

abbrev pub IsReadable : Policy → Type 0
IsReadable p = IsTextual p × HasAddressOctets p

abbrev pub IsPolicyAgain : Policy → Type 0
IsPolicyAgain = Again IsReadable policy_at policy_tree

abbrev AreUsagesAgain : List (List ℕ) → Type 0
AreUsagesAgain usages = AreTexts usages → member_or [] (codes "usages") patterns_at (some_list patterns_tree usages) ≡ Ok usages

name_again : (name : List ℕ) → IsUtf8 name → text_at (pattern_tree name) ≡ Ok name
name_again name text = rw (utf8_lossy-IsUtf8 name text) refl

given_of : (named : Named × List Field) (limits : Limits × List Field) (name : List ℕ) (uris : Option (List (List ℕ))) (usages : List (List ℕ)) → IsNamed named → AreLimits limits → IfSome uris ArePatternsAgain → AreUsagesAgain usages
    → IsReadable (policy_of named.0 limits.0 name uris usages) → IsGiven (policy_of named.0 limits.0 name uris usages)
given_of named limits name uris usages is_named are_limits are_uris are_usages readable = record {
  common = given_again AreTexts patterns_at patterns_tree (codes "commonName") named.0.common is_named.common readable.0.common;
  dns = given_again AreTexts patterns_at patterns_tree (codes "dnsNames") named.0.dns is_named.dns readable.0.dns;
  emails = given_again AreTexts patterns_at patterns_tree (codes "emailAddresses") named.0.emails is_named.emails readable.0.emails;
  ips = given_again AreOctetLists addresses_at addresses_tree (codes "ipAddresses") named.0.ips is_named.ips readable.1;
  issuers = are_limits.issuers readable.0.issuers;
  max = are_limits.max;
  max_size = are_limits.max_size;
  min = are_limits.min;
  min_size = are_limits.min_size;
  name = name_again name readable.0.name;
  uris = given_again AreTexts patterns_at patterns_tree (codes "uris") uris are_uris readable.0.uris;
  usages = are_usages readable.0.usages;
}

pub policy_so : (d : Data) → Always IsPolicyAgain (policy_at d)
unfolding policy_at
policy_so d =
    next IsPolicyAgain (fields_at d) _ (λ fs. after IsNamed IsPolicyAgain (named_in fs) _ (named_so fs)
    (λ named is_named. after AreLimits IsPolicyAgain (limits_in named.1) _ (limits_so named.1)
    (λ limits are_limits. next IsPolicyAgain (required_at (codes "name") limits.1) _
    (λ given. next IsPolicyAgain (under (codes "name") (text_at given.0)) _
    (λ name. next IsPolicyAgain (optional_at (codes "uris") given.1) _ (λ first. after (λ o. IfSome o ArePatternsAgain) IsPolicyAgain (member_option (codes "uris") patterns_at first.0) _ (option_so ArePatternsAgain (codes "uris") patterns_at first.0 patterns_so)
    (λ uris are_uris. next IsPolicyAgain (optional_at (codes "usages") first.1) _ (λ second. after AreUsagesAgain IsPolicyAgain (member_or [] (codes "usages") patterns_at second.0) _ (list_so IsUtf8 patterns_at pattern_tree (codes "usages") second.0 patterns_so)
    (λ usages are_usages. next IsPolicyAgain (at_end second.1) _
    (λ end. so (λ readable. policy_again (policy_of named.0 limits.0 name uris usages) (given_of named limits name uris usages is_named are_limits are_uris are_usages readable))))))))))))
