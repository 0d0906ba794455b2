-- The approver of a scenario as JSON, and its policies.
use Rattle.std.specs.Prelude.{ℕ, List, length, Bool, ◌==◌, if◌then◌else◌, codes, map}
use Rattle.std.specs.Net.Addr.{segments_of}
use Rattle.std.specs.Net.Text.{ipv4_text, hex_groups_text}
use Rattle.std.specs.Str.Lossy.{utf8_lossy}
use Rattle.serde_json.specs.Data.{Data, string, array, object, Members, no_members, put}
use Rattle.serde_json.specs.View.{items_of}
use Rattle.cmc_policy_rules.specs.declared.policy.Policy.{Policy}
use Rattle.cmc_objects.specs.declared.orders.Rules.{Rules}
use Rattle.cmc_print.specs.Trees.{natural}
use Rattle.cmc_print.specs.Puts.{put_option, put_list, put_true, strings}
use Rattle.cmc_print.specs.Printed.{duration_tree}
use Rattle.cmc_scenario_print.specs.Defaults.{put_unless, is_every_issuer}

-- ---- patterns

-- A pattern is written as a text; what is no UTF-8 in it is replaced.
abbrev pub pattern_tree : List ℕ → Data
pattern_tree pattern = string (utf8_lossy pattern)

abbrev pub patterns_tree : List (List ℕ) → Data
patterns_tree patterns = array (items_of (map pattern_tree patterns))

-- Four octets are written as an IPv4 address, sixteen as an IPv6 address in lower-case groups, with the longest run of zeros as `::` (RFC 5952, 4)
-- and never with an IPv4 address at its end. The pattern for all addresses is a text.
abbrev pub address_text : List ℕ → List ℕ
address_text pattern = if length pattern == 4 then ipv4_text pattern
    else (if length pattern == 16 then hex_groups_text (segments_of pattern) else utf8_lossy pattern)

abbrev pub address_tree : List ℕ → Data
address_tree pattern = string (address_text pattern)

abbrev pub addresses_tree : List (List ℕ) → Data
addresses_tree patterns = array (items_of (map address_tree patterns))

-- ---- policies

abbrev pub algorithm_text : Bool → List ℕ
algorithm_text is_rsa = if is_rsa then codes "RSA" else codes "ECDSA"

abbrev pub key_algorithm_tree : Bool → Data
key_algorithm_tree is_rsa = string (algorithm_text is_rsa)

-- What keys and which names a request may ask for.
unfoldable pub put_allowed_names : Policy → Members → Members
put_allowed_names p ms =
    put_option addresses_tree (codes "ipAddresses") p.ips
    (put_option patterns_tree (codes "emailAddresses") p.emails
    (put_option patterns_tree (codes "dnsNames") p.dns
    (put_option patterns_tree (codes "commonName") p.common
    (put_option key_algorithm_tree (codes "algorithm") p.algorithm ms))))

-- Whose requests the policy is for, and in which bounds durations and sizes lie.
unfoldable pub put_limits : Policy → Members → Members
put_limits p ms =
    put_option natural (codes "minSize") p.min_size
    (put_option duration_tree (codes "minDuration") p.min
    (put_option natural (codes "maxSize") p.max_size
    (put_option duration_tree (codes "maxDuration") p.max
    (put_unless (is_every_issuer p.issuers) patterns_tree (codes "issuers") p.issuers
    (put_true (codes "isCA") p.ca ms)))))

unfoldable pub policy_tree : Policy → Data
policy_tree p = object
    (put_list patterns_tree (codes "usages") p.usages
    (put_option patterns_tree (codes "uris") p.uris
    (put (codes "name") (pattern_tree p.name)
    (put_limits p
    (put_allowed_names p no_members)))))

abbrev pub policies_tree : List Policy → Data
policies_tree policies = array (items_of (map policy_tree policies))

-- ---- the approver

unfoldable pub approver_members : Rules → Members
approver_members rules =
    put_list strings (codes "refuse") rules.refuse
    (put_list policies_tree (codes "policies") rules.policies
    (put_unless (is_every_issuer rules.issuers) strings (codes "issuers") rules.issuers no_members))
