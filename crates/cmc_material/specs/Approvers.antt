-- What a scenario says of its approver: a profile of approver-policy's CertificateRequestPolicy.
use Rattle.std.specs.Prelude.{ℕ, Bool, true, false, List, [], ◌∷◌, codes, if◌then◌else◌, Ok, Err}
use Rattle.std.specs.declared.option.Option.{Option}
use Rattle.std.specs.Str.{bytes_eq}
use Rattle.serde_json.specs.Data.{Data}
use Rattle.cmc_policy_rules.specs.declared.policy.Policy.{Policy}
use Rattle.cmc_objects.specs.declared.orders.Rules.{Rules}
use Rattle.cmc_time.specs.DurationTexts.{duration_seconds}
use Rattle.cmc_x509_build.specs.Addresses.{address_at}
use Rattle.cmc_cursor.specs.Members.{Read, ◌>>=◌, under, Field, fields_at, optional_at, required_at, at_end}
use Rattle.cmc_cursor.specs.Readers.{found, text_at, texts_at, flag_at, small_count_at}
use Rattle.cmc_material.specs.Lists.{numbered_below, list_at, member_or, member_option}
use Rattle.cmc_material.specs.declared.policy.Limits.{Limits}
use Rattle.cmc_material.specs.declared.policy.Named.{Named}
use Rattle.cmc_setup.specs.Forms.{is_pattern_form}

-- ---- single values

-- A pattern of 1 to 253 bytes.
unfoldable pub pattern_at : Data → Read (List ℕ)
pattern_at d = text_at d >>= (λ t. if is_pattern_form t then Ok t else Err [])

-- The octets of an IP address, or `*` for all addresses.
abbrev pub address_in : List ℕ → Read (List ℕ)
address_in t = if bytes_eq t (codes "*") then Ok t else found (address_at t)

unfoldable pub address_pattern_at : Data → Read (List ℕ)
address_pattern_at d = text_at d >>= address_in

-- Lists have at most 100 items.
abbrev pub patterns_at : Data → Read (List (List ℕ))
patterns_at d = list_at (numbered_below 100 pattern_at) d

abbrev pub addresses_at : Data → Read (List (List ℕ))
addresses_at d = list_at (numbered_below 100 address_pattern_at) d

abbrev pub duration_at : Data → Read ℕ
duration_at d = text_at d >>= (λ t. found (duration_seconds t))

-- RSA or not.
abbrev pub is_rsa_in : List ℕ → Read Bool
is_rsa_in t = if bytes_eq t (codes "RSA") then Ok true else (if bytes_eq t (codes "ECDSA") then Ok false else Err [])

abbrev pub is_rsa_at : Data → Read Bool
is_rsa_at d = text_at d >>= is_rsa_in

-- ---- policies

-- Its members up to the addresses.
unfoldable pub named_in : List Field → Read (Named × List Field)
named_in fs = do
  first ← optional_at (codes "algorithm") fs
  algorithm ← member_option (codes "algorithm") is_rsa_at first.0
  second ← optional_at (codes "commonName") first.1
  common ← member_option (codes "commonName") patterns_at second.0
  third ← optional_at (codes "dnsNames") second.1
  dns ← member_option (codes "dnsNames") patterns_at third.0
  fourth ← optional_at (codes "emailAddresses") third.1
  emails ← member_option (codes "emailAddresses") patterns_at fourth.0
  fifth ← optional_at (codes "ipAddresses") fourth.1
  ips ← member_option (codes "ipAddresses") addresses_at fifth.0
  Ok (record { algorithm = algorithm; common = common; dns = dns; emails = emails; ips = ips }, fifth.1)

-- Those up to the sizes.
unfoldable pub limits_in : List Field → Read (Limits × List Field)
limits_in fs = do
  first ← optional_at (codes "isCA") fs
  ca ← member_or false (codes "isCA") flag_at first.0
  second ← optional_at (codes "issuers") first.1
  issuers ← member_or (codes "*" ∷ []) (codes "issuers") patterns_at second.0
  third ← optional_at (codes "maxDuration") second.1
  max ← member_option (codes "maxDuration") duration_at third.0
  fourth ← optional_at (codes "maxSize") third.1
  max_size ← member_option (codes "maxSize") small_count_at fourth.0
  fifth ← optional_at (codes "minDuration") fourth.1
  min ← member_option (codes "minDuration") duration_at fifth.0
  sixth ← optional_at (codes "minSize") fifth.1
  min_size ← member_option (codes "minSize") small_count_at sixth.0
  Ok (record { ca = ca; issuers = issuers; max = max; max_size = max_size; min = min; min_size = min_size }, sixth.1)

abbrev pub policy_of : Named → Limits → List ℕ → Option (List (List ℕ)) → List (List ℕ) → Policy
policy_of named limits name uris usages = record {
  name = name;
  issuers = limits.issuers;
  common = named.common;
  dns = named.dns;
  ips = named.ips;
  uris = uris;
  emails = named.emails;
  usages = usages;
  ca = limits.ca;
  min = limits.min;
  max = limits.max;
  algorithm = named.algorithm;
  min_size = limits.min_size;
  max_size = limits.max_size;
}

unfoldable pub policy_at : Data → Read Policy
policy_at d = do
  fs ← fields_at d
  named ← named_in fs
  limits ← limits_in named.1
  given ← required_at (codes "name") limits.1
  name ← under (codes "name") (text_at given.0)
  first ← optional_at (codes "uris") given.1
  uris ← member_option (codes "uris") patterns_at first.0
  second ← optional_at (codes "usages") first.1
  usages ← member_or [] (codes "usages") patterns_at second.0
  end ← at_end second.1
  Ok (policy_of named.0 limits.0 name uris usages)

abbrev pub policies_at : Data → Read (List Policy)
policies_at d = list_at (numbered_below 100 policy_at) d

-- ---- the approver

-- It judges the requests of all issuers, where none are named.
abbrev pub every_issuer : List (List ℕ)
every_issuer = codes "*" ∷ []

unfoldable pub approver_at : Data → Read Rules
approver_at d = do
  fs ← fields_at d
  first ← optional_at (codes "issuers") fs
  issuers ← member_or every_issuer (codes "issuers") texts_at first.0
  second ← optional_at (codes "policies") first.1
  policies ← member_or [] (codes "policies") policies_at second.0
  third ← optional_at (codes "refuse") second.1
  refuse ← member_or [] (codes "refuse") texts_at third.0
  end ← at_end third.1
  Ok (record { issuers = issuers; refuse = refuse; policies = policies })

-- It refuses none and has no policies.
abbrev pub default_approver : Rules
default_approver = record { issuers = every_issuer; refuse = []; policies = [] }
