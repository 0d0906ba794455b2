-- What a policy allows.
use Rattle.std.specs.Prelude.{ℕ, nat_le, Bool, true, false, not, ◌&&◌, ◌||◌, List, [], ◌∷◌, Option, Some, None, is_some, find}
use Rattle.std.specs.List.{list_all, list_any}
use Rattle.std.specs.Str.{bytes_eq}
use Rattle.std.specs.Option.{option_to_list}
use Rattle.cmc_policy_rules.specs.declared.decision.Field.{Field}
use Rattle.cmc_policy_rules.specs.declared.decision.Field.TheVariants.{CommonName, DnsNames, IpAddresses, Uris, EmailAddresses, Usages, IsCA, MinDuration, MaxDuration, Algorithm, MinSize, MaxSize}
use Rattle.cmc_policy_rules.specs.declared.policy.Policy.{Policy}
use Rattle.cmc_policy_rules.specs.declared.wanted.Wanted.{Wanted}
use Rattle.cmc_policy_rules.specs.Patterns.{star, is_match, is_empty}

-- some pattern of the list matches the text
abbrev pub matches_any : List (List ℕ) → List ℕ → Bool
matches_any patterns text = list_any (λ pattern. is_match pattern text) patterns

-- each name matches some pattern of the policy's list; where it has no list, there is no name
abbrev pub allows_names : Option (List (List ℕ)) → List (List ℕ) → Bool
allows_names None names = is_empty names
allows_names (Some patterns) names = list_all (λ name. matches_any patterns name) names

-- the bytes are an entry of the list
abbrev pub has_entry : List (List ℕ) → List ℕ → Bool
has_entry list text = list_any (λ entry. bytes_eq entry text) list

-- the octets are an entry of the list, or the list has the pattern `*`
abbrev pub has_address : List (List ℕ) → List ℕ → Bool
has_address list octets = has_entry list octets || has_entry list (star ∷ [])

abbrev pub allows_addresses : Option (List (List ℕ)) → List (List ℕ) → Bool
allows_addresses None addresses = is_empty addresses
allows_addresses (Some list) addresses = list_all (λ octets. has_address list octets) addresses

-- a bound that is stated, itself included
abbrev pub is_at_least : Option ℕ → ℕ → Bool
is_at_least None n = true
is_at_least (Some bound) n = nat_le bound n

abbrev pub is_at_most : Option ℕ → ℕ → Bool
is_at_most None n = true
is_at_most (Some bound) n = nat_le n bound

-- an algorithm that is stated, true for RSA; a key of another kind has none
abbrev pub same_algorithm : Bool → Option Bool → Bool
same_algorithm rsa None = false
same_algorithm true (Some rsa) = rsa
same_algorithm false (Some rsa) = not rsa

abbrev pub has_algorithm : Option Bool → Option Bool → Bool
has_algorithm None rsa = true
has_algorithm (Some stated) rsa = same_algorithm stated rsa

-- a bound on the size that is stated holds for an RSA or ECDSA key alone
abbrev pub has_min_size : Option ℕ → Option Bool → ℕ → Bool
has_min_size None rsa size = true
has_min_size (Some bound) rsa size = is_some rsa && nat_le bound size

abbrev pub has_max_size : Option ℕ → Option Bool → ℕ → Bool
has_max_size None rsa size = true
has_max_size (Some bound) rsa size = is_some rsa && nat_le size bound

-- the policy allows what the request has in this field
abbrev pub allows : Field → Policy → Wanted → Bool
allows CommonName policy wanted = allows_names policy.common (option_to_list wanted.common)
allows DnsNames policy wanted = allows_names policy.dns wanted.dns
allows IpAddresses policy wanted = allows_addresses policy.ips wanted.ips
allows Uris policy wanted = allows_names policy.uris wanted.uris
allows EmailAddresses policy wanted = allows_names policy.emails wanted.emails
allows Usages policy wanted = list_all (λ usage. has_entry policy.usages usage) wanted.usages
allows IsCA policy wanted = not wanted.ca || policy.ca
allows MinDuration policy wanted = is_at_least policy.min wanted.duration
allows MaxDuration policy wanted = is_at_most policy.max wanted.duration
allows Algorithm policy wanted = has_algorithm policy.algorithm wanted.rsa
allows MinSize policy wanted = has_min_size policy.min_size wanted.rsa wanted.size
allows MaxSize policy wanted = has_max_size policy.max_size wanted.rsa wanted.size

-- the order in which a refusal names a field
abbrev pub all_fields : List Field
all_fields = CommonName ∷ DnsNames ∷ IpAddresses ∷ Uris ∷ EmailAddresses ∷ Usages ∷ IsCA ∷ MinDuration ∷ MaxDuration ∷ Algorithm ∷ MinSize ∷ MaxSize ∷ []

-- the first field, in this order, that the policy does not allow
unfoldable pub refused_field : Policy → Wanted → Option Field
refused_field policy wanted = find (λ field. not (allows field policy wanted)) all_fields
