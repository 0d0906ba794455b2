-- The names that a Certificate asks for, and those of a certification request.
use Rattle.std.specs.Prelude.{◌≡◌, ℕ, ◌==◌, ◌↔◌, Bool, false, ◌&&◌, ◌||◌, List, [], ◌∷◌, length, filter, Contains, Option, Some, None, if◌then◌else◌}
use Rattle.std.specs.Str.{bytes_eq}
use Rattle.std.specs.List.{filter_map}
use Rattle.cmc_der.specs.Keys.{SubjectNames}
use Rattle.cmc_x509.specs.Options.{Value}
use Rattle.cmc_x509.specs.Lists.{IsValues, values_at}
use Rattle.cmc_x509_build.specs.Addresses.{IsAddress, address_at}
use Rattle.cmc_objects.specs.declared.certificate.CertSpec.{CertSpec}
use Rattle.cmc_match.specs.Sets.{IsSameSet, is_same_set}

-- no common name counts as the empty one
abbrev pub common_text : Option (List ℕ) → List ℕ
common_text None = []
common_text (Some text) = text

-- the contents of the GeneralNames of a tag (RFC 5280, 4.2.1.6)
abbrev pub names_tagged : ℕ → List Value → List (List ℕ)
names_tagged tag [] = []
names_tagged tag (v ∷ vs) = if v.0 == tag then v.1 ∷ names_tagged tag vs else names_tagged tag vs

-- an iPAddress of four or sixteen octets; one of another length names nothing
abbrev pub is_address : List ℕ → Bool
is_address octets = (length octets == 4) || (length octets == 16)

abbrev pub addresses : List Value → List (List ℕ)
addresses values = filter is_address (names_tagged 135 values)

-- one of the texts writes the address of these octets
abbrev pub Writes : List (List ℕ) → List ℕ → Type 0
Writes texts octets = (text : List ℕ) × Contains texts text × IsAddress text octets

-- The names are those of the specification: the common name is the same, and the DNS names, IP addresses (as
-- octets), URIs and email addresses are the same sets.
pub record HasSubjectNames (spec : CertSpec) (names : SubjectNames) : Type 0 where
  pub values : List Value
  pub are : IsValues names.alternative values
  pub common : common_text names.common ≡ spec.common_name
  pub dns : IsSameSet spec.dns_names (names_tagged 130 values)
  pub ips : (octets : List ℕ) → Writes spec.ip_addresses octets ↔ Contains (addresses values) octets
  pub uris : IsSameSet spec.uris (names_tagged 134 values)
  pub emails : IsSameSet spec.emails (names_tagged 129 values)

-- ---- the same as tests

abbrev pub value_list : Option (List Value) → List Value
value_list None = []
value_list (Some values) = values

-- the values that the octets are, one after the other
unfoldable pub values_of : List ℕ → List Value
values_of octets = value_list (values_at octets)

-- the text writes the address of these octets
abbrev pub is_octets : Option (List ℕ) → List ℕ → Bool
is_octets None octets = false
is_octets (Some found) octets = bytes_eq found octets

abbrev pub is_written_by : List ℕ → List ℕ → Bool
is_written_by text octets = is_octets (address_at text) octets

-- the addresses that the texts write
abbrev pub addresses_written : List (List ℕ) → List (List ℕ)
addresses_written texts = filter_map address_at texts

abbrev pub has_same_names : ℕ → List (List ℕ) → List ℕ → Bool
has_same_names tag texts alternative = is_same_set texts (names_tagged tag (values_of alternative))

abbrev pub has_same_addresses : List (List ℕ) → List ℕ → Bool
has_same_addresses texts alternative = is_same_set (addresses_written texts) (addresses (values_of alternative))

-- the alternative names are those that the specification asks for, each kind of them as a set
abbrev pub has_alternative : CertSpec → List ℕ → Bool
has_alternative spec alternative =
    has_same_names 130 spec.dns_names alternative
    && (has_same_addresses spec.ip_addresses alternative
    && (has_same_names 134 spec.uris alternative && has_same_names 129 spec.emails alternative))

unfoldable pub has_names : CertSpec → SubjectNames → Bool
has_names spec names = bytes_eq (common_text names.common) spec.common_name && has_alternative spec names.alternative
