-- IP addresses as texts: four decimal numbers with dots between them, or the IPv6 form (RFC 4291, 2.2) without an
-- embedded IPv4 address and without a zone.
use Rattle.std.specs.Prelude.{◌≡◌, ℕ, ◌==◌, Bool, false, ◌⊎◌, List, Option, Some, None, if◌then◌else◌}
use Rattle.std.specs.List.{list_any}
use Rattle.std.specs.Net.Addr.{ipv4_octets, ipv6_octets, octets_of}
use Rattle.std.specs.Net.Grammar.{IsDotted, IsColonHex}
use Rattle.std.specs.Net.Reader.{read_ipv4, read_ipv6, whole_value}
use Rattle.std.specs.declared.net.ip_addr.IpAddr.{IpAddr}
use Rattle.std.specs.declared.net.ip_addr.IpAddr.TheVariants.{V4, V6}

abbrev pub has_dot : List ℕ → Bool
has_dot text = list_any (λ byte. byte == 46) text

-- the text writes the address of these octets, four or sixteen of them
abbrev pub IsAddress : List ℕ → List ℕ → Type 0
IsAddress text octets =
    IsDotted text octets
    ⊎ ((segments : List ℕ) × IsColonHex text segments × (has_dot text ≡ false)
    × (octets ≡ octets_of segments))

-- the octets of an address
abbrev pub octets_of_address : IpAddr → List ℕ
octets_of_address (V4 address) = ipv4_octets address
octets_of_address (V6 address) = ipv6_octets address

abbrev pub octets_of_segments : Option (List ℕ) → Option (List ℕ)
octets_of_segments None = None
octets_of_segments (Some segments) = Some (octets_of segments)

abbrev pub or_ipv6 : Option (List ℕ) → List ℕ → Option (List ℕ)
or_ipv6 (Some octets) text = Some octets
or_ipv6 None text = if has_dot text then None else octets_of_segments (whole_value (read_ipv6 text))

-- the octets of the address that the text writes, if it writes one
unfoldable pub address_at : List ℕ → Option (List ℕ)
address_at text = or_ipv6 (whole_value (read_ipv4 text)) text
