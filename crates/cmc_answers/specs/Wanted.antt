-- What a CertificateRequest asks for, as approval policies look at it.
use Rattle.std.specs.Prelude.{ℕ, ◌==◌, ◌&&◌, ◌||◌, not, Bool, true, false, List, [], length, map, filter, Option, Some, None, unwrap_or}
use Rattle.cmc_der.specs.Keys.{RequestFields, key_kind_of}
use Rattle.cmc_der.specs.declared.fields.KeyKind.{KeyKind}
use Rattle.cmc_der.specs.declared.fields.KeyKind.TheVariants.{Rsa, P256, P384, P521}
use Rattle.cmc_x509.specs.Options.{Value}
use Rattle.cmc_x509.specs.Lists.{values_at}
use Rattle.cmc_objects.specs.Defaults.{certificate_duration}
use Rattle.cmc_objects.specs.declared.request.CertificateRequest.{CertificateRequest}
use Rattle.cmc_policy_rules.specs.declared.wanted.Wanted.{Wanted}

-- the alternative names, each with its tag (RFC 5280, 4.2.1.6)
unfoldable pub general_names : List ℕ → List Value
general_names alternative = unwrap_or (values_at alternative) []

-- an iPAddress counts where it has 4 or 16 octets
abbrev pub is_width : ℕ → Bool
is_width octets = (octets == 4) || (octets == 16)

-- the name has this tag: 129 is rfc822Name, 130 dNSName, 134 uniformResourceIdentifier, 135 iPAddress
abbrev pub has_tag : ℕ → Value → Bool
has_tag tag name = (name.0 == tag) && (not (tag == 135) || is_width (length name.1))

abbrev pub bodies_of : ℕ → List Value → List (List ℕ)
bodies_of tag names = map (λ name. name.1) (filter (λ name. has_tag tag name) names)

abbrev pub names_of_tag : ℕ → List ℕ → List (List ℕ)
names_of_tag tag alternative = bodies_of tag (general_names alternative)

-- whether a key is of RSA: none for a key that is neither of RSA nor of ECDSA
abbrev pub is_rsa : Option KeyKind → Option Bool
is_rsa None = None
is_rsa (Some (Rsa bits)) = Some true
is_rsa (Some P256) = Some false
is_rsa (Some P384) = Some false
is_rsa (Some P521) = Some false

-- its size in bits
abbrev pub key_size_of : Option KeyKind → ℕ
key_size_of None = 0
key_size_of (Some (Rsa bits)) = bits
key_size_of (Some P256) = 256
key_size_of (Some P384) = 384
key_size_of (Some P521) = 521

-- what the request asks for, with these fields of its signing request
abbrev pub wanted_of : CertificateRequest → RequestFields → Wanted
wanted_of request csr = record {
  issuer = request.spec.issuer.name;
  common = csr.names.common;
  dns = names_of_tag 130 csr.names.alternative;
  ips = names_of_tag 135 csr.names.alternative;
  uris = names_of_tag 134 csr.names.alternative;
  emails = names_of_tag 129 csr.names.alternative;
  usages = request.spec.usages;
  ca = request.spec.is_ca;
  duration = certificate_duration request.spec.duration;
  rsa = is_rsa (key_kind_of csr.key);
  size = key_size_of (key_kind_of csr.key);
}
