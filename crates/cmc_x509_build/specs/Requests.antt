-- Certification requests that are built (RFC 2986).
use Rattle.std.specs.Prelude.{ℕ, List, [], ◌∷◌, ◌++◌, Option, Some, None, flat_map}
use Rattle.cmc_der.specs.Builders.{value}
use Rattle.cmc_der.specs.Values.{IsDerValue}
use Rattle.cmc_der.specs.Keys.{RequestFields, SubjectNames}
use Rattle.cmc_x509.specs.Certificates.{IsRequestInfo}
use Rattle.cmc_x509_build.specs.declared.oids.TheConstants.{EXTENSION_REQUEST}
use Rattle.cmc_x509_build.specs.declared.requests.NameSet.{NameSet}
use Rattle.cmc_x509_build.specs.Octets.{spki_octets, name_octets, address_octets, alternative_extension}

-- the common name, where it is not empty
abbrev pub common_if_any : List ℕ → Option (List ℕ)
common_if_any [] = None
common_if_any (b ∷ bs) = Some (b ∷ bs)

-- the alternative names as GeneralNames (RFC 5280, 4.2.1.6): DNS names, IP addresses, URIs and emails
unfoldable pub alternative_of : NameSet → List ℕ
alternative_of names =
    flat_map (value 130) names.dns ++ (flat_map address_octets names.ips
    ++ (flat_map (value 134) names.uris ++ flat_map (value 129) names.emails))

abbrev pub names_of : NameSet → SubjectNames
names_of names = record { common = common_if_any names.common; alternative = alternative_of names }

-- the attributes: extensionRequest (RFC 2985, 5.4.2) with the alternative names, where there are any
abbrev pub attributes_of : List ℕ → List ℕ
attributes_of [] = []
attributes_of (b ∷ bs) =
    value 48 (value 6 EXTENSION_REQUEST ++ value 49 (value 48 (alternative_extension (b ∷ bs))))

-- CertificationRequestInfo of version 0
unfoldable pub request_body : RequestFields → List ℕ
request_body fields =
    value 48 (value 2 (0 ∷ []) ++ (name_octets fields.names.common ++ (spki_octets fields.key
    ++ value 160 (attributes_of fields.names.alternative))))

-- the octets are a CertificationRequestInfo with these fields
abbrev pub IsRequestBody : List ℕ → RequestFields → Type 0
IsRequestBody octets fields = (contents : List ℕ) × IsDerValue octets 48 contents × IsRequestInfo contents fields
