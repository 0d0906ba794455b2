-- What is read of a private key file and of a certification request, without where its octets lie.
use Rattle.std.specs.Prelude.{◌≡◌, ℕ, List, Option, option_map}
use Rattle.cmc_der.specs.Keys.{PublicKey, RsaKey, EcKey, OtherKey, SubjectNames, RequestFields}
use Rattle.cmc_x509.specs.ReadCertificates.{request_fields_at}
use Rattle.cmc_objects.specs.KeyPairs.{public_among}
use Rattle.cmc_objects.specs.declared.kept.KeptKey.{KeptKey}
use Rattle.cmc_objects.specs.declared.kept.KeptKey.TheVariants as kept
use Rattle.cmc_objects.specs.declared.kept.KeptNames.{KeptNames}
use Rattle.cmc_objects.specs.declared.kept.KeptFields.{KeptFields}

abbrev pub key_kept : KeptKey → PublicKey
key_kept (kept.Rsa m e) = RsaKey m e
key_kept (kept.Ec c p) = EcKey c p
key_kept (kept.Other w) = OtherKey w

abbrev pub names_kept : KeptNames → SubjectNames
names_kept n = record { common = n.common; alternative = n.alternative }

abbrev pub fields_kept : KeptFields → RequestFields
fields_kept f = record { key = key_kept f.key; names = names_kept f.names }

-- this is the public key of the key file among the data of a Secret
abbrev pub IsKeyOfParts : List (List ℕ × List ℕ) → Option KeptKey → Type 0
IsKeyOfParts parts key = option_map key_kept key ≡ public_among parts

-- this is what is read of the octets of a certification request
abbrev pub IsKeptReading : List ℕ → Option KeptFields → Type 0
IsKeptReading octets fields = option_map fields_kept fields ≡ request_fields_at octets
