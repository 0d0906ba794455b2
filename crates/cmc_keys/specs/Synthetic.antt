-- Stand-in keys: a key file of each algorithm, size and encoding that is made of a number. They are no keys of use.
use Rattle.std.specs.Prelude.{ℕ, ◌+◌, ◌-◌, ◌/◌, ◌==◌, List, [], ◌∷◌, ◌++◌, replicate, if◌then◌else◌}
use Rattle.std.specs.Int.{w64, to_be_bytes}
use Rattle.cmc_objects.specs.declared.key_spec.Algorithm.{Algorithm}
use Rattle.cmc_objects.specs.declared.key_spec.Algorithm.TheVariants.{Rsa, Ecdsa}
use Rattle.cmc_objects.specs.declared.key_spec.Encoding.{Encoding}
use Rattle.cmc_objects.specs.declared.key_spec.Encoding.TheVariants.{Pkcs1, Pkcs8}
use Rattle.cmc_keys.specs.declared.oids.TheConstants.{RSA_ENCRYPTION, EC_PUBLIC_KEY, SECP256R1, SECP384R1, SECP521R1}
use Rattle.cmc_keys.specs.Files.{rsa_private_key, ec_private_key, bare_ec_private_key, private_key_info}

-- the number in so many octets, eight of them or more, the highest first
unfoldable pub number_octets : ℕ → ℕ → List ℕ
number_octets width number = replicate (width - 8) 0 ++ to_be_bytes w64 number

-- the octets that hold so many bits
abbrev pub width_of : ℕ → ℕ
width_of size = (size + 7) / 8

-- the modulus: the octet 80, zeros, and the number in the last eight octets
abbrev pub modulus_of : ℕ → ℕ → List ℕ
modulus_of size number = 128 ∷ number_octets (width_of size - 1) number

-- the private octets of a curve's key are the number in the curve's width
abbrev pub private_octets_of : ℕ → ℕ → List ℕ
private_octets_of size number = number_octets (width_of size) number

-- so are both coordinates of its point, which stands without compression (RFC 5480, 2.2)
abbrev pub point_of : ℕ → ℕ → List ℕ
point_of size number = 4 ∷ (private_octets_of size number ++ private_octets_of size number)

-- the OID of the curve of this width
abbrev pub curve_oid_of_size : ℕ → List ℕ
curve_oid_of_size size = if size == 256 then SECP256R1 else (if size == 384 then SECP384R1 else SECP521R1)

-- the stand-in key of this algorithm, size, encoding and number
abbrev pub synthetic_key : Algorithm → ℕ → Encoding → ℕ → List ℕ
synthetic_key Rsa size Pkcs1 number = rsa_private_key (modulus_of size number)
synthetic_key Rsa size Pkcs8 number =
    private_key_info RSA_ENCRYPTION 5 [] (rsa_private_key (modulus_of size number))
synthetic_key Ecdsa size Pkcs1 number =
    ec_private_key (curve_oid_of_size size) (private_octets_of size number) (point_of size number)
synthetic_key Ecdsa size Pkcs8 number =
    private_key_info EC_PUBLIC_KEY 6 (curve_oid_of_size size) (bare_ec_private_key (private_octets_of size number) (point_of size number))
