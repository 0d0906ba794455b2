-- Whether two specs are equal, as a test, so that a definition can say what a change of the spec does.
use Rattle.std.specs.Prelude.{ℕ, List, Bool, true, false, ◌&&◌, ◌==◌, Option, Some, None}
use Rattle.std.specs.Str.{bytes_eq}
use Rattle.std.specs.Cmp.Lexicographic.{pointwise}
use Rattle.cmc_objects.specs.declared.issuer.IssuerRef.{IssuerRef}
use Rattle.cmc_objects.specs.declared.key_spec.Algorithm.{Algorithm}
use Rattle.cmc_objects.specs.declared.key_spec.Algorithm.TheVariants.{Rsa, Ecdsa}
use Rattle.cmc_objects.specs.declared.key_spec.Encoding.{Encoding}
use Rattle.cmc_objects.specs.declared.key_spec.Encoding.TheVariants.{Pkcs1, Pkcs8}
use Rattle.cmc_objects.specs.declared.key_spec.Rotation.{Rotation}
use Rattle.cmc_objects.specs.declared.key_spec.Rotation.TheVariants.{Always, Never}
use Rattle.cmc_objects.specs.declared.key_spec.KeySpec.{KeySpec}
use Rattle.cmc_objects.specs.declared.certificate.CertSpec.{CertSpec}
use Rattle.cmc_objects.specs.declared.request.RequestSpec.{RequestSpec}
use Rattle.cmc_objects.specs.declared.object.Object.{Object}
use Rattle.cmc_objects.specs.declared.object.Object.TheVariants.{Cert, Request, Secret}

abbrev pub option_eq : {A : Type 0} → (A → A → Bool) → Option A → Option A → Bool
option_eq eq None None = true
option_eq eq None (Some y) = false
option_eq eq (Some x) None = false
option_eq eq (Some x) (Some y) = eq x y

abbrev pub number_eq : ℕ → ℕ → Bool
number_eq x y = x == y

abbrev pub flag_eq : Bool → Bool → Bool
flag_eq true true = true
flag_eq true false = false
flag_eq false true = false
flag_eq false false = true

abbrev pub texts_eq : List (List ℕ) → List (List ℕ) → Bool
texts_eq = pointwise bytes_eq

abbrev pub algorithm_eq : Algorithm → Algorithm → Bool
algorithm_eq Rsa Rsa = true
algorithm_eq Rsa Ecdsa = false
algorithm_eq Ecdsa Rsa = false
algorithm_eq Ecdsa Ecdsa = true

abbrev pub encoding_eq : Encoding → Encoding → Bool
encoding_eq Pkcs1 Pkcs1 = true
encoding_eq Pkcs1 Pkcs8 = false
encoding_eq Pkcs8 Pkcs1 = false
encoding_eq Pkcs8 Pkcs8 = true

abbrev pub rotation_eq : Rotation → Rotation → Bool
rotation_eq Always Always = true
rotation_eq Always Never = false
rotation_eq Never Always = false
rotation_eq Never Never = true

unfoldable pub issuer_eq : IssuerRef → IssuerRef → Bool
issuer_eq a b = bytes_eq a.name b.name && (option_eq bytes_eq a.kind b.kind && option_eq bytes_eq a.group b.group)

unfoldable pub key_spec_eq : KeySpec → KeySpec → Bool
key_spec_eq a b =
    option_eq algorithm_eq a.algorithm b.algorithm && (option_eq number_eq a.size b.size
    && (option_eq encoding_eq a.encoding b.encoding && option_eq rotation_eq a.rotation b.rotation))

unfoldable pub cert_spec_eq : CertSpec → CertSpec → Bool
cert_spec_eq a b =
    bytes_eq a.secret_name b.secret_name && (issuer_eq a.issuer b.issuer && (bytes_eq a.common_name b.common_name
    && (texts_eq a.dns_names b.dns_names && (texts_eq a.ip_addresses b.ip_addresses && (texts_eq a.uris b.uris
    && (texts_eq a.emails b.emails && (flag_eq a.is_ca b.is_ca && (texts_eq a.usages b.usages
    && (option_eq number_eq a.duration b.duration && (option_eq number_eq a.renew_before b.renew_before
    && (option_eq number_eq a.renew_percent b.renew_percent
    && (key_spec_eq a.key b.key && option_eq number_eq a.history_limit b.history_limit))))))))))))

unfoldable pub request_spec_eq : RequestSpec → RequestSpec → Bool
request_spec_eq a b =
    issuer_eq a.issuer b.issuer && (option_eq number_eq a.duration b.duration && (flag_eq a.is_ca b.is_ca
    && (texts_eq a.usages b.usages && bytes_eq a.request b.request)))

-- whether an update leaves the spec as it was; a Secret has none
abbrev pub keeps_spec : Object → Object → Bool
keeps_spec (Cert old) (Cert new) = cert_spec_eq old.spec new.spec
keeps_spec (Request old) (Request new) = request_spec_eq old.spec new.spec
keeps_spec (Secret old) new = true
keeps_spec (Cert old) (Request new) = true
keeps_spec (Cert old) (Secret new) = true
keeps_spec (Request old) (Cert new) = true
keeps_spec (Request old) (Secret new) = true
