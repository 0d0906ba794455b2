-- What counts where a field is absent (cert-manager.io/v1 API reference).
use Rattle.std.specs.Prelude.{ℕ, List, Option, codes, unwrap_or}
use Rattle.cmc_objects.specs.declared.issuer.IssuerRef.{IssuerRef}
use Rattle.cmc_objects.specs.declared.key_spec.Algorithm.{Algorithm}
use Rattle.cmc_objects.specs.declared.key_spec.Algorithm.TheVariants.{Rsa, Ecdsa}
use Rattle.cmc_objects.specs.declared.key_spec.Encoding.{Encoding}
use Rattle.cmc_objects.specs.declared.key_spec.Encoding.TheVariants.{Pkcs1}
use Rattle.cmc_objects.specs.declared.key_spec.Rotation.{Rotation}
use Rattle.cmc_objects.specs.declared.key_spec.Rotation.TheVariants.{Always}
use Rattle.cmc_objects.specs.declared.key_spec.KeySpec.{KeySpec}

abbrev pub issuer_kind : IssuerRef → List ℕ
issuer_kind issuer = unwrap_or issuer.kind (codes "Issuer")

abbrev pub issuer_group : IssuerRef → List ℕ
issuer_group issuer = unwrap_or issuer.group (codes "cert-manager.io")

abbrev pub key_algorithm : KeySpec → Algorithm
key_algorithm key = unwrap_or key.algorithm Rsa

-- the size of an algorithm's key, in bits
abbrev pub usual_size : Algorithm → ℕ
usual_size Rsa = 2048
usual_size Ecdsa = 256

abbrev pub key_size : KeySpec → ℕ
key_size key = unwrap_or key.size (usual_size (key_algorithm key))

abbrev pub key_encoding : KeySpec → Encoding
key_encoding key = unwrap_or key.encoding Pkcs1

abbrev pub key_rotation : KeySpec → Rotation
key_rotation key = unwrap_or key.rotation Always

-- 2160 hours, in seconds
abbrev pub certificate_duration : Option ℕ → ℕ
certificate_duration duration = unwrap_or duration 7776000
