-- The words and texts of the Kubernetes and cert-manager APIs.
use Rattle.std.specs.Prelude.{ℕ, ℤ, pos, neg_ℤ, List, ◌++◌, ◌&&◌, Bool, codes, if◌then◌else◌}
use Rattle.std.specs.Fmt.{decimal, signed_decimal}
use Rattle.std.specs.Ordering.{int_cmp, is_le}
use Rattle.cmc_meta.specs.declared.key.Key.{Key}
use Rattle.cmc_meta.specs.declared.key.Kind.{Kind}
use Rattle.cmc_meta.specs.declared.key.Kind.TheVariants as kinds
use Rattle.cmc_meta.specs.declared.conditions.ConditionKind.{ConditionKind}
use Rattle.cmc_meta.specs.declared.conditions.ConditionKind.TheVariants as conditions
use Rattle.cmc_meta.specs.declared.conditions.Tri.{Tri}
use Rattle.cmc_meta.specs.declared.conditions.Tri.TheVariants as tris
use Rattle.cmc_objects.specs.declared.key_spec.Algorithm.{Algorithm}
use Rattle.cmc_objects.specs.declared.key_spec.Algorithm.TheVariants.{Rsa, Ecdsa}
use Rattle.cmc_objects.specs.declared.key_spec.Encoding.{Encoding}
use Rattle.cmc_objects.specs.declared.key_spec.Encoding.TheVariants.{Pkcs1, Pkcs8}
use Rattle.cmc_objects.specs.declared.key_spec.Rotation.{Rotation}
use Rattle.cmc_objects.specs.declared.key_spec.Rotation.TheVariants.{Always, Never}
use Rattle.cmc_objects.specs.declared.role.Role.{Role}
use Rattle.cmc_objects.specs.declared.role.Role.TheVariants as roles
use Rattle.cmc_time.specs.Rfc3339.{rfc3339}

abbrev pub kind_name : Kind → List ℕ
kind_name kinds.Certificate = codes "Certificate"
kind_name kinds.CertificateRequest = codes "CertificateRequest"
kind_name kinds.Secret = codes "Secret"

abbrev pub api_version : Kind → List ℕ
api_version kinds.Certificate = codes "cert-manager.io/v1"
api_version kinds.CertificateRequest = codes "cert-manager.io/v1"
api_version kinds.Secret = codes "v1"

abbrev pub condition_name : ConditionKind → List ℕ
condition_name conditions.Ready = codes "Ready"
condition_name conditions.Issuing = codes "Issuing"
condition_name conditions.Approved = codes "Approved"
condition_name conditions.Denied = codes "Denied"
condition_name conditions.InvalidRequest = codes "InvalidRequest"

abbrev pub tri_name : Tri → List ℕ
tri_name tris.True = codes "True"
tri_name tris.False = codes "False"
tri_name tris.Unknown = codes "Unknown"

abbrev pub algorithm_name : Algorithm → List ℕ
algorithm_name Rsa = codes "RSA"
algorithm_name Ecdsa = codes "ECDSA"

abbrev pub encoding_name : Encoding → List ℕ
encoding_name Pkcs1 = codes "PKCS1"
encoding_name Pkcs8 = codes "PKCS8"

abbrev pub rotation_name : Rotation → List ℕ
rotation_name Always = codes "Always"
rotation_name Never = codes "Never"

abbrev pub role_name : Role → List ℕ
role_name roles.Trigger = codes "trigger"
role_name roles.KeyManager = codes "keymanager"
role_name roles.RequestManager = codes "requestmanager"
role_name roles.Approver = codes "approver"
role_name roles.Issuer = codes "issuer"
role_name roles.Issuing = codes "issuing"
role_name roles.Readiness = codes "readiness"
role_name roles.Revision = codes "revision"

-- `namespace/name`
abbrev pub name_text : Key → List ℕ
name_text key = key.namespace ++ (codes "/" ++ key.name)

-- `Kind/namespace/name`
abbrev pub key_text : Key → List ℕ
key_text key = kind_name key.kind ++ (codes "/" ++ name_text key)

abbrev pub uid_text : ℕ → List ℕ
uid_text uid = codes "uid-" ++ decimal uid

-- From 0001-01-01T00:00:00Z to 9999-12-31T23:59:59Z.
abbrev pub has_rfc3339 : ℤ → Bool
has_rfc3339 at = is_le (int_cmp (neg_ℤ (pos 62135596800)) at) && is_le (int_cmp at (pos 253402300799))

-- A moment as RFC 3339 writes it; one that has no such text, as its seconds since 1970-01-01T00:00:00Z.
unfoldable pub moment_text : ℤ → List ℕ
moment_text at = if has_rfc3339 at then rfc3339 at else signed_decimal at
