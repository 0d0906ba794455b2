-- The rows of objects, in byte order of their names.
use Rattle.std.specs.Prelude.{List, [], ◌∷◌, ◌++◌, Bool, false, not, ◌||◌, ◌==◌, length, codes, Some, is_some, option_map, ℕ}
use Rattle.serde_json.specs.Data.{Data, string}
use Rattle.cmc_meta.specs.declared.conditions.Condition.{Condition}
use Rattle.cmc_meta.specs.declared.owners.OwnerRef.{OwnerRef}
use Rattle.cmc_meta.specs.declared.object_meta.ObjectMeta.{ObjectMeta}
use Rattle.cmc_objects.specs.declared.issuer.IssuerRef.{IssuerRef}
use Rattle.cmc_objects.specs.declared.key_spec.KeySpec.{KeySpec}
use Rattle.cmc_objects.specs.declared.certificate.CertSpec.{CertSpec}
use Rattle.cmc_objects.specs.declared.certificate.CertStatus.{CertStatus}
use Rattle.cmc_objects.specs.declared.certificate.Certificate.{Certificate}
use Rattle.cmc_objects.specs.declared.request.RequestSpec.{RequestSpec}
use Rattle.cmc_objects.specs.declared.request.RequestStatus.{RequestStatus}
use Rattle.cmc_objects.specs.declared.request.CertificateRequest.{CertificateRequest}
use Rattle.cmc_objects.specs.declared.secret.Secret.{Secret}
use Rattle.cmc_print.specs.Trees.{natural}
use Rattle.cmc_print.specs.Puts.{strings, base64_text, map_tree}
use Rattle.cmc_print.specs.Words.{kind_name, condition_name, tri_name, algorithm_name, encoding_name, rotation_name, uid_text}
use Rattle.cmc_print.specs.Printed.{moment_tree, duration_tree, owners_tree, meta_tree, conditions_tree, issuer_tree, key_members, spec_tree, status_members, request_tree, request_status_members}
use Rattle.cmc_writer.specs.Additions.{Row}
use Rattle.cmc_writer.specs.Rows.{list_row, true_row, object_row}

abbrev pub owner_rows : OwnerRef → List Row
owner_rows o =
    (codes "controller", true_row o.controller)
    ∷ (codes "kind", Some (string (kind_name o.kind)))
    ∷ (codes "name", Some (string o.name))
    ∷ (codes "uid", Some (string (uid_text o.uid)))
    ∷ []

abbrev pub meta_rows : ObjectMeta → List Row
meta_rows m =
    (codes "annotations", list_row (map_tree string) m.annotations)
    ∷ (codes "labels", list_row (map_tree string) m.labels)
    ∷ (codes "name", Some (string m.name))
    ∷ (codes "namespace", Some (string m.namespace))
    ∷ (codes "ownerReferences", list_row owners_tree m.owners)
    ∷ []

abbrev pub condition_rows : Condition → List Row
condition_rows c =
    (codes "lastTransitionTime", Some (moment_tree c.since))
    ∷ (codes "message", Some (string c.message))
    ∷ (codes "reason", Some (string c.reason))
    ∷ (codes "status", Some (string (tri_name c.status)))
    ∷ (codes "type", Some (string (condition_name c.kind)))
    ∷ []

abbrev pub issuer_rows : IssuerRef → List Row
issuer_rows i =
    (codes "group", option_map string i.group)
    ∷ (codes "kind", option_map string i.kind)
    ∷ (codes "name", Some (string i.name))
    ∷ []

abbrev pub key_rows : KeySpec → List Row
key_rows k =
    (codes "algorithm", option_map (λ a. string (algorithm_name a)) k.algorithm)
    ∷ (codes "encoding", option_map (λ e. string (encoding_name e)) k.encoding)
    ∷ (codes "rotationPolicy", option_map (λ r. string (rotation_name r)) k.rotation)
    ∷ (codes "size", option_map natural k.size)
    ∷ []

-- In three parts, none of them long.
abbrev pub first_rows : CertSpec → List Row
first_rows s =
    (codes "commonName", list_row string s.common_name)
    ∷ (codes "dnsNames", list_row strings s.dns_names)
    ∷ (codes "duration", option_map duration_tree s.duration)
    ∷ (codes "emailAddresses", list_row strings s.emails)
    ∷ (codes "ipAddresses", list_row strings s.ip_addresses)
    ∷ (codes "isCA", true_row s.is_ca)
    ∷ []

abbrev pub middle_rows : CertSpec → List Row
middle_rows s =
    (codes "issuerRef", Some (issuer_tree s.issuer))
    ∷ (codes "privateKey", object_row (key_members s.key))
    ∷ (codes "renewBefore", option_map duration_tree s.renew_before)
    ∷ (codes "renewBeforePercentage", option_map natural s.renew_percent)
    ∷ (codes "revisionHistoryLimit", option_map natural s.history_limit)
    ∷ []

abbrev pub last_rows : CertSpec → List Row
last_rows s =
    (codes "secretName", Some (string s.secret_name))
    ∷ (codes "uris", list_row strings s.uris)
    ∷ (codes "usages", list_row strings s.usages)
    ∷ []

abbrev pub spec_rows : CertSpec → List Row
spec_rows s = first_rows s ++ (middle_rows s ++ last_rows s)

abbrev pub attempt_rows : CertStatus → List Row
attempt_rows s =
    (codes "conditions", list_row conditions_tree s.conditions)
    ∷ (codes "failedIssuanceAttempts", option_map natural s.attempts)
    ∷ (codes "lastFailureTime", option_map moment_tree s.last_failure)
    ∷ (codes "nextPrivateKeySecretName", option_map string s.next_key)
    ∷ []

abbrev pub moment_rows : CertStatus → List Row
moment_rows s =
    (codes "notAfter", option_map moment_tree s.not_after)
    ∷ (codes "notBefore", option_map moment_tree s.not_before)
    ∷ (codes "renewalTime", option_map moment_tree s.renewal)
    ∷ (codes "revision", option_map natural s.revision)
    ∷ []

abbrev pub status_rows : CertStatus → List Row
status_rows s = attempt_rows s ++ moment_rows s

abbrev pub cert_rows : Certificate → List Row
cert_rows c =
    (codes "apiVersion", Some (string (codes "cert-manager.io/v1")))
    ∷ (codes "kind", Some (string (codes "Certificate")))
    ∷ (codes "metadata", Some (meta_tree c.meta))
    ∷ (codes "spec", Some (spec_tree c.spec))
    ∷ (codes "status", object_row (status_members c.status))
    ∷ []

-- Some row is there.
abbrev pub has_some_row : List Row → Bool
has_some_row [] = false
has_some_row (r ∷ rs) = is_some r.1 || has_some_row rs

abbrev pub has_key_terms : KeySpec → Bool
has_key_terms k = is_some k.algorithm || (is_some k.encoding || (is_some k.rotation || is_some k.size))

abbrev pub has_moments : CertStatus → Bool
has_moments s = is_some s.last_failure || (is_some s.not_after || (is_some s.not_before || is_some s.renewal))

abbrev pub has_status : CertStatus → Bool
has_status s = not (length s.conditions == 0) || (is_some s.attempts || (has_moments s || (is_some s.next_key || is_some s.revision)))

-- A row for each pair.
abbrev pub pair_rows : (List ℕ → Data) → List (List ℕ × List ℕ) → List Row
pair_rows tree [] = []
pair_rows tree (e ∷ es) = (e.0, Some (tree e.1)) ∷ pair_rows tree es

abbrev pub request_spec_rows : RequestSpec → List Row
request_spec_rows s =
    (codes "duration", option_map duration_tree s.duration)
    ∷ (codes "isCA", true_row s.is_ca)
    ∷ (codes "issuerRef", Some (issuer_tree s.issuer))
    ∷ (codes "request", Some (base64_text s.request))
    ∷ (codes "usages", list_row strings s.usages)
    ∷ []

abbrev pub request_status_rows : RequestStatus → List Row
request_status_rows s =
    (codes "ca", list_row base64_text s.ca)
    ∷ (codes "certificate", list_row base64_text s.certificate)
    ∷ (codes "conditions", list_row conditions_tree s.conditions)
    ∷ (codes "failureTime", option_map moment_tree s.failure)
    ∷ []

abbrev pub has_request_status : RequestStatus → Bool
has_request_status s = not (length s.ca == 0) || (not (length s.certificate == 0) || (not (length s.conditions == 0) || is_some s.failure))

abbrev pub request_rows : CertificateRequest → List Row
request_rows r =
    (codes "apiVersion", Some (string (codes "cert-manager.io/v1")))
    ∷ (codes "kind", Some (string (codes "CertificateRequest")))
    ∷ (codes "metadata", Some (meta_tree r.meta))
    ∷ (codes "spec", Some (request_tree r.spec))
    ∷ (codes "status", object_row (request_status_members r.status))
    ∷ []

abbrev pub secret_rows : Secret → List Row
secret_rows s =
    (codes "apiVersion", Some (string (codes "v1")))
    ∷ (codes "data", list_row (map_tree base64_text) s.parts)
    ∷ (codes "kind", Some (string (codes "Secret")))
    ∷ (codes "metadata", Some (meta_tree s.meta))
    ∷ (codes "type", Some (string s.kind_text))
    ∷ []
