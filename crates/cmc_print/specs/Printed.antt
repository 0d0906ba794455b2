-- Objects as JSON: absent fields and empty lists and maps are left out, and so is what the store owns.
use Rattle.std.specs.Prelude.{ℕ, ℤ, List, Option, codes, decimal, map}
use Rattle.serde_json.specs.Data.{Data, string, array, object, Members, no_members, put}
use Rattle.serde_json.specs.View.{items_of}
use Rattle.cmc_meta.specs.declared.conditions.Condition.{Condition}
use Rattle.cmc_meta.specs.declared.owners.OwnerRef.{OwnerRef}
use Rattle.cmc_meta.specs.declared.object_meta.ObjectMeta.{ObjectMeta}
use Rattle.cmc_objects.specs.declared.issuer.IssuerRef.{IssuerRef}
use Rattle.cmc_objects.specs.declared.key_spec.KeySpec.{KeySpec}
use Rattle.cmc_objects.specs.declared.certificate.CertSpec.{CertSpec}
use Rattle.cmc_objects.specs.declared.certificate.CertStatus.{CertStatus}
use Rattle.cmc_objects.specs.declared.request.RequestSpec.{RequestSpec}
use Rattle.cmc_objects.specs.declared.request.RequestStatus.{RequestStatus}
use Rattle.cmc_objects.specs.declared.certificate.Certificate.{Certificate}
use Rattle.cmc_objects.specs.declared.request.CertificateRequest.{CertificateRequest}
use Rattle.cmc_objects.specs.declared.secret.Secret.{Secret as SecretObject}
use Rattle.cmc_objects.specs.declared.object.Object.{Object}
use Rattle.cmc_objects.specs.declared.object.Object.TheVariants.{Cert, Request, Secret}
use Rattle.cmc_objects.specs.Objects.{kind_of, meta_of}
use Rattle.cmc_time.specs.Durations.{go_duration}
use Rattle.cmc_print.specs.Trees.{natural}
use Rattle.cmc_print.specs.Puts.{put_option, put_list, put_true, put_object, strings, base64_text, map_tree}
use Rattle.cmc_print.specs.Words.{kind_name, api_version, condition_name, tri_name, algorithm_name, encoding_name, rotation_name, uid_text, moment_text}

abbrev pub moment_tree : ℤ → Data
moment_tree at = string (moment_text at)

abbrev pub duration_tree : ℕ → Data
duration_tree seconds = string (go_duration seconds)

-- ---- metadata

unfoldable pub owner_tree : OwnerRef → Data
owner_tree o = object
    (put_true (codes "controller") o.controller
    (put (codes "uid") (string (uid_text o.uid))
    (put (codes "name") (string o.name)
    (put (codes "kind") (string (kind_name o.kind)) no_members))))

abbrev pub owners_tree : List OwnerRef → Data
owners_tree owners = array (items_of (map owner_tree owners))

unfoldable pub meta_members : ObjectMeta → Members
meta_members m =
    put_list owners_tree (codes "ownerReferences") m.owners
    (put_list (map_tree string) (codes "annotations") m.annotations
    (put_list (map_tree string) (codes "labels") m.labels
    (put (codes "namespace") (string m.namespace)
    (put (codes "name") (string m.name) no_members))))

unfoldable pub meta_tree : ObjectMeta → Data
meta_tree m = object (meta_members m)

-- A resource version is written in decimal.
abbrev pub version_tree : ℕ → Data
version_tree version = string (decimal version)

-- The metadata with the resource version that a user names.
unfoldable pub named_meta_tree : ObjectMeta → Option ℕ → Data
named_meta_tree m version = object (put_option version_tree (codes "resourceVersion") version (meta_members m))

-- ---- conditions

unfoldable pub condition_tree : Condition → Data
condition_tree c = object
    (put (codes "lastTransitionTime") (moment_tree c.since)
    (put (codes "message") (string c.message)
    (put (codes "reason") (string c.reason)
    (put (codes "status") (string (tri_name c.status))
    (put (codes "type") (string (condition_name c.kind)) no_members)))))

abbrev pub conditions_tree : List Condition → Data
conditions_tree conditions = array (items_of (map condition_tree conditions))

-- ---- specs

unfoldable pub issuer_tree : IssuerRef → Data
issuer_tree i = object
    (put_option string (codes "group") i.group
    (put_option string (codes "kind") i.kind
    (put (codes "name") (string i.name) no_members)))

unfoldable pub key_members : KeySpec → Members
key_members k =
    put_option (λ r. string (rotation_name r)) (codes "rotationPolicy") k.rotation
    (put_option (λ e. string (encoding_name e)) (codes "encoding") k.encoding
    (put_option natural (codes "size") k.size
    (put_option (λ a. string (algorithm_name a)) (codes "algorithm") k.algorithm no_members)))

-- The Secret, the issuer and the private key.
unfoldable pub put_references : CertSpec → Members → Members
put_references s ms =
    put_object (codes "privateKey") (key_members s.key)
    (put (codes "issuerRef") (issuer_tree s.issuer)
    (put (codes "secretName") (string s.secret_name) ms))

-- The names that a certificate is asked for.
unfoldable pub put_names : CertSpec → Members → Members
put_names s ms =
    put_list strings (codes "uris") s.uris
    (put_list strings (codes "ipAddresses") s.ip_addresses
    (put_list strings (codes "emailAddresses") s.emails
    (put_list strings (codes "dnsNames") s.dns_names
    (put_list string (codes "commonName") s.common_name ms))))

-- How long certificates and requests are kept.
unfoldable pub put_terms : CertSpec → Members → Members
put_terms s ms =
    put_option natural (codes "revisionHistoryLimit") s.history_limit
    (put_option natural (codes "renewBeforePercentage") s.renew_percent
    (put_option duration_tree (codes "renewBefore") s.renew_before
    (put_option duration_tree (codes "duration") s.duration ms)))

unfoldable pub spec_tree : CertSpec → Data
spec_tree s = object
    (put_list strings (codes "usages") s.usages
    (put_true (codes "isCA") s.is_ca
    (put_terms s
    (put_names s
    (put_references s no_members)))))

unfoldable pub request_tree : RequestSpec → Data
request_tree s = object
    (put_list strings (codes "usages") s.usages
    (put_true (codes "isCA") s.is_ca
    (put_option duration_tree (codes "duration") s.duration
    (put (codes "issuerRef") (issuer_tree s.issuer)
    (put (codes "request") (base64_text s.request) no_members)))))

-- ---- statuses

-- The moments of a certificate and of its last failure.
unfoldable pub put_moments : CertStatus → Members → Members
put_moments s ms =
    put_option moment_tree (codes "renewalTime") s.renewal
    (put_option moment_tree (codes "notAfter") s.not_after
    (put_option moment_tree (codes "notBefore") s.not_before
    (put_option moment_tree (codes "lastFailureTime") s.last_failure ms)))

unfoldable pub status_members : CertStatus → Members
status_members s =
    put_option string (codes "nextPrivateKeySecretName") s.next_key
    (put_option natural (codes "revision") s.revision
    (put_option natural (codes "failedIssuanceAttempts") s.attempts
    (put_moments s
    (put_list conditions_tree (codes "conditions") s.conditions no_members))))

unfoldable pub request_status_members : RequestStatus → Members
request_status_members s =
    put_option moment_tree (codes "failureTime") s.failure
    (put_list base64_text (codes "ca") s.ca
    (put_list base64_text (codes "certificate") s.certificate
    (put_list conditions_tree (codes "conditions") s.conditions no_members)))

-- ---- objects

-- What every object has.
unfoldable pub head_members : Object → Members
head_members o =
    put (codes "metadata") (meta_tree (meta_of o))
    (put (codes "kind") (string (kind_name (kind_of o)))
    (put (codes "apiVersion") (string (api_version (kind_of o))) no_members))

-- What each kind has beside that.
abbrev pub put_cert : Certificate → Members → Members
put_cert c ms = put_object (codes "status") (status_members c.status) (put (codes "spec") (spec_tree c.spec) ms)

abbrev pub put_cert_request : CertificateRequest → Members → Members
put_cert_request r ms = put_object (codes "status") (request_status_members r.status) (put (codes "spec") (request_tree r.spec) ms)

abbrev pub put_secret_parts : SecretObject → Members → Members
put_secret_parts s ms = put_list (map_tree base64_text) (codes "data") s.parts (put (codes "type") (string s.kind_text) ms)

abbrev pub put_body : Object → Members → Members
put_body (Cert c) ms = put_cert c ms
put_body (Request r) ms = put_cert_request r ms
put_body (Secret s) ms = put_secret_parts s ms

-- The whole object.
unfoldable pub object_tree : Object → Data
object_tree o = object (put_body o (head_members o))

-- The object as a user applies it, at the resource version that the user names.
unfoldable pub applied_head : Object → Option ℕ → Members
applied_head o version =
    put (codes "metadata") (named_meta_tree (meta_of o) version)
    (put (codes "kind") (string (kind_name (kind_of o)))
    (put (codes "apiVersion") (string (api_version (kind_of o))) no_members))

unfoldable pub applied_tree : Object → Option ℕ → Data
applied_tree o version = object (put_body o (applied_head o version))
