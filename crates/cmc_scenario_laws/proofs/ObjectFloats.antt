-- No number in what is printed of an object is a float.
use Rattle.std.proofs.Common.{ℕ, ℤ, List, Option, codes}
use Rattle.serde_json.specs.Data.{string, Members}
use Rattle.cmc_meta.specs.declared.conditions.Condition.{Condition}
use Rattle.cmc_meta.specs.declared.owners.OwnerRef.{OwnerRef}
use Rattle.cmc_meta.specs.declared.object_meta.ObjectMeta.{ObjectMeta}
use Rattle.cmc_objects.specs.declared.issuer.IssuerRef.{IssuerRef}
use Rattle.cmc_objects.specs.declared.key_spec.KeySpec.{KeySpec}
use Rattle.cmc_objects.specs.declared.certificate.CertSpec.{CertSpec}
use Rattle.cmc_objects.specs.declared.certificate.CertStatus.{CertStatus}
use Rattle.cmc_objects.specs.declared.request.RequestSpec.{RequestSpec}
use Rattle.cmc_objects.specs.declared.request.RequestStatus.{RequestStatus}
use Rattle.cmc_objects.specs.declared.object.Object.{Object}
use Rattle.cmc_objects.specs.declared.object.Object.TheVariants.{Cert, Request, Secret}
use Rattle.cmc_objects.specs.Objects.{kind_of, meta_of}
use Rattle.cmc_time.specs.Durations.{go_duration}
use Rattle.cmc_print.specs.Trees.{natural}
use Rattle.cmc_print.specs.Puts.{strings, base64_text, map_tree}
use Rattle.cmc_print.specs.Printed.{moment_tree, duration_tree, owner_tree, owners_tree, meta_members, version_tree, named_meta_tree, condition_tree, conditions_tree, issuer_tree, key_members, put_references, put_names, put_terms, spec_tree, request_tree, put_moments, status_members, request_status_members, put_body, applied_head, applied_tree}
use Rattle.cmc_print.specs.Words.{kind_name, api_version, condition_name, tri_name, algorithm_name, encoding_name, rotation_name, uid_text, moment_text}
use Rattle.cmc_scenario_laws.proofs.Floats.{IsClear, AreClear, empty, with_tree, with_text, with_option, with_list, with_true, with_object, whole, of_text, of_number, of_list, of_map}

moment_clear : (at : ℤ) → IsClear (moment_tree at)
moment_clear at = of_text (moment_text at)

duration_clear : (seconds : ℕ) → IsClear (duration_tree seconds)
duration_clear seconds = of_text (go_duration seconds)

bytes_clear : (bytes : List ℕ) → IsClear (base64_text bytes)
bytes_clear bytes = of_text _

pub strings_clear : (texts : List (List ℕ)) → IsClear (strings texts)
strings_clear texts = of_list string of_text texts

-- ---- metadata

owner_clear : (o : OwnerRef) → IsClear (owner_tree o)
unfolding owner_tree
owner_clear o =
    let kind = with_text (codes "kind") (kind_name o.kind) empty in
    let name = with_text (codes "name") o.name kind in
    let uid = with_text (codes "uid") (uid_text o.uid) name in
    whole (with_true (codes "controller") o.controller uid)

owners_clear : (owners : List OwnerRef) → IsClear (owners_tree owners)
owners_clear owners = of_list owner_tree owner_clear owners

pairs_clear : (es : List (List ℕ × List ℕ)) → IsClear (map_tree string es)
pairs_clear es = of_map string of_text es

parts_clear : (es : List (List ℕ × List ℕ)) → IsClear (map_tree base64_text es)
parts_clear es = of_map base64_text bytes_clear es

meta_clear : (m : ObjectMeta) → AreClear (meta_members m)
unfolding meta_members
meta_clear m =
    let name = with_text (codes "name") m.name empty in
    let namespace = with_text (codes "namespace") m.namespace name in
    let labels = with_list (map_tree string) pairs_clear (codes "labels") m.labels namespace in
    let annotations = with_list (map_tree string) pairs_clear (codes "annotations") m.annotations labels in
    with_list owners_tree owners_clear (codes "ownerReferences") m.owners annotations

version_clear : (version : ℕ) → IsClear (version_tree version)
version_clear version = of_text _

named_meta_clear : (m : ObjectMeta) (version : Option ℕ) → IsClear (named_meta_tree m version)
unfolding named_meta_tree
named_meta_clear m version = whole (with_option version_tree version_clear (codes "resourceVersion") version (meta_clear m))

-- ---- specs

issuer_clear : (i : IssuerRef) → IsClear (issuer_tree i)
unfolding issuer_tree
issuer_clear i =
    let name = with_text (codes "name") i.name empty in
    let kind = with_option string of_text (codes "kind") i.kind name in
    whole (with_option string of_text (codes "group") i.group kind)

key_clear : (k : KeySpec) → AreClear (key_members k)
unfolding key_members
key_clear k =
    let algorithm = with_option (λ a. string (algorithm_name a)) (λ a. of_text (algorithm_name a)) (codes "algorithm") k.algorithm empty in
    let size = with_option natural of_number (codes "size") k.size algorithm in
    let encoding = with_option (λ e. string (encoding_name e)) (λ e. of_text (encoding_name e)) (codes "encoding") k.encoding size in
    with_option (λ r. string (rotation_name r)) (λ r. of_text (rotation_name r)) (codes "rotationPolicy") k.rotation encoding

spec_clear : (s : CertSpec) → IsClear (spec_tree s)
unfolding spec_tree put_terms put_names put_references
spec_clear s =
    let secret = with_text (codes "secretName") s.secret_name empty in
    let issuer = with_tree (codes "issuerRef") (issuer_tree s.issuer) (issuer_clear s.issuer) secret in
    let key = with_object (codes "privateKey") (key_members s.key) (key_clear s.key) issuer in
    let common = with_list string of_text (codes "commonName") s.common_name key in
    let dns = with_list strings strings_clear (codes "dnsNames") s.dns_names common in
    let emails = with_list strings strings_clear (codes "emailAddresses") s.emails dns in
    let addresses = with_list strings strings_clear (codes "ipAddresses") s.ip_addresses emails in
    let uris = with_list strings strings_clear (codes "uris") s.uris addresses in
    let duration = with_option duration_tree duration_clear (codes "duration") s.duration uris in
    let before = with_option duration_tree duration_clear (codes "renewBefore") s.renew_before duration in
    let percent = with_option natural of_number (codes "renewBeforePercentage") s.renew_percent before in
    let limit = with_option natural of_number (codes "revisionHistoryLimit") s.history_limit percent in
    let is_ca = with_true (codes "isCA") s.is_ca limit in
    whole (with_list strings strings_clear (codes "usages") s.usages is_ca)

request_clear : (s : RequestSpec) → IsClear (request_tree s)
unfolding request_tree
request_clear s =
    let request = with_tree (codes "request") (base64_text s.request) (bytes_clear s.request) empty in
    let issuer = with_tree (codes "issuerRef") (issuer_tree s.issuer) (issuer_clear s.issuer) request in
    let duration = with_option duration_tree duration_clear (codes "duration") s.duration issuer in
    let is_ca = with_true (codes "isCA") s.is_ca duration in
    whole (with_list strings strings_clear (codes "usages") s.usages is_ca)

-- ---- statuses

condition_clear : (c : Condition) → IsClear (condition_tree c)
unfolding condition_tree
condition_clear c =
    let kind = with_text (codes "type") (condition_name c.kind) empty in
    let status = with_text (codes "status") (tri_name c.status) kind in
    let reason = with_text (codes "reason") c.reason status in
    let message = with_text (codes "message") c.message reason in
    whole (with_text (codes "lastTransitionTime") (moment_text c.since) message)

conditions_clear : (cs : List Condition) → IsClear (conditions_tree cs)
conditions_clear cs = of_list condition_tree condition_clear cs

status_clear : (s : CertStatus) → AreClear (status_members s)
unfolding status_members put_moments
status_clear s =
    let conditions = with_list conditions_tree conditions_clear (codes "conditions") s.conditions empty in
    let last_failure = with_option moment_tree moment_clear (codes "lastFailureTime") s.last_failure conditions in
    let not_before = with_option moment_tree moment_clear (codes "notBefore") s.not_before last_failure in
    let not_after = with_option moment_tree moment_clear (codes "notAfter") s.not_after not_before in
    let renewal = with_option moment_tree moment_clear (codes "renewalTime") s.renewal not_after in
    let attempts = with_option natural of_number (codes "failedIssuanceAttempts") s.attempts renewal in
    let revision = with_option natural of_number (codes "revision") s.revision attempts in
    with_option string of_text (codes "nextPrivateKeySecretName") s.next_key revision

request_status_clear : (s : RequestStatus) → AreClear (request_status_members s)
unfolding request_status_members
request_status_clear s =
    let conditions = with_list conditions_tree conditions_clear (codes "conditions") s.conditions empty in
    let certificate = with_list base64_text bytes_clear (codes "certificate") s.certificate conditions in
    let ca = with_list base64_text bytes_clear (codes "ca") s.ca certificate in
    with_option moment_tree moment_clear (codes "failureTime") s.failure ca

-- ---- objects

head_clear : (o : Object) (version : Option ℕ) → AreClear (applied_head o version)
unfolding applied_head
head_clear o version =
    let api = with_text (codes "apiVersion") (api_version (kind_of o)) empty in
    let kind = with_text (codes "kind") (kind_name (kind_of o)) api in
    with_tree (codes "metadata") (named_meta_tree (meta_of o) version) (named_meta_clear (meta_of o) version) kind

body_clear : {ms : Members} (o : Object) → AreClear ms → AreClear (put_body o ms)
body_clear (Cert c) are = with_object (codes "status") (status_members c.status) (status_clear c.status) (with_tree (codes "spec") (spec_tree c.spec) (spec_clear c.spec) are)
body_clear (Request r) are = with_object (codes "status") (request_status_members r.status) (request_status_clear r.status) (with_tree (codes "spec") (request_tree r.spec) (request_clear r.spec) are)
body_clear (Secret s) are = with_list (map_tree base64_text) parts_clear (codes "data") s.parts (with_text (codes "type") s.kind_text are)

pub applied_clear : (o : Object) (version : Option ℕ) → IsClear (applied_tree o version)
unfolding applied_tree
applied_clear o version = whole (body_clear o (head_clear o version))
