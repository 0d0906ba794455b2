-- What was written of an object, row by row, is its tree.
use Rattle.std.proofs.Common.{◌≡◌, ℕ, List, [], ◌∷◌, ◌++◌, Bool, true, false, codes, Some, None, is_some, option_map, refl, sym, ap, ◌∙◌, subst, rules, arith}
use Rattle.std.specs.Prelude.{◌||◌, ◌==◌, not, length, if◌then◌else◌}
use Rattle.std.specs.declared.option.Option.{Option}
use Rattle.json.specs.Token.{Token, begin_object, end_object}
use Rattle.serde_json.specs.Data.{Data, string, object, Members}
use Rattle.cmc_meta.specs.declared.conditions.Condition.{Condition}
use Rattle.cmc_meta.specs.declared.owners.OwnerRef.{OwnerRef}
use Rattle.cmc_meta.specs.declared.object_meta.ObjectMeta.{ObjectMeta}
use Rattle.cmc_objects.specs.declared.issuer.IssuerRef.{IssuerRef}
use Rattle.cmc_objects.specs.declared.key_spec.KeySpec.{KeySpec}
use Rattle.cmc_objects.specs.declared.certificate.CertSpec.{CertSpec}
use Rattle.cmc_objects.specs.declared.certificate.CertStatus.{CertStatus}
use Rattle.cmc_objects.specs.declared.certificate.Certificate.{Certificate}
use Rattle.cmc_objects.specs.declared.request.RequestSpec.{RequestSpec}
use Rattle.cmc_objects.specs.declared.request.RequestStatus.{RequestStatus}
use Rattle.cmc_objects.specs.declared.request.CertificateRequest.{CertificateRequest}
use Rattle.cmc_objects.specs.declared.secret.Secret.{Secret as SecretObject}
use Rattle.cmc_objects.specs.declared.object.Object.TheVariants.{Cert, Request, Secret}
use Rattle.cmc_print.specs.Trees.{natural}
use Rattle.cmc_print.specs.Puts.{strings, base64_text, map_tree}
use Rattle.cmc_print.specs.Words.{kind_name, condition_name, tri_name, algorithm_name, encoding_name, rotation_name, uid_text}
use Rattle.cmc_print.specs.Printed.{moment_tree, duration_tree, owner_tree, owners_tree, meta_members, meta_tree, condition_tree, conditions_tree, issuer_tree, key_members, spec_tree, put_references, put_names, put_terms, status_members, put_moments, request_tree, request_status_members, object_tree, head_members}
use Rattle.cmc_writer.specs.Additions.{Row, with_value, with_rows}
use Rattle.cmc_writer.specs.Rows.{built_row, built, list_row, object_row}
use Rattle.cmc_writer.proofs.Placed.{IsBuilt, is_none, is_put}
use Rattle.cmc_writer.proofs.Written.{object_written}
use Rattle.cmc_object_lines.specs.ObjectRows.{owner_rows, meta_rows, condition_rows, issuer_rows, key_rows, spec_rows, status_rows, cert_rows, has_some_row, has_key_terms, has_status, request_spec_rows, request_status_rows, has_request_status, request_rows, secret_rows}
use Rattle.cmc_object_lines.proofs.Slots.{is_option, is_list, is_true, is_object}

-- An object whose members are those of rows.
pub of_rows : (ts : List Token) (rs : List Row) (ms : Members) → IsBuilt ms rs → with_rows (ts ++ begin_object ∷ []) rs ++ end_object ∷ [] ≡ with_value ts (object ms)
of_rows ts rs ms b = object_written ts rs ∙ ap (λ m. with_value ts (object m)) (sym b.same)

pub issuer_written : (ts : List Token) (i : IssuerRef) → with_rows (ts ++ begin_object ∷ []) (issuer_rows i) ++ end_object ∷ [] ≡ with_value ts (issuer_tree i)
unfolding issuer_tree
issuer_written ts i = of_rows ts (issuer_rows i) _
    (is_option string (codes "group") i.group
    (is_option string (codes "kind") i.kind
    (is_put (codes "name") (Some (string i.name)) is_none refl) refl) refl)

pub spec_written : (ts : List Token) (s : CertSpec) → with_rows (ts ++ begin_object ∷ []) (spec_rows s) ++ end_object ∷ [] ≡ with_value ts (spec_tree s)
unfolding spec_tree put_references put_names put_terms
spec_written ts s = of_rows ts (spec_rows s) _
    (is_list strings (codes "usages") s.usages
    (is_true (codes "isCA") s.is_ca
    (is_option natural (codes "revisionHistoryLimit") s.history_limit
    (is_option natural (codes "renewBeforePercentage") s.renew_percent
    (is_option duration_tree (codes "renewBefore") s.renew_before
    (is_option duration_tree (codes "duration") s.duration
    (is_list strings (codes "uris") s.uris
    (is_list strings (codes "ipAddresses") s.ip_addresses
    (is_list strings (codes "emailAddresses") s.emails
    (is_list strings (codes "dnsNames") s.dns_names
    (is_list string (codes "commonName") s.common_name
    (is_object (codes "privateKey") (key_members s.key)
    (is_put (codes "issuerRef") (Some (issuer_tree s.issuer))
    (is_put (codes "secretName") (Some (string s.secret_name)) is_none refl) refl) refl) refl) refl) refl) refl) refl) refl) refl) refl) refl) refl) refl)

pub owner_written : (ts : List Token) (o : OwnerRef) → with_rows (ts ++ begin_object ∷ []) (owner_rows o) ++ end_object ∷ [] ≡ with_value ts (owner_tree o)
unfolding owner_tree
owner_written ts o = of_rows ts (owner_rows o) _
    (is_true (codes "controller") o.controller
    (is_put (codes "uid") (Some (string (uid_text o.uid)))
    (is_put (codes "name") (Some (string o.name))
    (is_put (codes "kind") (Some (string (kind_name o.kind))) is_none refl) refl) refl) refl)

pub meta_written : (ts : List Token) (m : ObjectMeta) → with_rows (ts ++ begin_object ∷ []) (meta_rows m) ++ end_object ∷ [] ≡ with_value ts (meta_tree m)
unfolding meta_tree meta_members
meta_written ts m = of_rows ts (meta_rows m) _
    (is_list owners_tree (codes "ownerReferences") m.owners
    (is_list (map_tree string) (codes "annotations") m.annotations
    (is_list (map_tree string) (codes "labels") m.labels
    (is_put (codes "namespace") (Some (string m.namespace))
    (is_put (codes "name") (Some (string m.name)) is_none refl) refl) refl) refl) refl)

pub condition_written : (ts : List Token) (c : Condition) → with_rows (ts ++ begin_object ∷ []) (condition_rows c) ++ end_object ∷ [] ≡ with_value ts (condition_tree c)
unfolding condition_tree
condition_written ts c = of_rows ts (condition_rows c) _
    (is_put (codes "lastTransitionTime") (Some (moment_tree c.since))
    (is_put (codes "message") (Some (string c.message))
    (is_put (codes "reason") (Some (string c.reason))
    (is_put (codes "status") (Some (string (tri_name c.status)))
    (is_put (codes "type") (Some (string (condition_name c.kind))) is_none refl) refl) refl) refl) refl)

-- The members of a private key.
pub key_built : (k : KeySpec) → IsBuilt (key_members k) (key_rows k)
unfolding key_members
key_built k =
    is_option (λ r. string (rotation_name r)) (codes "rotationPolicy") k.rotation
    (is_option (λ e. string (encoding_name e)) (codes "encoding") k.encoding
    (is_option natural (codes "size") k.size
    (is_option (λ a. string (algorithm_name a)) (codes "algorithm") k.algorithm is_none refl) refl) refl) refl

pub key_written : (ts : List Token) (k : KeySpec) → with_rows (ts ++ begin_object ∷ []) (key_rows k) ++ end_object ∷ [] ≡ with_value ts (object (key_members k))
key_written ts k = of_rows ts (key_rows k) (key_members k) (key_built k)

-- The members of a status.
pub status_built : (s : CertStatus) → IsBuilt (status_members s) (status_rows s)
unfolding status_members put_moments
status_built s =
    is_option string (codes "nextPrivateKeySecretName") s.next_key
    (is_option natural (codes "revision") s.revision
    (is_option natural (codes "failedIssuanceAttempts") s.attempts
    (is_option moment_tree (codes "renewalTime") s.renewal
    (is_option moment_tree (codes "notAfter") s.not_after
    (is_option moment_tree (codes "notBefore") s.not_before
    (is_option moment_tree (codes "lastFailureTime") s.last_failure
    (is_list conditions_tree (codes "conditions") s.conditions is_none refl) refl) refl) refl) refl) refl) refl) refl

pub status_written : (ts : List Token) (s : CertStatus) → with_rows (ts ++ begin_object ∷ []) (status_rows s) ++ end_object ∷ [] ≡ with_value ts (object (status_members s))
status_written ts s = of_rows ts (status_rows s) (status_members s) (status_built s)

pub cert_written : (ts : List Token) (c : Certificate) → with_rows (ts ++ begin_object ∷ []) (cert_rows c) ++ end_object ∷ [] ≡ with_value ts (object_tree (Cert c))
unfolding object_tree head_members
cert_written ts c = of_rows ts (cert_rows c) _
    (is_object (codes "status") (status_members c.status)
    (is_put (codes "spec") (Some (spec_tree c.spec))
    (is_put (codes "metadata") (Some (meta_tree c.meta))
    (is_put (codes "kind") (Some (string (codes "Certificate")))
    (is_put (codes "apiVersion") (Some (string (codes "cert-manager.io/v1"))) is_none refl) refl) refl) refl) refl)

or_false : (b : Bool) → (b || false) ≡ b
or_false true = refl
or_false false = refl

-- ---- objects that are left out where they have no members

some_row : (name : List ℕ) (x : Option Data) (ms : Members) (b : Bool) → object_row ms ≡ (if b then Some (object ms) else None)
    → object_row (built_row name x ms) ≡ (if is_some x || b then Some (object (built_row name x ms)) else None)
some_row name None ms b h = h
some_row name (Some d) ms b h = refl

row_of_built : (rs : List Row) → object_row (built rs) ≡ (if has_some_row rs then Some (object (built rs)) else None)
row_of_built [] = refl
row_of_built (r ∷ rs) = some_row r.0 r.1 (built rs) (has_some_row rs) (row_of_built rs)

pub row_of : (rs : List Row) (ms : Members) → IsBuilt ms rs → object_row ms ≡ (if has_some_row rs then Some (object ms) else None)
row_of rs ms b = subst (λ m. object_row m ≡ (if has_some_row rs then Some (object m) else None)) (sym b.same) (row_of_built rs)

pub is_some_map : {A : Type 0} (f : A → Data) (x : Option A) → is_some (option_map f x) ≡ is_some x
is_some_map f None = refl
is_some_map f (Some x) = refl

is_some_list : {A : Type 0} (f : List A → Data) (xs : List A) → is_some (list_row f xs) ≡ not (length xs == 0)
is_some_list f [] = refl
is_some_list f (x ∷ xs) = search (rules, arith)

key_has : (k : KeySpec) → has_some_row (key_rows k) ≡ has_key_terms k
key_has k = rw (is_some_map (λ a. string (algorithm_name a)) k.algorithm, is_some_map (λ e. string (encoding_name e)) k.encoding, is_some_map (λ r. string (rotation_name r)) k.rotation, is_some_map natural k.size, or_false (is_some k.size)) refl

pub key_row : (k : KeySpec) → object_row (key_members k) ≡ (if has_key_terms k then Some (object (key_members k)) else None)
key_row k = row_of (key_rows k) (key_members k) (key_built k) ∙ ap (λ b. if b then Some (object (key_members k)) else None) (key_has k)

-- The order in which the test asks.
asked : (c a l k n b r v : Bool) → (c || (a || (l || (k || (n || (b || (r || (v || false)))))))) ≡ (c || (a || ((l || (n || (b || r))) || (k || v))))
asked true a l k n b r v = refl
asked false true l k n b r v = refl
asked false false true k n b r v = refl
asked false false false true true b r v = refl
asked false false false true false true r v = refl
asked false false false true false false true v = refl
asked false false false true false false false v = refl
asked false false false false true b r v = refl
asked false false false false false true r v = refl
asked false false false false false false true v = refl
asked false false false false false false false true = refl
asked false false false false false false false false = refl

status_has : (s : CertStatus) → has_some_row (status_rows s) ≡ has_status s
status_has s =
    rw (
      is_some_list conditions_tree s.conditions,
      is_some_map natural s.attempts,
      is_some_map moment_tree s.last_failure,
      is_some_map string s.next_key,
      is_some_map moment_tree s.not_after,
      is_some_map moment_tree s.not_before,
      is_some_map moment_tree s.renewal,
      is_some_map natural s.revision,
    )
    (asked (not (length s.conditions == 0)) (is_some s.attempts) (is_some s.last_failure) (is_some s.next_key) (is_some s.not_after) (is_some s.not_before) (is_some s.renewal) (is_some s.revision))

pub status_row : (s : CertStatus) → object_row (status_members s) ≡ (if has_status s then Some (object (status_members s)) else None)
status_row s = row_of (status_rows s) (status_members s) (status_built s) ∙ ap (λ b. if b then Some (object (status_members s)) else None) (status_has s)

-- ---- requests and Secrets

pub request_spec_written : (ts : List Token) (s : RequestSpec) → with_rows (ts ++ begin_object ∷ []) (request_spec_rows s) ++ end_object ∷ [] ≡ with_value ts (request_tree s)
unfolding request_tree
request_spec_written ts s = of_rows ts (request_spec_rows s) _
    (is_list strings (codes "usages") s.usages
    (is_true (codes "isCA") s.is_ca
    (is_option duration_tree (codes "duration") s.duration
    (is_put (codes "issuerRef") (Some (issuer_tree s.issuer))
    (is_put (codes "request") (Some (base64_text s.request)) is_none refl) refl) refl) refl) refl)

request_status_built : (s : RequestStatus) → IsBuilt (request_status_members s) (request_status_rows s)
unfolding request_status_members
request_status_built s =
    is_option moment_tree (codes "failureTime") s.failure
    (is_list base64_text (codes "ca") s.ca
    (is_list base64_text (codes "certificate") s.certificate
    (is_list conditions_tree (codes "conditions") s.conditions is_none refl) refl) refl) refl

pub request_status_written : (ts : List Token) (s : RequestStatus) → with_rows (ts ++ begin_object ∷ []) (request_status_rows s) ++ end_object ∷ [] ≡ with_value ts (object (request_status_members s))
request_status_written ts s = of_rows ts (request_status_rows s) (request_status_members s) (request_status_built s)

request_status_has : (s : RequestStatus) → has_some_row (request_status_rows s) ≡ has_request_status s
request_status_has s =
    rw (is_some_list base64_text s.ca, is_some_list base64_text s.certificate, is_some_list conditions_tree s.conditions, is_some_map moment_tree s.failure, or_false (is_some s.failure)) refl

pub request_status_row : (s : RequestStatus) → object_row (request_status_members s) ≡ (if has_request_status s then Some (object (request_status_members s)) else None)
request_status_row s =
    row_of (request_status_rows s) (request_status_members s) (request_status_built s) ∙ ap (λ b. if b then Some (object (request_status_members s)) else None) (request_status_has s)

pub request_written : (ts : List Token) (r : CertificateRequest) → with_rows (ts ++ begin_object ∷ []) (request_rows r) ++ end_object ∷ [] ≡ with_value ts (object_tree (Request r))
unfolding object_tree head_members
request_written ts r = of_rows ts (request_rows r) _
    (is_object (codes "status") (request_status_members r.status)
    (is_put (codes "spec") (Some (request_tree r.spec))
    (is_put (codes "metadata") (Some (meta_tree r.meta))
    (is_put (codes "kind") (Some (string (codes "CertificateRequest")))
    (is_put (codes "apiVersion") (Some (string (codes "cert-manager.io/v1"))) is_none refl) refl) refl) refl) refl)

pub secret_written : (ts : List Token) (s : SecretObject) → with_rows (ts ++ begin_object ∷ []) (secret_rows s) ++ end_object ∷ [] ≡ with_value ts (object_tree (Secret s))
unfolding object_tree head_members
secret_written ts s = of_rows ts (secret_rows s) _
    (is_list (map_tree base64_text) (codes "data") s.parts
    (is_put (codes "type") (Some (string s.kind_text))
    (is_put (codes "metadata") (Some (meta_tree s.meta))
    (is_put (codes "kind") (Some (string (codes "Secret")))
    (is_put (codes "apiVersion") (Some (string (codes "v1"))) is_none refl) refl) refl) refl) refl)
