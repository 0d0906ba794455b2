-- What is read of a printed object is that object without what is not printed, if anything is read.
use Rattle.std.proofs.Common.{◌≡◌, ℕ, ◌+◌, ◌<◌, ◌^◌, List, [], ◌∷◌, Bool, true, false, Option, Some, None, Ok, Err, inl, inr, refl, ap, sym, subst, map, drop}
use Rattle.std.specs.Prelude.{codes, decimal, ◌⊎◌}
use Rattle.base64.specs.GeneralPurpose.{IsBytes}
use Rattle.serde_json.specs.Data.{Data, string, object, Members, no_members, member}
use Rattle.serde_json.specs.View.{items_of}
use Rattle.cmc_meta.specs.Names.{is_subdomain}
use Rattle.cmc_meta.specs.declared.key.Kind.{Kind}
use Rattle.cmc_meta.specs.declared.key.Kind.TheVariants.{Certificate, CertificateRequest, Secret}
use Rattle.cmc_meta.specs.declared.owners.OwnerRef.{OwnerRef}
use Rattle.cmc_meta.specs.declared.object_meta.ObjectMeta.{ObjectMeta}
use Rattle.cmc_objects.specs.Objects.{meta_of, no_cert_status, no_request_status}
use Rattle.cmc_objects.specs.declared.certificate.CertSpec.{CertSpec}
use Rattle.cmc_objects.specs.declared.certificate.Certificate.{Certificate as CertificateObject}
use Rattle.cmc_objects.specs.declared.request.RequestSpec.{RequestSpec}
use Rattle.cmc_objects.specs.declared.request.CertificateRequest.{CertificateRequest as RequestObject}
use Rattle.cmc_objects.specs.declared.secret.Secret.{Secret as SecretObject}
use Rattle.cmc_objects.specs.declared.object.Object.{Object}
use Rattle.cmc_objects.specs.declared.object.Object.TheVariants as objects
use Rattle.cmc_cursor.specs.Members.{Path, Read, under, fields_of}
use Rattle.cmc_cursor.specs.Readers.{word_at, name_at, pairs_at, parts_at}
use Rattle.cmc_print.specs.Puts.{base64_text, map_tree, put_object}
use Rattle.cmc_print.specs.Printed.{owner_tree, owners_tree, meta_tree, spec_tree, request_tree, status_members, request_status_members, head_members, object_tree}
use Rattle.cmc_print.specs.Words.{uid_text}
use Rattle.cmc_codec.specs.MetadataForm.{uid_in, kept_owner, owner_at, owners_from, owners_at, labelled_in, placed_in, head_at}
use Rattle.cmc_codec.specs.CertificateForm.{api_at, spec_at, api_request_spec_at}
use Rattle.cmc_codec.specs.ObjectForm.{status_last, applied_certificate_in, applied_request_in, applied_secret_in, applied_at}
use Rattle.cmc_codec.specs.declared.certificate_in.Api.TheVariants.{V1}
use Rattle.cmc_codec.specs.declared.object_in.Applied.{Applied}
use Rattle.cmc_codec.specs.declared.metadata_in.Head.{Head}
use Rattle.cmc_codec.specs.Laws.{FitsSeconds, HasDurations, HaveUids, IsMetadata, HasBytes, HasOrder, bare_meta, bare, GivesBack}
use Rattle.cmc_codec.proofs.Slots.{slots, required_is, some_list, some_object}
use Rattle.cmc_cursor.proofs.Always.{so, failed}
use Rattle.cmc_codec.proofs.DecimalsAgain.{uid_written}
use Rattle.cmc_codec.proofs.MetadataAgain.{pairs_again, parts_again, owner_printed, meta_printed, places_of}
use Rattle.cmc_codec.proofs.ObjectsAgain as whole
use Rattle.cmc_codec.proofs.Only.{Only, given, only_then, only_below, name_only, needed_is, list_is, sought_or_is, sought_list_is, sought_needed_is}
use Rattle.cmc_codec.proofs.OnlySpecs.{IsLastingSpec, spec_only, request_only}

-- ---- owner references

bool_cases : (b : Bool) → (b ≡ true) ⊎ (b ≡ false)
bool_cases true = inl refl
bool_cases false = inr refl

nothing : {A : Type 0} {x : A} {r : Read A} (path : Path) → r ≡ Err path → Only x r
nothing {x = x} path e = subst (Only x) (sym e) (failed path)

owner_fails : (kind : Kind) (name : List ℕ) (uid : ℕ) (controller : Bool) → name_at (string name) ≡ Err [] → uid_in (uid_text uid) ≡ Some uid
    → owner_at (owner_tree (record { kind = kind; name = name; uid = uid; controller = controller })) ≡ Err (codes "name" ∷ [])
unfolding owner_at owner_tree kept_owner
owner_fails Certificate name uid true n u = rw (u, n) refl
owner_fails Certificate name uid false n u = rw (u, n) refl
owner_fails CertificateRequest name uid true n u = rw (u, n) refl
owner_fails CertificateRequest name uid false n u = rw (u, n) refl
owner_fails Secret name uid true n u = rw (u, n) refl
owner_fails Secret name uid false n u = rw (u, n) refl

owner_only : (o : OwnerRef) → o.uid < 2 ^ 64 → Only (Some o) (owner_at (owner_tree o))
owner_only o h = go (bool_cases (is_subdomain o.name))
  where
    go : (is_subdomain o.name ≡ true) ⊎ (is_subdomain o.name ≡ false) → Only (Some o) (owner_at (owner_tree o))
    go (inl holds) = given (owner_printed o.kind o.name o.uid o.controller (rw holds refl) (uid_written o.uid h))
    go (inr fails) = nothing (codes "name" ∷ []) (owner_fails o.kind o.name o.uid o.controller (rw fails refl) (uid_written o.uid h))

owners_from_only : (n : ℕ) (os : List OwnerRef) → HaveUids os → Only os (owners_from n (items_of (map owner_tree os)))
owners_from_only n [] h = so refl
owners_from_only n (o ∷ os) h =
    only_then (under (decimal n) (owner_at (owner_tree o))) (Some o) _ (o ∷ os) (only_below (decimal n) (Some o) (owner_at (owner_tree o)) (owner_only o h.0))
    (only_then (owners_from (n + 1) (items_of (map owner_tree os))) os _ (o ∷ os) (owners_from_only (n + 1) os h.1) (so refl))

-- ---- metadata

labelled_only : (m : ObjectMeta) → IsMetadata m → Only (record { annotations = m.annotations; labels = m.labels; name = m.name }, fields_of (slots (drop 3 (places_of m)))) (labelled_in (fields_of (slots (places_of m))))
unfolding labelled_in
labelled_only m is =
    let ps = places_of m in
    (only_then _ _ _ _ (sought_list_is pairs_at (map_tree string) (codes "annotations") m.annotations (drop 1 ps) refl (given (pairs_again m.annotations is.annotations)))
    (only_then _ _ _ _ (sought_list_is pairs_at (map_tree string) (codes "labels") m.labels (drop 2 ps) refl (given (pairs_again m.labels is.labels)))
    (only_then _ _ _ _ (sought_needed_is name_at (codes "name") (string m.name) (drop 3 ps) m.name refl (name_only m.name)) (so refl))))

placed_only : (m : ObjectMeta) → IsMetadata m → Only (record { namespace = m.namespace; owners = m.owners; version = None }, []) (placed_in (fields_of (slots (drop 3 (places_of m)))))
unfolding placed_in
placed_only m is =
    let ps = places_of m in
    (only_then _ _ _ _ (sought_or_is (codes "default") name_at (codes "namespace") (Some (string m.namespace)) (drop 4 ps) m.namespace refl (only_below (codes "namespace") m.namespace (name_at (string m.namespace)) (name_only m.namespace)))
    (only_then _ _ _ _ (sought_list_is owners_at owners_tree (codes "ownerReferences") m.owners [] refl (owners_from_only 0 m.owners is.owners)) (so refl)))

abbrev bare_head : ObjectMeta → Head
bare_head m = record { meta = bare_meta m; version = None }

head_only : (m : ObjectMeta) → IsMetadata m → Only (bare_head m) (head_at (meta_tree m))
unfolding head_at
head_only m is =
    rw (meta_printed m)
    (only_then _ _ _ _ (labelled_only m is)
    (only_then _ _ _ _ (placed_only m is) (so refl)))

-- ---- Certificates

abbrev alone : Object → Applied
alone o = record { object = o; version = None }

any_check : {x : Unit {0}} (r : Read (Unit {0})) → Only x r
any_check r = record { each = λ y e. refl }

abbrev certificate_places : ObjectMeta → CertSpec → Option Data → List (List ℕ × Option Data)
certificate_places m s status = (codes "apiVersion", Some (string (codes "cert-manager.io/v1"))) ∷ (codes "kind", Some (string (codes "Certificate"))) ∷ (codes "metadata", Some (meta_tree m)) ∷ (codes "spec", Some (spec_tree s)) ∷ (codes "status", status) ∷ []

certificate_with : (m : ObjectMeta) (s : CertSpec) (status : Members) → put_object (codes "status") status (slots (certificate_places m s None)) ≡ slots (certificate_places m s (some_object status))
certificate_with m s no_members = refl
certificate_with m s (member n d ms) = refl

certificate_printed : (c : CertificateObject) → object_tree (objects.Cert c) ≡ object (slots (certificate_places c.meta c.spec (some_object (status_members c.status))))
unfolding object_tree head_members
certificate_printed c = ap object (certificate_with c.meta c.spec (status_members c.status))

abbrev bare_certificate : CertificateObject → Object
bare_certificate c = objects.Cert (record { meta = bare_meta c.meta; spec = c.spec; status = no_cert_status })

certificate_in_only : (c : CertificateObject) (status : Option Data) → IsMetadata c.meta → IsLastingSpec c.spec → Only (alone (bare_certificate c)) (applied_certificate_in (fields_of (slots (certificate_places c.meta c.spec status))))
unfolding applied_certificate_in
certificate_in_only c status is_meta is_spec =
    let ps = certificate_places c.meta c.spec status in
    (only_then _ _ _ _ (needed_is api_at (codes "apiVersion") (string (codes "cert-manager.io/v1")) (drop 1 ps) V1 refl (so refl))
    (only_then _ _ _ _ (given (required_is (codes "kind") (string (codes "Certificate")) (drop 2 ps) refl))
    (only_then _ _ _ _ (needed_is head_at (codes "metadata") (meta_tree c.meta) (drop 3 ps) (bare_head c.meta) refl (head_only c.meta is_meta))
    (only_then _ _ _ _ (needed_is (spec_at V1) (codes "spec") (spec_tree c.spec) (drop 4 ps) c.spec refl (spec_only c.spec is_spec))
    (only_then (status_last (fields_of (slots (drop 4 ps)))) tt _ _ (any_check _) (so refl))))))

certificate_only : (c : CertificateObject) → IsMetadata c.meta → IsLastingSpec c.spec → Only (alone (bare_certificate c)) (applied_at (object_tree (objects.Cert c)))
unfolding applied_at
certificate_only c is_meta is_spec = rw (certificate_printed c) (certificate_in_only c (some_object (status_members c.status)) is_meta is_spec)

-- ---- CertificateRequests

abbrev request_places : ObjectMeta → RequestSpec → Option Data → List (List ℕ × Option Data)
request_places m s status = (codes "apiVersion", Some (string (codes "cert-manager.io/v1"))) ∷ (codes "kind", Some (string (codes "CertificateRequest"))) ∷ (codes "metadata", Some (meta_tree m)) ∷ (codes "spec", Some (request_tree s)) ∷ (codes "status", status) ∷ []

request_with : (m : ObjectMeta) (s : RequestSpec) (status : Members) → put_object (codes "status") status (slots (request_places m s None)) ≡ slots (request_places m s (some_object status))
request_with m s no_members = refl
request_with m s (member n d ms) = refl

request_printed : (r : RequestObject) → object_tree (objects.Request r) ≡ object (slots (request_places r.meta r.spec (some_object (request_status_members r.status))))
unfolding object_tree head_members
request_printed r = ap object (request_with r.meta r.spec (request_status_members r.status))

abbrev bare_request : RequestObject → Object
bare_request r = objects.Request (record { meta = bare_meta r.meta; spec = r.spec; status = no_request_status })

request_in_only : (r : RequestObject) (status : Option Data) → IsMetadata r.meta → FitsSeconds r.spec.duration → IsBytes r.spec.request → Only (alone (bare_request r)) (applied_request_in (fields_of (slots (request_places r.meta r.spec status))))
unfolding applied_request_in
request_in_only r status is_meta lasts bytes =
    let ps = request_places r.meta r.spec status in
    (only_then _ _ _ _ (needed_is api_at (codes "apiVersion") (string (codes "cert-manager.io/v1")) (drop 1 ps) V1 refl (so refl))
    (only_then _ _ _ _ (given (required_is (codes "kind") (string (codes "CertificateRequest")) (drop 2 ps) refl))
    (only_then _ _ _ _ (needed_is head_at (codes "metadata") (meta_tree r.meta) (drop 3 ps) (bare_head r.meta) refl (head_only r.meta is_meta))
    (only_then _ _ _ _ (needed_is (api_request_spec_at V1) (codes "spec") (request_tree r.spec) (drop 4 ps) r.spec refl (request_only r.spec lasts (whole.bytes_again r.spec.request bytes)))
    (only_then (status_last (fields_of (slots (drop 4 ps)))) tt _ _ (any_check _) (so refl))))))

request_object_only : (r : RequestObject) → IsMetadata r.meta → FitsSeconds r.spec.duration → IsBytes r.spec.request → Only (alone (bare_request r)) (applied_at (object_tree (objects.Request r)))
unfolding applied_at
request_object_only r is_meta lasts bytes = rw (request_printed r) (request_in_only r (some_object (request_status_members r.status)) is_meta lasts bytes)

-- ---- Secrets

abbrev bare_secret : SecretObject → Object
bare_secret s = objects.Secret (record { meta = bare_meta s.meta; kind_text = s.kind_text; parts = s.parts })

secret_in_only : (s : SecretObject) → IsMetadata s.meta → parts_at (map_tree base64_text s.parts) ≡ Ok s.parts → Only (alone (bare_secret s)) (applied_secret_in (fields_of (slots (whole.places_of s.meta s.kind_text s.parts))))
unfolding applied_secret_in
secret_in_only s is_meta are_parts =
    let ps = whole.places_of s.meta s.kind_text s.parts in
    (only_then _ _ _ _ (needed_is (word_at (codes "v1")) (codes "apiVersion") (string (codes "v1")) (drop 1 ps) tt refl (so refl))
    (only_then _ _ _ _ (list_is parts_at (map_tree base64_text) (codes "data") s.parts (drop 2 ps) refl (given are_parts))
    (only_then _ _ _ _ (given (required_is (codes "kind") (string (codes "Secret")) (drop 3 ps) refl))
    (only_then _ _ _ _ (needed_is head_at (codes "metadata") (meta_tree s.meta) (drop 4 ps) (bare_head s.meta) refl (head_only s.meta is_meta)) (so refl)))))

secret_only : (s : SecretObject) → IsMetadata s.meta → parts_at (map_tree base64_text s.parts) ≡ Ok s.parts → Only (alone (bare_secret s)) (applied_at (object_tree (objects.Secret s)))
unfolding applied_at
secret_only s is_meta are_parts = rw (whole.secret_printed s.meta s.kind_text s.parts, whole.is_secret s.meta s.kind_text (some_list (map_tree base64_text) s.parts)) (secret_in_only s is_meta are_parts)

-- ---- all objects

object_only : (o : Object) → IsMetadata (meta_of o) → HasBytes o → HasOrder o → HasDurations o → Only (alone (bare o)) (applied_at (object_tree o))
object_only (objects.Cert c) is_meta bytes order lasts = certificate_only c is_meta (record { duration = lasts.0; before = lasts.1 })
object_only (objects.Request r) is_meta bytes order lasts = request_object_only r is_meta lasts bytes
object_only (objects.Secret s) is_meta bytes order lasts = secret_only s is_meta (parts_again s.parts order (whole.parts_are s.parts bytes))

-- what is read of the print of an object, if it is read, is the object without what is not printed
pub gives_back : (o : Object) → IsMetadata (meta_of o) → HasBytes o → HasOrder o → HasDurations o → GivesBack o
gives_back o is_meta bytes order lasts given e =
    (only_then (applied_at (object_tree o)) (alone (bare o)) (λ applied. Ok applied.object) (bare o) (object_only o is_meta bytes order lasts) (so refl)).each given e
