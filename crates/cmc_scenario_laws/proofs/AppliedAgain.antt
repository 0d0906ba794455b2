-- An object that a step applies, at the resource version that it names, is printed as one that is read again.
use Rattle.std.proofs.Common.{◌≡◌, ℕ, List, [], ◌∷◌, true, Option, Some, None, Ok, refl, ap, drop}
use Rattle.std.specs.Prelude.{codes, decimal, IfSome, if◌then◌else◌}
use Rattle.std.specs.Result.{result_ok}
use Rattle.std.specs.Str.{bytes_eq}
use Rattle.std.proofs.lemmas.Option.{none-some}
use Rattle.serde_json.specs.Data.{Data, string, object}
use Rattle.cmc_meta.specs.Decimals.{number_in}
use Rattle.cmc_meta.specs.declared.object_meta.ObjectMeta.{ObjectMeta}
use Rattle.cmc_meta.proofs.DecimalLaws.{number_again, number_low}
use Rattle.cmc_objects.specs.Objects.{no_cert_status, no_request_status}
use Rattle.cmc_objects.specs.declared.certificate.CertSpec.{CertSpec}
use Rattle.cmc_objects.specs.declared.request.RequestSpec.{RequestSpec}
use Rattle.cmc_objects.specs.declared.object.Object.{Object}
use Rattle.cmc_objects.specs.declared.object.Object.TheVariants.{Cert, Request, Secret}
use Rattle.cmc_cursor.specs.Members.{Read, under, Field, fields_at, fields_of, optional_at, required_at, at_end}
use Rattle.cmc_cursor.specs.Readers.{found, text_at, word_at, name_at, decimal_in, decimal_at, pairs_at, parts_at, passes, text_member, sought_at}
use Rattle.cmc_cursor.proofs.Always.{Always, so, failed, next, after, below, either, with_both}
use Rattle.cmc_print.specs.Puts.{base64_text, map_tree}
use Rattle.cmc_print.specs.Printed.{owners_tree, meta_members, version_tree, named_meta_tree, spec_tree, request_tree, status_members, put_moments, request_status_members, applied_head, applied_tree}
use Rattle.cmc_codec.specs.Given.{given_at, given_or, next_member_or, needed_at}
use Rattle.cmc_codec.specs.MetadataForm.{sought_member, sought_or, sought_needed, owners_at, labelled_in, placed_in, head_at}
use Rattle.cmc_codec.specs.CertificateForm.{api_at, spec_at, api_request_spec_at}
use Rattle.cmc_codec.specs.ObjectForm.{status_last, applied_certificate_in, applied_request_in, applied_secret_in, any_version_at, stranger_in, object_in, applied_at}
use Rattle.cmc_codec.specs.Laws.{HasBytes, IsOrdered}
use Rattle.cmc_codec.specs.declared.certificate_in.Api.TheVariants.{V1}
use Rattle.cmc_codec.specs.declared.object_in.Applied.{Applied}
use Rattle.cmc_codec.specs.declared.metadata_in.Head.{Head}
use Rattle.cmc_codec.specs.declared.metadata_in.Placed.{Placed}
use Rattle.cmc_codec.proofs.Slots.{slots, start, bind, is_next, required_is, needed_is, member_or_is, put_is, some_option, put_option_is, some_list, put_list_is, list_given, option_given, sought_is}
use Rattle.cmc_codec.proofs.MetadataAgain.{IsMeta, pairs_again, parts_again, parts_in_order, head_so}
use Rattle.cmc_codec.proofs.PrintedSpecs.{IsSpec, IsRequestSpec, spec_again, request_again}
use Rattle.cmc_codec.proofs.SpecsAgain.{IsRequest, spec_so, api_request_so}
use Rattle.cmc_codec.proofs.ObjectsAgain.{Entries, bytes_again, parts_are}
use Rattle.cmc_codec.proofs.ValuesAgain.{member_or_so, needed_so}

abbrev Places : Type 0
Places = List (List ℕ × Option Data)

-- ---- resource versions

abbrev IsVersion : ℕ → Type 0
IsVersion n = decimal_at (version_tree n) ≡ Ok n

number_found : (o : Option ℕ) (n : ℕ) → found o ≡ Ok n → o ≡ Some n
number_found (Some m) n h = ap (λ (r : Read ℕ). result_ok r) h
number_found None n h = absurd (none-some n (ap (λ (r : Read ℕ). result_ok r) h))

decimal_again : (t : List ℕ) (n : ℕ) → decimal_in t ≡ Ok n → decimal_in (decimal n) ≡ Ok n
decimal_again t n e = ap (λ (o : Option ℕ). found o) (number_again n (number_low t n (number_found (number_in t) n e)))

decimal_so : (d : Data) → Always IsVersion (decimal_at d)
decimal_so d = next IsVersion (text_at d) decimal_in (λ t. record { each = λ n e. decimal_again t n e })

-- ---- metadata

abbrev meta_places : Option Data → Option Data → Option Data → Option Data → Option Data → Option Data → Places
meta_places annotations labels name namespace owners version =
    (codes "annotations", annotations) ∷ (codes "labels", labels) ∷ (codes "name", name) ∷ (codes "namespace", namespace) ∷ (codes "ownerReferences", owners) ∷ (codes "resourceVersion", version) ∷ []

abbrev places_of_meta : ObjectMeta → Option ℕ → Places
places_of_meta m v =
    meta_places (some_list (map_tree string) m.annotations) (some_list (map_tree string) m.labels) (Some (string m.name)) (Some (string m.namespace)) (some_list owners_tree m.owners) (some_option version_tree v)

meta_printed : (m : ObjectMeta) (v : Option ℕ) → named_meta_tree m v ≡ object (slots (places_of_meta m v))
unfolding named_meta_tree meta_members
meta_printed m v =
    let name = put_is (codes "name") (string m.name) (start {ss = meta_places None None None None None None} refl) refl in
    let namespace = put_is (codes "namespace") (string m.namespace) name refl in
    let labels = put_list_is (map_tree string) (codes "labels") m.labels namespace refl in
    let annotations = put_list_is (map_tree string) (codes "annotations") m.annotations labels refl in
    let owners = put_list_is owners_tree (codes "ownerReferences") m.owners annotations refl in
    let version = put_option_is version_tree (codes "resourceVersion") v owners refl in
    ap object version.same

sought_or_is : {A : Type 0} (absent : A) (read : Data → Read A) (n : List ℕ) (o : Option Data) (back : Places) (x : A)
    → is_next n back ≡ true → given_or absent read n o ≡ Ok x → sought_or absent read n (fields_of (slots ((n, o) ∷ back))) ≡ Ok (x, fields_of (slots back))
sought_or_is absent read n o back x h e = rw (sought_is n o back h, e) refl

sought_needed_is : {A : Type 0} (read : Data → Read A) (n : List ℕ) (d : Data) (back : Places) (x : A)
    → is_next n back ≡ true → read d ≡ Ok x → sought_needed read n (fields_of (slots ((n, Some d) ∷ back))) ≡ Ok (x, fields_of (slots back))
sought_needed_is read n d back x h e = rw (sought_is n (Some d) back h, e) refl

sought_member_is : {A : Type 0} (read : Data → Read A) (n : List ℕ) (o : Option Data) (back : Places) (x : Option A)
    → is_next n back ≡ true → given_at read n o ≡ Ok x → sought_member read n (fields_of (slots ((n, o) ∷ back))) ≡ Ok (x, fields_of (slots back))
sought_member_is read n o back x h e = rw (sought_is n o back h, e) refl

below_given : {A : Type 0} (n : List ℕ) (r : Read A) (x : A) → r ≡ Ok x → under n r ≡ Ok x
below_given n r x e = rw e refl

labelled_again : (m : ObjectMeta) (v : Option ℕ) → IsMeta m
    → labelled_in (fields_of (slots (places_of_meta m v))) ≡ Ok (record { annotations = m.annotations; labels = m.labels; name = m.name }, fields_of (slots (drop 3 (places_of_meta m v))))
unfolding labelled_in
labelled_again m v is =
    let ps = places_of_meta m v in
    (bind _ _ _ _ (sought_or_is [] pairs_at (codes "annotations") (some_list (map_tree string) m.annotations) (drop 1 ps) m.annotations refl (list_given pairs_at (map_tree string) (codes "annotations") m.annotations (pairs_again m.annotations is.annotations)))
    (bind _ _ _ _ (sought_or_is [] pairs_at (codes "labels") (some_list (map_tree string) m.labels) (drop 2 ps) m.labels refl (list_given pairs_at (map_tree string) (codes "labels") m.labels (pairs_again m.labels is.labels)))
    (bind _ _ _ _ (sought_needed_is name_at (codes "name") (string m.name) (drop 3 ps) m.name refl is.name) refl)))

placed_again : (m : ObjectMeta) (v : Option ℕ) → IsMeta m → IfSome v IsVersion
    → placed_in (fields_of (slots (drop 3 (places_of_meta m v)))) ≡ Ok (record { namespace = m.namespace; owners = m.owners; version = v }, [])
unfolding placed_in
placed_again m v is named =
    let ps = places_of_meta m v in
    (bind _ _ _ _ (sought_or_is (codes "default") name_at (codes "namespace") (Some (string m.namespace)) (drop 4 ps) m.namespace refl (below_given (codes "namespace") (name_at (string m.namespace)) m.namespace is.namespace))
    (bind _ _ _ _ (sought_or_is [] owners_at (codes "ownerReferences") (some_list owners_tree m.owners) (drop 5 ps) m.owners refl (list_given owners_at owners_tree (codes "ownerReferences") m.owners is.owners))
    (bind _ _ _ _ (sought_member_is decimal_at (codes "resourceVersion") (some_option version_tree v) [] v refl (option_given decimal_at version_tree (codes "resourceVersion") v named)) refl)))

abbrev head_is : Option ℕ → ObjectMeta → Head
head_is v m = record { meta = m; version = v }

head_again : (m : ObjectMeta) (v : Option ℕ) → IsMeta m → IfSome v IsVersion → head_at (named_meta_tree m v) ≡ Ok (head_is v m)
unfolding head_at
head_again m v is named =
    rw (meta_printed m v)
    (bind _ _ _ _ (labelled_again m v is)
    (bind _ _ _ _ (placed_again m v is named) (ap (λ (k : ObjectMeta). as_ok (head_is v k)) is.new)))
  where
    as_ok : Head → Read Head
    as_ok h = Ok h

given_so : {A : Type 0} (P : A → Type 0) (read : Data → Read A) (n : List ℕ) (given : Option Data) → ((d : Data) → Always P (read d)) → Always (λ o. IfSome o P) (given_at read n given)
given_so P read n None each = so tt
given_so P read n (Some d) each = after P (λ o. IfSome o P) (under n (read d)) (λ x. Ok (Some x)) (below P n (read d) (each d)) (λ x is. so is)

abbrev HasVersion : Option ℕ × List Field → Type 0
HasVersion p = IfSome p.0 IsVersion

version_member_so : (fs : List Field) → Always HasVersion (sought_member decimal_at (codes "resourceVersion") fs)
version_member_so fs =
    next HasVersion (sought_at (codes "resourceVersion") fs) _
    (λ p. after (λ o. IfSome o IsVersion) HasVersion (given_at decimal_at (codes "resourceVersion") p.0) (λ x. Ok (x, p.1)) (given_so IsVersion decimal_at (codes "resourceVersion") p.0 decimal_so) (λ x is. so is))

abbrev IsPlacedVersion : Placed × List Field → Type 0
IsPlacedVersion p = IfSome p.0.version IsVersion

placed_version_so : (fs : List Field) → Always IsPlacedVersion (placed_in fs)
unfolding placed_in
placed_version_so fs =
    next IsPlacedVersion (sought_or (codes "default") name_at (codes "namespace") fs) _ (λ namespace. next IsPlacedVersion (sought_or [] owners_at (codes "ownerReferences") namespace.1) _
    (λ owners. after HasVersion IsPlacedVersion (sought_member decimal_at (codes "resourceVersion") owners.1) _ (version_member_so owners.1) (λ version is. so is)))

abbrev IsHeadVersion : Head → Type 0
IsHeadVersion h = IfSome h.version IsVersion

head_version_so : (d : Data) → Always IsHeadVersion (head_at d)
unfolding head_at
head_version_so d =
    next IsHeadVersion (fields_at d) _ (λ fs. next IsHeadVersion (labelled_in fs) _ (λ labelled. after IsPlacedVersion IsHeadVersion (placed_in labelled.1) _ (placed_version_so labelled.1)
    (λ placed is. next IsHeadVersion _ _ (λ end. so is))))

abbrev IsHead : Head → Type 0
IsHead h = IsMeta h.meta × IsHeadVersion h

whole_head_so : (d : Data) → Always IsHead (head_at d)
whole_head_so d = with_both (λ (h : Head). IsMeta h.meta) IsHeadVersion (head_at d) (head_so d) (head_version_so d)

-- ---- Certificates

abbrev pub named : Object → Option ℕ → Applied
named o v = record { object = o; version = v }

abbrev pub new_certificate : ObjectMeta → CertSpec → Object
new_certificate m s = Cert (record { meta = m; spec = s; status = no_cert_status })

abbrev certificate_places : ObjectMeta → Option ℕ → CertSpec → Places
certificate_places m v s = (codes "apiVersion", Some (string (codes "cert-manager.io/v1"))) ∷ (codes "kind", Some (string (codes "Certificate"))) ∷ (codes "metadata", Some (named_meta_tree m v)) ∷ (codes "spec", Some (spec_tree s)) ∷ []

certificate_printed : (m : ObjectMeta) (v : Option ℕ) (s : CertSpec) → applied_tree (new_certificate m s) v ≡ object (slots (certificate_places m v s))
unfolding applied_tree applied_head status_members put_moments
certificate_printed m v s = refl

certificate_again : (m : ObjectMeta) (v : Option ℕ) (s : CertSpec) → IsMeta m → IfSome v IsVersion → IsSpec s → applied_certificate_in (fields_of (slots (certificate_places m v s))) ≡ Ok (named (new_certificate m s) v)
unfolding applied_certificate_in
certificate_again m v s is_meta is_version is_spec =
    let ps = certificate_places m v s in
    (bind _ _ _ _ (needed_is api_at (codes "apiVersion") (string (codes "cert-manager.io/v1")) (drop 1 ps) V1 refl refl)
    (bind _ _ _ _ (required_is (codes "kind") (string (codes "Certificate")) (drop 2 ps) refl)
    (bind _ _ _ _ (needed_is head_at (codes "metadata") (named_meta_tree m v) (drop 3 ps) (head_is v m) refl (head_again m v is_meta is_version))
    (bind _ _ _ _ (needed_is (spec_at V1) (codes "spec") (spec_tree s) [] s refl (spec_again s is_spec)) refl))))

pub certificate_whole : (m : ObjectMeta) (v : Option ℕ) (s : CertSpec) → IsMeta m → IfSome v IsVersion → IsSpec s → applied_at (applied_tree (new_certificate m s) v) ≡ Ok (named (new_certificate m s) v)
unfolding applied_at
certificate_whole m v s is_meta is_version is_spec = rw (certificate_printed m v s) (certificate_again m v s is_meta is_version is_spec)

-- ---- CertificateRequests

abbrev new_request : ObjectMeta → RequestSpec → Object
new_request m s = Request (record { meta = m; spec = s; status = no_request_status })

abbrev request_places : ObjectMeta → Option ℕ → RequestSpec → Places
request_places m v s = (codes "apiVersion", Some (string (codes "cert-manager.io/v1"))) ∷ (codes "kind", Some (string (codes "CertificateRequest"))) ∷ (codes "metadata", Some (named_meta_tree m v)) ∷ (codes "spec", Some (request_tree s)) ∷ []

request_printed : (m : ObjectMeta) (v : Option ℕ) (s : RequestSpec) → applied_tree (new_request m s) v ≡ object (slots (request_places m v s))
unfolding applied_tree applied_head request_status_members
request_printed m v s = refl

request_in_again : (m : ObjectMeta) (v : Option ℕ) (s : RequestSpec) → IsMeta m → IfSome v IsVersion → IsRequestSpec s → applied_request_in (fields_of (slots (request_places m v s))) ≡ Ok (named (new_request m s) v)
unfolding applied_request_in
request_in_again m v s is_meta is_version is_spec =
    let ps = request_places m v s in
    (bind _ _ _ _ (needed_is api_at (codes "apiVersion") (string (codes "cert-manager.io/v1")) (drop 1 ps) V1 refl refl)
    (bind _ _ _ _ (required_is (codes "kind") (string (codes "CertificateRequest")) (drop 2 ps) refl)
    (bind _ _ _ _ (needed_is head_at (codes "metadata") (named_meta_tree m v) (drop 3 ps) (head_is v m) refl (head_again m v is_meta is_version))
    (bind _ _ _ _ (needed_is (api_request_spec_at V1) (codes "spec") (request_tree s) [] s refl (request_again s is_spec)) refl))))

request_whole : (m : ObjectMeta) (v : Option ℕ) (s : RequestSpec) → IsMeta m → IfSome v IsVersion → IsRequestSpec s → applied_at (applied_tree (new_request m s) v) ≡ Ok (named (new_request m s) v)
unfolding applied_at
request_whole m v s is_meta is_version is_spec = rw (request_printed m v s) (request_in_again m v s is_meta is_version is_spec)

-- ---- Secrets

abbrev new_secret : ObjectMeta → List ℕ → Entries → Object
new_secret m t parts = Secret (record { meta = m; kind_text = t; parts = parts })

abbrev secret_places : ObjectMeta → Option ℕ → List ℕ → Option Data → Places
secret_places m v t given = (codes "apiVersion", Some (string (codes "v1"))) ∷ (codes "data", given) ∷ (codes "kind", Some (string (codes "Secret"))) ∷ (codes "metadata", Some (named_meta_tree m v)) ∷ (codes "type", Some (string t)) ∷ []

abbrev places_of_secret : ObjectMeta → Option ℕ → List ℕ → Entries → Places
places_of_secret m v t parts = secret_places m v t (some_list (map_tree base64_text) parts)

secret_printed : (m : ObjectMeta) (v : Option ℕ) (t : List ℕ) (parts : Entries) → applied_tree (new_secret m t parts) v ≡ object (slots (places_of_secret m v t parts))
unfolding applied_tree applied_head
secret_printed m v t [] = refl
secret_printed m v t (p ∷ parts) = refl

is_secret : (m : ObjectMeta) (v : Option ℕ) (t : List ℕ) (given : Option Data) → text_member (codes "kind") (object (slots (secret_places m v t given))) ≡ Some (codes "Secret")
is_secret m v t None = refl
is_secret m v t (Some d) = refl

secret_again : (m : ObjectMeta) (v : Option ℕ) (t : List ℕ) (parts : Entries) → IsMeta m → IfSome v IsVersion → parts_at (map_tree base64_text parts) ≡ Ok parts
    → applied_secret_in (fields_of (slots (places_of_secret m v t parts))) ≡ Ok (named (new_secret m t parts) v)
unfolding applied_secret_in
secret_again m v t parts is_meta is_version are_parts =
    let ps = places_of_secret m v t parts in
    (bind _ _ _ _ (needed_is (word_at (codes "v1")) (codes "apiVersion") (string (codes "v1")) (drop 1 ps) tt refl refl)
    (bind _ _ _ _ (member_or_is [] parts_at (codes "data") (some_list (map_tree base64_text) parts) (drop 2 ps) parts refl (list_given parts_at (map_tree base64_text) (codes "data") parts are_parts))
    (bind _ _ _ _ (required_is (codes "kind") (string (codes "Secret")) (drop 3 ps) refl)
    (bind _ _ _ _ (needed_is head_at (codes "metadata") (named_meta_tree m v) (drop 4 ps) (head_is v m) refl (head_again m v is_meta is_version)) refl))))

secret_whole : (m : ObjectMeta) (v : Option ℕ) (t : List ℕ) (parts : Entries) → IsMeta m → IfSome v IsVersion → parts_at (map_tree base64_text parts) ≡ Ok parts → applied_at (applied_tree (new_secret m t parts) v) ≡ Ok (named (new_secret m t parts) v)
unfolding applied_at
secret_whole m v t parts is_meta is_version are_parts = rw (secret_printed m v t parts, is_secret m v t (some_list (map_tree base64_text) parts)) (secret_again m v t parts is_meta is_version are_parts)

-- ---- objects that are read

abbrev pub IsAppliedAgain : Applied → Type 0
IsAppliedAgain a = HasBytes a.object → applied_at (applied_tree a.object a.version) ≡ Ok a

certificate_so : (fs : List Field) → Always IsAppliedAgain (applied_certificate_in fs)
unfolding applied_certificate_in
certificate_so fs =
    next IsAppliedAgain (needed_at api_at (codes "apiVersion") fs) _ (λ api. next IsAppliedAgain (required_at (codes "kind") api.1) _
    (λ kind. after _ IsAppliedAgain (needed_at head_at (codes "metadata") kind.1) _ (needed_so IsHead head_at (codes "metadata") kind.1 whole_head_so)
    (λ head is_head. after _ IsAppliedAgain (needed_at (spec_at api.0) (codes "spec") head.1) _ (needed_so IsSpec (spec_at api.0) (codes "spec") head.1 (spec_so api.0))
    (λ spec is_spec. next IsAppliedAgain (status_last spec.1) _ (λ end. so (λ bytes. certificate_whole _ _ _ is_head.0 is_head.1 is_spec))))))

request_so : (fs : List Field) → Always IsAppliedAgain (applied_request_in fs)
unfolding applied_request_in
request_so fs =
    next IsAppliedAgain (needed_at api_at (codes "apiVersion") fs) _ (λ api. next IsAppliedAgain (required_at (codes "kind") api.1) _
    (λ kind. after _ IsAppliedAgain (needed_at head_at (codes "metadata") kind.1) _ (needed_so IsHead head_at (codes "metadata") kind.1 whole_head_so)
    (λ head is_head. after _ IsAppliedAgain (needed_at (api_request_spec_at api.0) (codes "spec") head.1) _ (needed_so IsRequest (api_request_spec_at api.0) (codes "spec") head.1 (api_request_so api.0))
    (λ spec is_spec. next IsAppliedAgain (status_last spec.1) _ (λ end. so (λ bytes. request_whole _ _ _ is_head.0 is_head.1 (is_spec (bytes_again _ bytes))))))))

secret_so : (fs : List Field) → Always IsAppliedAgain (applied_secret_in fs)
unfolding applied_secret_in
secret_so fs =
    next IsAppliedAgain (needed_at (word_at (codes "v1")) (codes "apiVersion") fs) _ (λ api. after _ IsAppliedAgain (next_member_or [] parts_at (codes "data") api.1) _ (member_or_so IsOrdered [] parts_at (codes "data") api.1 tt parts_in_order)
    (λ parts are_parts. next IsAppliedAgain (required_at (codes "kind") parts.1) _
    (λ kind. after _ IsAppliedAgain (needed_at head_at (codes "metadata") kind.1) _ (needed_so IsHead head_at (codes "metadata") kind.1 whole_head_so)
    (λ head is_head. next IsAppliedAgain (optional_at (codes "status") head.1) _ (λ status. next IsAppliedAgain (passes (codes "status") status.0) _
    (λ _. next IsAppliedAgain (next_member_or (codes "Opaque") text_at (codes "type") status.1) _
    (λ type. next IsAppliedAgain (at_end type.1) _ (λ end. so (λ bytes. secret_whole _ _ _ _ is_head.0 is_head.1 (parts_again _ are_parts (parts_are _ bytes)))))))))))

stranger_so : (fs : List Field) → Always IsAppliedAgain (stranger_in fs)
unfolding stranger_in
stranger_so fs =
    next IsAppliedAgain (needed_at any_version_at (codes "apiVersion") fs) _ (λ api. next IsAppliedAgain (optional_at (codes "data") api.1) _
    (λ given. next IsAppliedAgain (passes (codes "data") given.0) _ (λ _. next IsAppliedAgain (required_at (codes "kind") given.1) _ (λ kind. failed (codes "kind" ∷ [])))))

object_so : (kind : Option (List ℕ)) (fs : List Field) → Always IsAppliedAgain (object_in kind fs)
object_so None fs = stranger_so fs
object_so (Some kind) fs =
    either IsAppliedAgain (bytes_eq kind (codes "Certificate")) (applied_certificate_in fs) (if bytes_eq kind (codes "CertificateRequest") then applied_request_in fs else (if bytes_eq kind (codes "Secret") then applied_secret_in fs else stranger_in fs)) (certificate_so fs)
    (either IsAppliedAgain (bytes_eq kind (codes "CertificateRequest")) (applied_request_in fs) (if bytes_eq kind (codes "Secret") then applied_secret_in fs else stranger_in fs) (request_so fs)
    (either IsAppliedAgain (bytes_eq kind (codes "Secret")) (applied_secret_in fs) (stranger_in fs) (secret_so fs) (stranger_so fs)))

pub applied_so : (d : Data) → Always IsAppliedAgain (applied_at d)
unfolding applied_at
applied_so d = next IsAppliedAgain (fields_at d) (object_in (text_member (codes "kind") d)) (λ fs. object_so (text_member (codes "kind") d) fs)
