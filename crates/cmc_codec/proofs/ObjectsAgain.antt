-- An object that is read is printed as one that is read again.
use Rattle.std.proofs.Common.{◌≡◌, ℕ, List, [], ◌∷◌, Option, Some, None, Ok, refl, drop}
use Rattle.std.specs.Prelude.{codes, Bool, true, false, if◌then◌else◌}
use Rattle.std.specs.Str.{bytes_eq}
use Rattle.base64.specs.Engines.{standard}
use Rattle.base64.specs.GeneralPurpose.{IsBytes}
use Rattle.base64.proofs.EngineFacts.{decode_of-encode_of}
use Rattle.serde_json.specs.Data.{Data, string, object}
use Rattle.cmc_meta.specs.declared.object_meta.ObjectMeta.{ObjectMeta}
use Rattle.cmc_objects.specs.Objects.{no_cert_status, no_request_status}
use Rattle.cmc_objects.specs.declared.certificate.CertSpec.{CertSpec}
use Rattle.cmc_objects.specs.declared.request.RequestSpec.{RequestSpec}
use Rattle.cmc_objects.specs.declared.object.Object.{Object}
use Rattle.cmc_objects.specs.declared.object.Object.TheVariants.{Cert, Request, Secret}
use Rattle.cmc_cursor.specs.Members.{Read, Field, fields_at, fields_of, optional_at, required_at, at_end}
use Rattle.cmc_cursor.specs.Readers.{text_at, word_at, bytes_at, parts_at, passes, text_member}
use Rattle.cmc_print.specs.Puts.{base64_text, map_tree}
use Rattle.cmc_print.specs.Printed.{meta_tree, spec_tree, request_tree, status_members, put_moments, request_status_members, head_members, object_tree}
use Rattle.cmc_codec.specs.Given.{next_member_or, needed_at}
use Rattle.cmc_codec.specs.MetadataForm.{head_at}
use Rattle.cmc_codec.specs.CertificateForm.{api_at, spec_at, api_request_spec_at}
use Rattle.cmc_codec.specs.ObjectForm.{status_last, applied_certificate_in, applied_request_in, applied_secret_in, any_version_at, stranger_in, object_in, applied_at, object_read_at}
use Rattle.cmc_codec.specs.Laws.{EachValue, HasBytes}
use Rattle.cmc_codec.specs.declared.certificate_in.Api.TheVariants.{V1}
use Rattle.cmc_codec.specs.declared.object_in.Applied.{Applied}
use Rattle.cmc_codec.specs.declared.metadata_in.Head.{Head}
use Rattle.cmc_codec.specs.Laws.{IsOrdered}
use Rattle.cmc_codec.proofs.Slots.{slots, bind, required_is, needed_is, member_or_is, some_list, list_given}
use Rattle.cmc_codec.proofs.Entries.{AreAgain}
use Rattle.cmc_cursor.proofs.Always.{Always, so, failed, next, after}
use Rattle.cmc_codec.proofs.ValuesAgain.{member_or_so, needed_so}
use Rattle.cmc_codec.proofs.PrintedSpecs.{IsSpec, IsRequestSpec, spec_again, request_again}
use Rattle.cmc_codec.proofs.SpecsAgain.{IsRequest, spec_so, api_request_so}
use Rattle.cmc_codec.proofs.MetadataAgain.{IsMeta, head_again, head_so, parts_again, parts_in_order}

abbrev pub Entries : Type 0
Entries = List (List ℕ × List ℕ)

abbrev bare : Object → Applied
bare o = record { object = o; version = None }

abbrev new_certificate : ObjectMeta → CertSpec → Object
new_certificate m s = Cert (record { meta = m; spec = s; status = no_cert_status })

abbrev new_request : ObjectMeta → RequestSpec → Object
new_request m s = Request (record { meta = m; spec = s; status = no_request_status })

abbrev new_secret : ObjectMeta → List ℕ → Entries → Object
new_secret m t parts = Secret (record { meta = m; kind_text = t; parts = parts })

abbrev head_is : ObjectMeta → Head
head_is m = record { meta = m; version = None }

-- ---- Certificates

abbrev certificate_places : ObjectMeta → CertSpec → List (List ℕ × Option Data)
certificate_places m s = (codes "apiVersion", Some (string (codes "cert-manager.io/v1"))) ∷ (codes "kind", Some (string (codes "Certificate"))) ∷ (codes "metadata", Some (meta_tree m)) ∷ (codes "spec", Some (spec_tree s)) ∷ []

certificate_printed : (m : ObjectMeta) (s : CertSpec) → object_tree (new_certificate m s) ≡ object (slots (certificate_places m s))
unfolding object_tree head_members status_members put_moments
certificate_printed m s = refl

certificate_again : (m : ObjectMeta) (s : CertSpec) → IsMeta m → IsSpec s → applied_certificate_in (fields_of (slots (certificate_places m s))) ≡ Ok (bare (new_certificate m s))
unfolding applied_certificate_in
certificate_again m s is_meta is_spec =
    let ps = certificate_places m s in
    (bind _ _ _ _ (needed_is api_at (codes "apiVersion") (string (codes "cert-manager.io/v1")) (drop 1 ps) V1 refl refl)
    (bind _ _ _ _ (required_is (codes "kind") (string (codes "Certificate")) (drop 2 ps) refl)
    (bind _ _ _ _ (needed_is head_at (codes "metadata") (meta_tree m) (drop 3 ps) (head_is m) refl (head_again m is_meta))
    (bind _ _ _ _ (needed_is (spec_at V1) (codes "spec") (spec_tree s) [] s refl (spec_again s is_spec)) refl))))

certificate_whole : (m : ObjectMeta) (s : CertSpec) → IsMeta m → IsSpec s → applied_at (object_tree (new_certificate m s)) ≡ Ok (bare (new_certificate m s))
unfolding applied_at
certificate_whole m s is_meta is_spec = rw (certificate_printed m s) (certificate_again m s is_meta is_spec)

-- ---- CertificateRequests

abbrev request_places : ObjectMeta → RequestSpec → List (List ℕ × Option Data)
request_places m s = (codes "apiVersion", Some (string (codes "cert-manager.io/v1"))) ∷ (codes "kind", Some (string (codes "CertificateRequest"))) ∷ (codes "metadata", Some (meta_tree m)) ∷ (codes "spec", Some (request_tree s)) ∷ []

request_printed : (m : ObjectMeta) (s : RequestSpec) → object_tree (new_request m s) ≡ object (slots (request_places m s))
unfolding object_tree head_members request_status_members
request_printed m s = refl

request_in_again : (m : ObjectMeta) (s : RequestSpec) → IsMeta m → IsRequestSpec s → applied_request_in (fields_of (slots (request_places m s))) ≡ Ok (bare (new_request m s))
unfolding applied_request_in
request_in_again m s is_meta is_spec =
    let ps = request_places m s in
    (bind _ _ _ _ (needed_is api_at (codes "apiVersion") (string (codes "cert-manager.io/v1")) (drop 1 ps) V1 refl refl)
    (bind _ _ _ _ (required_is (codes "kind") (string (codes "CertificateRequest")) (drop 2 ps) refl)
    (bind _ _ _ _ (needed_is head_at (codes "metadata") (meta_tree m) (drop 3 ps) (head_is m) refl (head_again m is_meta))
    (bind _ _ _ _ (needed_is (api_request_spec_at V1) (codes "spec") (request_tree s) [] s refl (request_again s is_spec)) refl))))

request_whole : (m : ObjectMeta) (s : RequestSpec) → IsMeta m → IsRequestSpec s → applied_at (object_tree (new_request m s)) ≡ Ok (bare (new_request m s))
unfolding applied_at
request_whole m s is_meta is_spec = rw (request_printed m s) (request_in_again m s is_meta is_spec)

-- ---- Secrets

abbrev pub secret_places : ObjectMeta → List ℕ → Option Data → List (List ℕ × Option Data)
secret_places m t given = (codes "apiVersion", Some (string (codes "v1"))) ∷ (codes "data", given) ∷ (codes "kind", Some (string (codes "Secret"))) ∷ (codes "metadata", Some (meta_tree m)) ∷ (codes "type", Some (string t)) ∷ []

abbrev pub places_of : ObjectMeta → List ℕ → Entries → List (List ℕ × Option Data)
places_of m t parts = secret_places m t (some_list (map_tree base64_text) parts)

pub secret_printed : (m : ObjectMeta) (t : List ℕ) (parts : Entries) → object_tree (new_secret m t parts) ≡ object (slots (places_of m t parts))
unfolding object_tree head_members
secret_printed m t [] = refl
secret_printed m t (p ∷ parts) = refl

pub is_secret : (m : ObjectMeta) (t : List ℕ) (given : Option Data) → text_member (codes "kind") (object (slots (secret_places m t given))) ≡ Some (codes "Secret")
is_secret m t None = refl
is_secret m t (Some d) = refl

secret_again : (m : ObjectMeta) (t : List ℕ) (parts : Entries) → IsMeta m → parts_at (map_tree base64_text parts) ≡ Ok parts → applied_secret_in (fields_of (slots (places_of m t parts))) ≡ Ok (bare (new_secret m t parts))
unfolding applied_secret_in
secret_again m t parts is_meta are_parts =
    let ps = places_of m t parts in
    (bind _ _ _ _ (needed_is (word_at (codes "v1")) (codes "apiVersion") (string (codes "v1")) (drop 1 ps) tt refl refl)
    (bind _ _ _ _ (member_or_is [] parts_at (codes "data") (some_list (map_tree base64_text) parts) (drop 2 ps) parts refl (list_given parts_at (map_tree base64_text) (codes "data") parts are_parts))
    (bind _ _ _ _ (required_is (codes "kind") (string (codes "Secret")) (drop 3 ps) refl)
    (bind _ _ _ _ (needed_is head_at (codes "metadata") (meta_tree m) (drop 4 ps) (head_is m) refl (head_again m is_meta)) refl))))

secret_whole : (m : ObjectMeta) (t : List ℕ) (parts : Entries) → IsMeta m → parts_at (map_tree base64_text parts) ≡ Ok parts → applied_at (object_tree (new_secret m t parts)) ≡ Ok (bare (new_secret m t parts))
unfolding applied_at
secret_whole m t parts is_meta are_parts = rw (secret_printed m t parts, is_secret m t (some_list (map_tree base64_text) parts)) (secret_again m t parts is_meta are_parts)

-- ---- bytes

pub bytes_again : (b : List ℕ) → IsBytes b → bytes_at (base64_text b) ≡ Ok b
bytes_again b are = rw (decode_of-encode_of standard b refl are) refl

pub parts_are : (es : Entries) → EachValue IsBytes es → AreAgain (λ v. bytes_at (base64_text v) ≡ Ok v) es
parts_are [] are = tt
parts_are (e ∷ es) are = (bytes_again e.1 are.0, parts_are es are.1)

-- ---- objects that are read

abbrev IsAgain : Applied → Type 0
IsAgain a = HasBytes a.object → applied_at (object_tree a.object) ≡ Ok (bare a.object)

certificate_so : (fs : List Field) → Always IsAgain (applied_certificate_in fs)
unfolding applied_certificate_in
certificate_so fs =
    next IsAgain (needed_at api_at (codes "apiVersion") fs) _ (λ api. next IsAgain (required_at (codes "kind") api.1) _
    (λ kind. after _ IsAgain (needed_at head_at (codes "metadata") kind.1) _ (needed_so (λ h. IsMeta h.meta) head_at (codes "metadata") kind.1 head_so)
    (λ head is_head. after _ IsAgain (needed_at (spec_at api.0) (codes "spec") head.1) _ (needed_so IsSpec (spec_at api.0) (codes "spec") head.1 (spec_so api.0))
    (λ spec is_spec. next IsAgain (status_last spec.1) _ (λ end. so (λ bytes. certificate_whole _ _ is_head is_spec))))))

request_so : (fs : List Field) → Always IsAgain (applied_request_in fs)
unfolding applied_request_in
request_so fs =
    next IsAgain (needed_at api_at (codes "apiVersion") fs) _ (λ api. next IsAgain (required_at (codes "kind") api.1) _
    (λ kind. after _ IsAgain (needed_at head_at (codes "metadata") kind.1) _ (needed_so (λ h. IsMeta h.meta) head_at (codes "metadata") kind.1 head_so)
    (λ head is_head. after _ IsAgain (needed_at (api_request_spec_at api.0) (codes "spec") head.1) _ (needed_so IsRequest (api_request_spec_at api.0) (codes "spec") head.1 (api_request_so api.0))
    (λ spec is_spec. next IsAgain (status_last spec.1) _ (λ end. so (λ bytes. request_whole _ _ is_head (is_spec (bytes_again _ bytes))))))))

secret_so : (fs : List Field) → Always IsAgain (applied_secret_in fs)
unfolding applied_secret_in
secret_so fs =
    next IsAgain (needed_at (word_at (codes "v1")) (codes "apiVersion") fs) _ (λ api. after _ IsAgain (next_member_or [] parts_at (codes "data") api.1) _ (member_or_so IsOrdered [] parts_at (codes "data") api.1 tt parts_in_order)
    (λ parts are_parts. next IsAgain (required_at (codes "kind") parts.1) _
    (λ kind. after _ IsAgain (needed_at head_at (codes "metadata") kind.1) _ (needed_so (λ h. IsMeta h.meta) head_at (codes "metadata") kind.1 head_so)
    (λ head is_head. next IsAgain (optional_at (codes "status") head.1) _ (λ status. next IsAgain (passes (codes "status") status.0) _
    (λ _. next IsAgain (next_member_or (codes "Opaque") text_at (codes "type") status.1) _
    (λ type. next IsAgain (at_end type.1) _ (λ end. so (λ bytes. secret_whole _ _ _ is_head (parts_again _ are_parts (parts_are _ bytes)))))))))))

stranger_so : (fs : List Field) → Always IsAgain (stranger_in fs)
unfolding stranger_in
stranger_so fs =
    next IsAgain (needed_at any_version_at (codes "apiVersion") fs) _ (λ api. next IsAgain (optional_at (codes "data") api.1) _
    (λ given. next IsAgain (passes (codes "data") given.0) _ (λ _. next IsAgain (required_at (codes "kind") given.1) _ (λ kind. failed (codes "kind" ∷ [])))))

either : (b : Bool) (x y : Read Applied) → Always IsAgain x → Always IsAgain y → Always IsAgain (if b then x else y)
either true x y first second = first
either false x y first second = second

object_so : (kind : Option (List ℕ)) (fs : List Field) → Always IsAgain (object_in kind fs)
object_so None fs = stranger_so fs
object_so (Some kind) fs =
    either (bytes_eq kind (codes "Certificate")) (applied_certificate_in fs) (if bytes_eq kind (codes "CertificateRequest") then applied_request_in fs else (if bytes_eq kind (codes "Secret") then applied_secret_in fs else stranger_in fs)) (certificate_so fs)
    (either (bytes_eq kind (codes "CertificateRequest")) (applied_request_in fs) (if bytes_eq kind (codes "Secret") then applied_secret_in fs else stranger_in fs) (request_so fs)
    (either (bytes_eq kind (codes "Secret")) (applied_secret_in fs) (stranger_in fs) (secret_so fs) (stranger_so fs)))

applied_so : (d : Data) → Always IsAgain (applied_at d)
unfolding applied_at
applied_so d = next IsAgain (fields_at d) (object_in (text_member (codes "kind") d)) (λ fs. object_so (text_member (codes "kind") d) fs)

abbrev IsWholeAgain : Object → Type 0
IsWholeAgain o = HasBytes o → object_read_at (object_tree o) ≡ Ok o

applied_alone : (a : Applied) → IsAgain a → IsWholeAgain a.object
applied_alone a is bytes = rw (is bytes) refl

-- what is printed of an object that was read is read again
pub object_again : (d : Data) (o : Object) → object_read_at d ≡ Ok o → HasBytes o → object_read_at (object_tree o) ≡ Ok o
object_again d o e = (after IsAgain IsWholeAgain (applied_at d) (λ applied. Ok applied.object) (applied_so d) (λ a is. so (applied_alone a is))).each o e
