-- What is printed of an object of the form, with its status, is read as that object.
use Rattle.std.proofs.Common.{◌≡◌, ℕ, List, [], ◌∷◌, true, Some, None, Ok, Err, refl, ap, sym, ◌∙◌, drop}
use Rattle.std.specs.Prelude.{codes}
use Rattle.serde_json.specs.Data.{Data, string, object, Members, no_members, member, put}
use Rattle.serde_json.specs.Find.{get}
use Rattle.cmc_meta.specs.declared.object_meta.ObjectMeta.{ObjectMeta}
use Rattle.cmc_objects.specs.Objects.{no_cert_status, no_request_status}
use Rattle.cmc_objects.specs.declared.certificate.CertSpec.{CertSpec}
use Rattle.cmc_objects.specs.declared.certificate.Certificate.{Certificate}
use Rattle.cmc_objects.specs.declared.request.RequestSpec.{RequestSpec}
use Rattle.cmc_objects.specs.declared.request.CertificateRequest.{CertificateRequest}
use Rattle.cmc_objects.specs.declared.secret.Secret.{Secret as SecretObject}
use Rattle.cmc_objects.specs.declared.object.Object.{Object}
use Rattle.cmc_objects.specs.declared.object.Object.TheVariants.{Cert, Request, Secret}
use Rattle.cmc_cursor.specs.Members.{Read, ◌>>=◌, under, Field, fields_of}
use Rattle.cmc_cursor.specs.Readers.{floats_in}
use Rattle.cmc_print.specs.Printed.{meta_members, meta_tree, spec_tree, request_tree, status_members, request_status_members, put_body, head_members, object_tree}
use Rattle.cmc_print.specs.Puts.{put_list, base64_text, map_tree}
use Rattle.cmc_codec.specs.Given.{needed_at}
use Rattle.cmc_codec.specs.MetadataForm.{head_at}
use Rattle.cmc_codec.specs.CertificateForm.{api_at, spec_at, api_request_spec_at}
use Rattle.cmc_codec.specs.ObjectForm.{status_last, applied_certificate_in, applied_request_in, applied_at, object_read_at}
use Rattle.cmc_codec.specs.Laws.{HasBytes, bare_meta, bare}
use Rattle.cmc_codec.specs.declared.certificate_in.Api.TheVariants.{V1}
use Rattle.cmc_codec.specs.declared.object_in.Applied.{Applied}
use Rattle.cmc_codec.specs.declared.metadata_in.Head.{Head}
use Rattle.cmc_codec.proofs.Slots.{slots, start, bind, is_next, required_is, needed_is, some_object, put_is, put_object_is}
use Rattle.cmc_codec.proofs.ObjectsAgain.{object_again}
use Rattle.cmc_status_form.specs.WholeForm.{with_status_read, whole_object_at}
use Rattle.cmc_status_form.specs.Laws.{HasStatusForm, HasWholeForm, as_printed}
use Rattle.cmc_status_form.proofs.Places.{Places}
use Rattle.cmc_status_form.proofs.StatusesAgain.{cert_status_again, cert_status_clear, request_status_again, request_status_clear}

-- ---- readings of which only the members behind them differ

same_next : {A B : Type 0} (r : Read A) (f g : A → Read B) → ((x : A) → f x ≡ g x) → r >>= f ≡ r >>= g
same_next (Ok x) f g same = same x
same_next (Err path) f g same = refl

regrouped : {A B C : Type 0} (r : Read A) (f : A → B) (g : B → Read C) → (r >>= (λ x. Ok (f x))) >>= g ≡ r >>= (λ x. g (f x))
regrouped (Ok x) f g = refl
regrouped (Err path) f g = refl

-- a member that has to stand and comes next, and then the rest
needed_then : {A B : Type 0} (read : Data → Read A) (n : List ℕ) (d : Data) (back : Places) (f : A × List Field → Read B)
    → is_next n back ≡ true → needed_at read n (fields_of (slots ((n, Some d) ∷ back))) >>= f ≡ under n (read d) >>= (λ x. f (x, fields_of (slots back)))
needed_then read n d back f h = rw (required_is n d back h) (regrouped (under n (read d)) (λ x. (x, fields_of (slots back))) f)

-- a status without a float is passed, and nothing comes behind it
abbrev status_place : Members → Places
status_place ms = (codes "status", some_object ms) ∷ []

status_passes : (ms : Members) → floats_in ms ≡ Ok tt → status_last (fields_of (slots (status_place ms))) ≡ Ok tt
status_passes no_members clear = refl
status_passes (member n d rest) clear = rw clear refl

-- ---- Certificates

abbrev certificate_places : Data → Data → Places → Places
certificate_places meta spec back = (codes "apiVersion", Some (string (codes "cert-manager.io/v1"))) ∷ (codes "kind", Some (string (codes "Certificate"))) ∷ (codes "metadata", Some meta) ∷ (codes "spec", Some spec) ∷ back

abbrev new_certificate : Head → CertSpec → Read Applied
new_certificate h s = Ok (record { object = Cert (record { meta = h.meta; spec = s; status = no_cert_status }); version = h.version })

certificate_parts : (meta spec : Data) (ms : Members) → floats_in ms ≡ Ok tt
    → applied_certificate_in (fields_of (slots (certificate_places meta spec (status_place ms)))) ≡ under (codes "metadata") (head_at meta) >>= (λ h. under (codes "spec") (spec_at V1 spec) >>= (λ s. new_certificate h s))
unfolding applied_certificate_in
certificate_parts meta spec ms clear =
    let back = status_place ms in
    let ps = certificate_places meta spec back in
    (bind _ _ _ _ (needed_is api_at (codes "apiVersion") (string (codes "cert-manager.io/v1")) (drop 1 ps) V1 refl refl)
    (bind _ _ _ _ (required_is (codes "kind") (string (codes "Certificate")) (drop 2 ps) refl)
    (needed_then head_at (codes "metadata") meta (drop 3 ps) _ refl
    ∙ same_next (under (codes "metadata") (head_at meta)) _ _ (λ h. needed_then (spec_at V1) (codes "spec") spec back _ refl
    ∙ same_next (under (codes "spec") (spec_at V1 spec)) _ _ (λ s. bind _ _ _ _ (status_passes ms clear) refl)))))

certificate_printed : (c : Certificate) → object_tree (Cert c) ≡ object (slots (certificate_places (meta_tree c.meta) (spec_tree c.spec) (status_place (status_members c.status))))
unfolding object_tree head_members
certificate_printed c =
    let none : Places = (codes "apiVersion", None) ∷ (codes "kind", None) ∷ (codes "metadata", None) ∷ (codes "spec", None) ∷ (codes "status", None) ∷ [] in
    let api = put_is (codes "apiVersion") (string (codes "cert-manager.io/v1")) (start {ss = none} refl) refl in
    let kind = put_is (codes "kind") (string (codes "Certificate")) api refl in
    let meta = put_is (codes "metadata") (meta_tree c.meta) kind refl in
    let spec = put_is (codes "spec") (spec_tree c.spec) meta refl in
    let status = put_object_is (codes "status") (status_members c.status) spec refl in
    ap object status.same

meta_same : (m : ObjectMeta) → meta_tree m ≡ meta_tree (bare_meta m)
unfolding meta_tree meta_members
meta_same m = refl

certificate_applied : (c : Certificate) → applied_at (object_tree (Cert c)) ≡ under (codes "metadata") (head_at (meta_tree c.meta)) >>= (λ h. under (codes "spec") (spec_at V1 (spec_tree c.spec)) >>= (λ s. new_certificate h s))
unfolding applied_at
certificate_applied c = rw (certificate_printed c) (certificate_parts (meta_tree c.meta) (spec_tree c.spec) (status_members c.status) (cert_status_clear c.status))

-- what is applied is the same without the status and what the store owns
certificate_bare : (c : Certificate) → applied_at (object_tree (Cert c)) ≡ applied_at (object_tree (bare (Cert c)))
certificate_bare c =
    certificate_applied c
    ∙ ap (λ (d : Data). under (codes "metadata") (head_at d) >>= (λ h. under (codes "spec") (spec_at V1 (spec_tree c.spec)) >>= (λ s. new_certificate h s))) (meta_same c.meta)
    ∙ sym (certificate_applied (record { meta = bare_meta c.meta; spec = c.spec; status = no_cert_status }))

certificate_status : (meta spec : Data) (ms : Members) → get (codes "status") (object (slots (certificate_places meta spec (status_place ms)))) ≡ some_object ms
certificate_status meta spec no_members = refl
certificate_status meta spec (member n d rest) = refl

certificate_has : (c : Certificate) → get (codes "status") (object_tree (Cert c)) ≡ some_object (status_members c.status)
certificate_has c = rw (certificate_printed c) (certificate_status (meta_tree c.meta) (spec_tree c.spec) (status_members c.status))

-- ---- CertificateRequests

abbrev new_request : Head → RequestSpec → Read Applied
new_request h s = Ok (record { object = Request (record { meta = h.meta; spec = s; status = no_request_status }); version = h.version })

abbrev request_places : Data → Data → Places → Places
request_places meta spec back = (codes "apiVersion", Some (string (codes "cert-manager.io/v1"))) ∷ (codes "kind", Some (string (codes "CertificateRequest"))) ∷ (codes "metadata", Some meta) ∷ (codes "spec", Some spec) ∷ back

request_parts : (meta spec : Data) (ms : Members) → floats_in ms ≡ Ok tt
    → applied_request_in (fields_of (slots (request_places meta spec (status_place ms)))) ≡ under (codes "metadata") (head_at meta) >>= (λ h. under (codes "spec") (api_request_spec_at V1 spec) >>= (λ s. new_request h s))
unfolding applied_request_in
request_parts meta spec ms clear =
    let back = status_place ms in
    let ps = request_places meta spec back in
    (bind _ _ _ _ (needed_is api_at (codes "apiVersion") (string (codes "cert-manager.io/v1")) (drop 1 ps) V1 refl refl)
    (bind _ _ _ _ (required_is (codes "kind") (string (codes "CertificateRequest")) (drop 2 ps) refl)
    (needed_then head_at (codes "metadata") meta (drop 3 ps) _ refl
    ∙ same_next (under (codes "metadata") (head_at meta)) _ _ (λ h. needed_then (api_request_spec_at V1) (codes "spec") spec back _ refl
    ∙ same_next (under (codes "spec") (api_request_spec_at V1 spec)) _ _ (λ s. bind _ _ _ _ (status_passes ms clear) refl)))))

request_printed : (r : CertificateRequest) → object_tree (Request r) ≡ object (slots (request_places (meta_tree r.meta) (request_tree r.spec) (status_place (request_status_members r.status))))
unfolding object_tree head_members
request_printed r =
    let none : Places = (codes "apiVersion", None) ∷ (codes "kind", None) ∷ (codes "metadata", None) ∷ (codes "spec", None) ∷ (codes "status", None) ∷ [] in
    let api = put_is (codes "apiVersion") (string (codes "cert-manager.io/v1")) (start {ss = none} refl) refl in
    let kind = put_is (codes "kind") (string (codes "CertificateRequest")) api refl in
    let meta = put_is (codes "metadata") (meta_tree r.meta) kind refl in
    let spec = put_is (codes "spec") (request_tree r.spec) meta refl in
    let status = put_object_is (codes "status") (request_status_members r.status) spec refl in
    ap object status.same

request_applied : (r : CertificateRequest) → applied_at (object_tree (Request r)) ≡ under (codes "metadata") (head_at (meta_tree r.meta)) >>= (λ h. under (codes "spec") (api_request_spec_at V1 (request_tree r.spec)) >>= (λ s. new_request h s))
unfolding applied_at
request_applied r = rw (request_printed r) (request_parts (meta_tree r.meta) (request_tree r.spec) (request_status_members r.status) (request_status_clear r.status))

request_bare : (r : CertificateRequest) → applied_at (object_tree (Request r)) ≡ applied_at (object_tree (bare (Request r)))
request_bare r =
    request_applied r
    ∙ ap (λ (d : Data). under (codes "metadata") (head_at d) >>= (λ h. under (codes "spec") (api_request_spec_at V1 (request_tree r.spec)) >>= (λ s. new_request h s))) (meta_same r.meta)
    ∙ sym (request_applied (record { meta = bare_meta r.meta; spec = r.spec; status = no_request_status }))

request_status : (meta spec : Data) (ms : Members) → get (codes "status") (object (slots (request_places meta spec (status_place ms)))) ≡ some_object ms
request_status meta spec no_members = refl
request_status meta spec (member n d rest) = refl

request_has : (r : CertificateRequest) → get (codes "status") (object_tree (Request r)) ≡ some_object (request_status_members r.status)
request_has r = rw (request_printed r) (request_status (meta_tree r.meta) (request_tree r.spec) (request_status_members r.status))

-- ---- Secrets

secret_bare : (s : SecretObject) → object_tree (Secret s) ≡ object_tree (bare (Secret s))
unfolding object_tree head_members
secret_bare s = ap (λ (d : Data). object (put_body (Secret s) (put (codes "metadata") d (put (codes "kind") (string (codes "Secret")) (put (codes "apiVersion") (string (codes "v1")) no_members))))) (meta_same s.meta)

secret_has : (s : SecretObject) → get (codes "status") (object_tree (Secret s)) ≡ None
unfolding object_tree head_members
secret_has s = go s.parts
  where
    go : (parts : List (List ℕ × List ℕ)) → get (codes "status") (object (put_list (map_tree base64_text) (codes "data") parts (put (codes "type") (string s.kind_text) (put (codes "metadata") (meta_tree s.meta) (put (codes "kind") (string (codes "Secret")) (put (codes "apiVersion") (string (codes "v1")) no_members)))))) ≡ None
    go [] = refl
    go (p ∷ parts) = refl

-- ---- objects

bare_applied : (o : Object) → applied_at (object_tree o) ≡ applied_at (object_tree (bare o))
bare_applied (Cert c) = certificate_bare c
bare_applied (Request r) = request_bare r
bare_applied (Secret s) = ap applied_at (secret_bare s)

has_bytes : (o : Object) → HasBytes o → HasBytes (bare o)
has_bytes (Cert c) bytes = bytes
has_bytes (Request r) bytes = bytes
has_bytes (Secret s) bytes = bytes

-- the object without its status is read of its print
pub read_bare : (o : Object) → HasWholeForm o → object_read_at (object_tree o) ≡ Ok (bare o)
read_bare o is = ap (λ (r : Read Applied). r >>= (λ applied. Ok applied.object)) (bare_applied o) ∙ object_again is.value (bare o) is.is_read (has_bytes o is.bytes)

status_given : (o : Object) → HasStatusForm o → with_status_read (get (codes "status") (object_tree o)) (bare o) ≡ Ok (as_printed o)
status_given (Cert c) is = rw (certificate_has c, cert_status_again c.status is) refl
status_given (Request r) is = rw (request_has r, request_status_again r.status is) refl
status_given (Secret s) is = rw (secret_has s) refl

pub whole_again : (o : Object) → HasWholeForm o → whole_object_at (object_tree o) ≡ Ok (as_printed o)
unfolding whole_object_at
whole_again o is = bind _ _ _ _ (read_bare o is) (status_given o is.status)
