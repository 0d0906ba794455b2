-- An object that is read with its status is of the form, and has nothing that the store owns.
use Rattle.std.proofs.Common.{◌≡◌, ℕ, List, [], ◌∷◌, Option, Some, None, Ok, Err, refl, ap, sym, ◌∙◌}
use Rattle.std.specs.Prelude.{codes, if◌then◌else◌}
use Rattle.std.specs.Str.{bytes_eq}
use Rattle.serde_json.specs.Data.{Data}
use Rattle.serde_json.specs.Find.{get}
use Rattle.cmc_meta.specs.declared.object_meta.ObjectMeta.{ObjectMeta}
use Rattle.cmc_objects.specs.Objects.{meta_of, no_cert_status, no_request_status}
use Rattle.cmc_objects.specs.declared.certificate.Certificate.{Certificate}
use Rattle.cmc_objects.specs.declared.request.CertificateRequest.{CertificateRequest}
use Rattle.cmc_objects.specs.declared.secret.Secret.{Secret as SecretObject}
use Rattle.cmc_objects.specs.declared.object.Object.{Object}
use Rattle.cmc_objects.specs.declared.object.Object.TheVariants.{Cert, Request, Secret}
use Rattle.cmc_cursor.specs.Members.{Read, ◌>>=◌, Field, fields_at, optional_at, required_at, at_end}
use Rattle.cmc_cursor.specs.Readers.{text_at, word_at, parts_at, passes, text_member}
use Rattle.cmc_cursor.proofs.Always.{Always, so, failed, next, after, below, either, further}
use Rattle.cmc_codec.specs.Given.{given_or, next_member_or, needed_at}
use Rattle.cmc_codec.specs.MetadataForm.{head_at}
use Rattle.cmc_codec.specs.CertificateForm.{api_at, spec_at, api_request_spec_at}
use Rattle.cmc_codec.specs.ObjectForm.{status_last, applied_certificate_in, applied_request_in, applied_secret_in, any_version_at, stranger_in, object_in, applied_at, object_read_at}
use Rattle.cmc_codec.specs.Laws.{HasBytes, bare}
use Rattle.cmc_codec.specs.declared.metadata_in.Head.{Head}
use Rattle.cmc_codec.specs.declared.object_in.Applied.{Applied}
use Rattle.cmc_codec.proofs.MetadataAgain.{IsMeta, head_so}
use Rattle.cmc_codec.proofs.ValuesAgain.{needed_so}
use Rattle.cmc_status_form.specs.StatusForm.{cert_status_at, request_status_at}
use Rattle.cmc_status_form.specs.WholeForm.{cert_with, request_with, secret_with, with_status_read, whole_object_at}
use Rattle.cmc_status_form.specs.Laws.{HasStatusForm, HasStatusWidths, HasWholeForm, as_printed}
use Rattle.cmc_status_form.proofs.StatusesAgain.{IsReadStatus, cert_status_so, no_status, IsReadRequest, request_status_so, no_request}

-- ---- without their status

-- it has no status, and nothing that the store owns
abbrev IsBare : Object → Type 0
IsBare o = bare o ≡ o

abbrev IsNew : Applied → Type 0
IsNew a = IsBare a.object

abbrev HasNewMeta : Head → Type 0
HasNewMeta h = IsMeta h.meta

certificate_so : (fs : List Field) → Always IsNew (applied_certificate_in fs)
unfolding applied_certificate_in
certificate_so fs =
    next IsNew (needed_at api_at (codes "apiVersion") fs) _ (λ api. next IsNew (required_at (codes "kind") api.1) _
    (λ kind. after _ IsNew (needed_at head_at (codes "metadata") kind.1) _ (needed_so HasNewMeta head_at (codes "metadata") kind.1 head_so)
    (λ head is. next IsNew (needed_at (spec_at api.0) (codes "spec") head.1) _
    (λ spec. next IsNew (status_last spec.1) _ (λ end. so (ap (λ (m : ObjectMeta). Cert (record { meta = m; spec = spec.0; status = no_cert_status })) is.new))))))

request_so : (fs : List Field) → Always IsNew (applied_request_in fs)
unfolding applied_request_in
request_so fs =
    next IsNew (needed_at api_at (codes "apiVersion") fs) _ (λ api. next IsNew (required_at (codes "kind") api.1) _
    (λ kind. after _ IsNew (needed_at head_at (codes "metadata") kind.1) _ (needed_so HasNewMeta head_at (codes "metadata") kind.1 head_so)
    (λ head is. next IsNew (needed_at (api_request_spec_at api.0) (codes "spec") head.1) _
    (λ spec. next IsNew (status_last spec.1) _ (λ end. so (ap (λ (m : ObjectMeta). Request (record { meta = m; spec = spec.0; status = no_request_status })) is.new))))))

secret_so : (fs : List Field) → Always IsNew (applied_secret_in fs)
unfolding applied_secret_in
secret_so fs =
    next IsNew (needed_at (word_at (codes "v1")) (codes "apiVersion") fs) _ (λ api. next IsNew (next_member_or [] parts_at (codes "data") api.1) _
    (λ parts. next IsNew (required_at (codes "kind") parts.1) _
    (λ kind. after _ IsNew (needed_at head_at (codes "metadata") kind.1) _ (needed_so HasNewMeta head_at (codes "metadata") kind.1 head_so)
    (λ head is. next IsNew (optional_at (codes "status") head.1) _ (λ status. next IsNew (passes (codes "status") status.0) _
    (λ dropped. next IsNew (next_member_or (codes "Opaque") text_at (codes "type") status.1) _
    (λ type. next IsNew (at_end type.1) _ (λ end. so (ap (λ (m : ObjectMeta). Secret (record { meta = m; kind_text = type.0; parts = parts.0 })) is.new)))))))))

stranger_so : (fs : List Field) → Always IsNew (stranger_in fs)
unfolding stranger_in
stranger_so fs =
    next IsNew (needed_at any_version_at (codes "apiVersion") fs) _ (λ api. next IsNew (optional_at (codes "data") api.1) _
    (λ given. next IsNew (passes (codes "data") given.0) _ (λ passed. next IsNew (required_at (codes "kind") given.1) _ (λ kind. failed (codes "kind" ∷ [])))))

object_so : (kind : Option (List ℕ)) (fs : List Field) → Always IsNew (object_in kind fs)
object_so None fs = stranger_so fs
object_so (Some kind) fs =
    either IsNew (bytes_eq kind (codes "Certificate")) (applied_certificate_in fs) (if bytes_eq kind (codes "CertificateRequest") then applied_request_in fs else (if bytes_eq kind (codes "Secret") then applied_secret_in fs else stranger_in fs)) (certificate_so fs)
    (either IsNew (bytes_eq kind (codes "CertificateRequest")) (applied_request_in fs) (if bytes_eq kind (codes "Secret") then applied_secret_in fs else stranger_in fs) (request_so fs)
    (either IsNew (bytes_eq kind (codes "Secret")) (applied_secret_in fs) (stranger_in fs) (secret_so fs) (stranger_so fs)))

applied_so : (d : Data) → Always IsNew (applied_at d)
unfolding applied_at
applied_so d = next IsNew (fields_at d) (object_in (text_member (codes "kind") d)) (λ fs. object_so (text_member (codes "kind") d) fs)

bare_so : (d : Data) → Always IsBare (object_read_at d)
bare_so d = after IsNew IsBare (applied_at d) (λ applied. Ok applied.object) (applied_so d) (λ a is. so is)

-- ---- with their status

-- without its status it is the first, and it has a status of the form and nothing that the store owns
record IsWith (first o : Object) : Type 0 where
  without : bare o ≡ first
  printed : as_printed o ≡ o
  status : HasStatusWidths o → HasStatusForm o

given_so : {A : Type 0} (P : A → Type 0) (absent : A) (read : Data → Read A) (n : List ℕ) (given : Option Data) → P absent → ((d : Data) → Always P (read d)) → Always P (given_or absent read n given)
given_so P absent read n None none each = so none
given_so P absent read n (Some d) none each = below P n (read d) (each d)

certificate_with : (c : Certificate) (given : Option Data) → IsBare (Cert c) → Always (IsWith (Cert c)) (cert_with c given)
certificate_with c given is =
    after IsReadStatus (IsWith (Cert c)) (given_or no_cert_status cert_status_at (codes "status") given) (λ s. Ok (Cert (record c { status = s }))) (given_so IsReadStatus no_cert_status cert_status_at (codes "status") given no_status cert_status_so)
    (λ s read. so (record { without = is; printed = ap (λ (o : Object). Cert (record { meta = meta_of o; spec = c.spec; status = s })) is; status = read }))

request_is_with : (r : CertificateRequest) (given : Option Data) → IsBare (Request r) → Always (IsWith (Request r)) (request_with r given)
request_is_with r given is =
    after IsReadRequest (IsWith (Request r)) (given_or no_request_status request_status_at (codes "status") given) (λ s. Ok (Request (record r { status = s }))) (given_so IsReadRequest no_request_status request_status_at (codes "status") given no_request request_status_so)
    (λ s read. so (record { without = is; printed = ap (λ (o : Object). Request (record { meta = meta_of o; spec = r.spec; status = s })) is; status = read }))

secret_is_with : (s : SecretObject) (given : Option Data) → IsBare (Secret s) → Always (IsWith (Secret s)) (secret_with s given)
secret_is_with s None is = so (record { without = is; printed = is; status = λ w. tt })
secret_is_with s (Some d) is = failed (codes "status" ∷ [])

status_so : (first : Object) (given : Option Data) → IsBare first → Always (IsWith first) (with_status_read given first)
status_so (Cert c) given is = certificate_with c given is
status_so (Request r) given is = request_is_with r given is
status_so (Secret s) given is = secret_is_with s given is

as_ok : Object → Read Object
as_ok o = Ok o

formed : (d : Data) (first o : Object) → object_read_at d ≡ Ok first → IsWith first o → HasBytes o → HasStatusWidths o → HasWholeForm o
unfolding as_ok
formed d first o read is bytes widths = record { value = d; is_read = read ∙ ap as_ok (sym is.without); bytes = bytes; status = is.status widths }

-- what it is once its widths are known
abbrev IsFormed : Object → Type 0
IsFormed o = HasBytes o → HasStatusWidths o → HasWholeForm o × (as_printed o ≡ o)

then_formed : (d : Data) (r : Read Object) → object_read_at d ≡ r → Always IsBare r → Always IsFormed (r >>= with_status_read (get (codes "status") d))
then_formed d (Ok first) read bare_is = further (IsWith first) IsFormed (with_status_read (get (codes "status") d) first) (λ o is bytes widths. (formed d first o read is bytes widths, is.printed)) (status_so first (get (codes "status") d) (bare_is.each first refl))
then_formed d (Err path) read bare_is = failed path

whole_so : (d : Data) → Always IsFormed (whole_object_at d)
unfolding whole_object_at
whole_so d = then_formed d (object_read_at d) refl (bare_so d)

pub has_form : (d : Data) (o : Object) → whole_object_at d ≡ Ok o → HasBytes o → HasStatusWidths o → HasWholeForm o × (as_printed o ≡ o)
has_form d o read = (whole_so d).each o read
