-- Which CertificateRequest stands for the issuance of a Certificate.
use Rattle.std.specs.Prelude.{ℕ, ℤ, ◌==◌, Bool, true, not, ◌&&◌, ◌||◌, List, [], codes, Option, Some, None, decimal, find, length, if◌then◌else◌}
use Rattle.std.specs.List.{last_or}
use Rattle.cmc_meta.specs.PairLists.{with_text}
use Rattle.cmc_der.specs.Keys.{PublicKey}
use Rattle.cmc_x509.specs.ReadKeys.{key_file_at}
use Rattle.cmc_x509_build.specs.declared.requests.NameSet.{NameSet}
use Rattle.cmc_x509_build.specs.Requests.{names_of, request_body}
use Rattle.cmc_x509_build.specs.Octets.{signed_octets}
use Rattle.cmc_objects.specs.declared.certificate.Certificate.{Certificate}
use Rattle.cmc_objects.specs.declared.certificate.CertSpec.{CertSpec}
use Rattle.cmc_objects.specs.declared.request.CertificateRequest.{CertificateRequest}
use Rattle.cmc_objects.specs.declared.request.RequestSpec.{RequestSpec}
use Rattle.cmc_objects.specs.declared.secret.Secret.{Secret as SecretObject}
use Rattle.cmc_objects.specs.declared.object.Object.TheVariants.{Request}
use Rattle.cmc_objects.specs.declared.orders.Order.{Order}
use Rattle.cmc_objects.specs.declared.orders.Order.TheVariants.{Csr}
use Rattle.cmc_objects.specs.declared.call.Call.{Call}
use Rattle.cmc_objects.specs.declared.call.Call.TheVariants.{Create}
use Rattle.cmc_objects.specs.Objects.{no_request_status}
use Rattle.cmc_match.specs.Facts.{key_in, fits}
use Rattle.cmc_pass.specs.declared.pass.Views.{Views}
use Rattle.cmc_pass.specs.declared.pass.Act.{Act}
use Rattle.cmc_pass.specs.declared.pass.Act.TheVariants.{Nothing, Ask as Asks}
use Rattle.cmc_pass.specs.declared.value.Value.{Value}
use Rattle.cmc_pass.specs.declared.value.Value.TheVariants.{Made, Signed, Answered, Judged}
use Rattle.cmc_rules.specs.Trigger.{is_issuing}
use Rattle.cmc_rules.specs.RevisionManager.{delete_call, delete_of}
use Rattle.cmc_rules.specs.Owners.{owned_meta}
use Rattle.cmc_rules.specs.NextKeys.{named_key}
use Rattle.cmc_rules.specs.NextRequests.{next_revision, next_requests, is_next, is_wanted, is_refused, failed_before}

-- ---- the question: the signature of a certification request with the names of the specification

abbrev pub name_set : CertSpec → NameSet
name_set spec = record { common = spec.common_name; dns = spec.dns_names; ips = spec.ip_addresses; uris = spec.uris; emails = spec.emails }

-- its body, with this public key
unfoldable pub body_of : CertSpec → PublicKey → List ℕ
body_of spec key = request_body (record { key = key; names = names_of (name_set spec) })

unfoldable pub ask_signature : Certificate → List ℕ → PublicKey → Act
ask_signature c file key = Asks (Csr (record { key = file; body = body_of c.spec key }))

-- ---- the call: a request for what the specification asks for, which names the Certificate, the revision and the key

unfoldable pub request_marks : Certificate → SecretObject → List (List ℕ × List ℕ)
request_marks c k =
    with_text
    (with_text (with_text [] (codes "cert-manager.io/certificate-name") c.meta.name) (codes "cert-manager.io/certificate-revision") (decimal (next_revision c)))
    (codes "cert-manager.io/private-key-secret-name")
    k.meta.name

unfoldable pub request_spec : CertSpec → List ℕ → RequestSpec
request_spec spec request = record { issuer = spec.issuer; duration = spec.duration; is_ca = spec.is_ca; usages = spec.usages; request = request }

unfoldable pub new_request : Certificate → SecretObject → List ℕ → CertificateRequest
new_request c k request = record { meta = owned_meta c [] (request_marks c k); spec = request_spec c.spec request; status = no_request_status }

-- its create, under a name that is generated
unfoldable pub make_request : Certificate → SecretObject → List ℕ → Call
make_request c k request = Create (Request (new_request c k request)) true

-- ---- the table

-- another one has to take its place: it asks for something else, or failed in an issuance before this one
abbrev pub is_stale : Certificate → List ℕ → CertificateRequest → Bool
is_stale c file r = not (is_wanted c file r) || (is_refused r && failed_before c r)

abbrev pub stale_request : Certificate → List ℕ → List CertificateRequest → Option CertificateRequest
stale_request c file requests = find (λ r. is_next c r && is_stale c file r) requests

-- the key file of a fitting key is readable
abbrev pub ask_with : Certificate → List ℕ → Option PublicKey → Act
ask_with c file None = Nothing
ask_with c file (Some key) = ask_signature c file key

-- where none stands one is asked for, one stays, and of several the last one goes
abbrev pub by_count : Certificate → List ℕ → List CertificateRequest → Act
by_count c file next = if length next == 0 then ask_with c file (key_file_at file) else (if length next == 1 then Nothing else delete_of (last_or None next))

-- the first stale one goes
abbrev pub by_stale : Certificate → List ℕ → List CertificateRequest → Option CertificateRequest → Act
by_stale c file requests None = by_count c file (next_requests c requests)
by_stale c file requests (Some stale) = delete_call stale

-- nothing is done before a fitting key exists under the name that the status has
abbrev pub with_request_file : Certificate → List CertificateRequest → Option (List ℕ) → Act
with_request_file c requests None = Nothing
with_request_file c requests (Some file) = if fits c.spec.key file then by_stale c file requests (stale_request c file requests) else Nothing

abbrev pub with_key : Certificate → List CertificateRequest → Option SecretObject → Act
with_key c requests None = Nothing
with_key c requests (Some k) = with_request_file c requests (key_in k)

abbrev pub request_act_for : Certificate → List SecretObject → List CertificateRequest → Act
request_act_for c next requests = if is_issuing c then with_key c requests (named_key c.status.next_key next) else Nothing

abbrev pub request_of : Option Certificate → List SecretObject → List CertificateRequest → Act
request_of None next requests = Nothing
request_of (Some c) next requests = request_act_for c next requests

unfoldable pub request_manager : Views → Act
request_manager views = request_of views.certificate views.next views.requests

-- ---- what follows a value: the request with the signature that was made

abbrev pub signed_by : Certificate → SecretObject → Option PublicKey → List ℕ → Option Call
signed_by c k None signature = None
signed_by c k (Some key) signature = Some (make_request c k (signed_octets (body_of c.spec key) signature))

abbrev pub signed_in : Certificate → SecretObject → Option (List ℕ) → List ℕ → Option Call
signed_in c k None signature = None
signed_in c k (Some file) signature = signed_by c k (key_file_at file) signature

abbrev pub signed_with : Certificate → Option SecretObject → List ℕ → Option Call
signed_with c None signature = None
signed_with c (Some k) signature = signed_in c k (key_in k) signature

abbrev pub signed_for : Option Certificate → List SecretObject → List ℕ → Option Call
signed_for None next signature = None
signed_for (Some c) next signature = signed_with c (named_key c.status.next_key next) signature

abbrev pub request_from : Views → Value → Option Call
request_from views (Made file) = None
request_from views (Signed signature) = signed_for views.certificate views.next signature
request_from views (Answered answer) = None
request_from views (Judged approved) = None

-- it hangs neither on the moment nor on the question, which its value answers
unfoldable pub request_after : Views → ℤ → Order → Value → Option Call
request_after views moment order value = request_from views value
