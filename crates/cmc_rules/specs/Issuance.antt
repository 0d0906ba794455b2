-- How an issuance ends: with the Secret and a new revision, with a failure, or for a while with a temporary certificate.
use Rattle.std.specs.Prelude.{ℕ, ℤ, pos, ◌+◌, ◌-◌, ◌^◌, min, nat_le, Bool, true, false, not, ◌&&◌, List, [], ◌∷◌, length, filter, codes, Option, Some, None, unwrap_or, if◌then◌else◌}
use Rattle.std.specs.Str.{bytes_eq}
use Rattle.cmc_meta.specs.declared.conditions.Condition.{Condition}
use Rattle.cmc_meta.specs.declared.conditions.ConditionKind.TheVariants as kinds
use Rattle.cmc_meta.specs.declared.conditions.Tri.TheVariants.{True, False}
use Rattle.cmc_meta.specs.ConditionLists.{condition_at, transitioned, tri_eq}
use Rattle.cmc_meta.specs.PairLists.{with_text}
use Rattle.cmc_der.specs.Keys.{PublicKey, CertificateFields}
use Rattle.cmc_x509.specs.ReadKeys.{key_file_at}
use Rattle.cmc_x509.specs.ReadCertificates.{certificate_fields_at}
use Rattle.cmc_objects.specs.declared.certificate.Certificate.{Certificate}
use Rattle.cmc_objects.specs.declared.certificate.CertStatus.{CertStatus}
use Rattle.cmc_objects.specs.declared.request.CertificateRequest.{CertificateRequest}
use Rattle.cmc_objects.specs.declared.secret.Secret.{Secret as SecretObject}
use Rattle.cmc_objects.specs.declared.object.Object.TheVariants.{Cert, Secret}
use Rattle.cmc_objects.specs.declared.call.Call.{Call}
use Rattle.cmc_objects.specs.declared.call.Call.TheVariants.{Create, Update, UpdateStatus}
use Rattle.cmc_objects.specs.Objects.{key_of}
use Rattle.cmc_objects.specs.Defaults.{issuer_kind, issuer_group}
use Rattle.cmc_objects.specs.Requests.{is_approved, is_denied}
use Rattle.cmc_objects.specs.KeyPairs.{is_one_key, fields_with_key}
use Rattle.cmc_match.specs.Facts.{key_in, fits, pair_in}
use Rattle.cmc_match.specs.Marks.{is_next_key, is_temporary, asks_for_temporary}
use Rattle.cmc_match.specs.Revisions.{next_request}
use Rattle.cmc_answers.specs.Temporary.{temporary}
use Rattle.cmc_pass.specs.declared.pass.Views.{Views}
use Rattle.cmc_pass.specs.declared.pass.IssuePlan.{IssuePlan}
use Rattle.cmc_pass.specs.declared.pass.TemporaryPlan.{TemporaryPlan}
use Rattle.cmc_pass.specs.declared.pass.Act.{Act}
use Rattle.cmc_pass.specs.declared.pass.Act.TheVariants.{Nothing, Call as Calls, Issue, Temporary}
use Rattle.cmc_rules.specs.Trigger.{is_issuing}
use Rattle.cmc_rules.specs.NextKeys.{named_key}
use Rattle.cmc_rules.specs.NextRequests.{is_wanted, is_refused, failed_before}

-- ---- the status of the Certificate

-- the condition Issuing comes to its end
unfoldable pub ended_condition : ℤ → List ℕ → List ℕ → Condition
ended_condition moment reason message = record { kind = kinds.Issuing; status = False; reason = reason; message = message; since = moment }

-- the next revision stands, and no failure any more
unfoldable pub issued_status : ℤ → CertStatus → CertStatus
issued_status moment status = record status {
  conditions = transitioned status.conditions (ended_condition moment (codes "Issued") (codes "The certificate has been successfully issued"));
  revision = Some (unwrap_or status.revision 0 + 1);
  last_failure = None;
  attempts = None;
}

-- the issuance failed now, once more than before
unfoldable pub failed_status : ℤ → List ℕ → CertStatus → CertStatus
failed_status moment reason status = record status {
  conditions = transitioned status.conditions (ended_condition moment reason (codes "The certificate request has failed to complete and will be retried"));
  last_failure = Some moment;
  attempts = Some (min (unwrap_or status.attempts 0 + 1) (2 ^ 32 - 1));
}

-- the write of the status, at the version that was seen
unfoldable pub status_call : CertStatus → Certificate → Call
status_call status c = UpdateStatus (Cert (record c { status = status })) c.meta.version

unfoldable pub failure : ℤ → List ℕ → Certificate → Act
failure moment reason c = Calls (status_call (failed_status moment reason c.status) c)

-- ---- the Secret

-- the annotations say for which Certificate, and by which issuer
unfoldable pub signed_marks : Certificate → List (List ℕ × List ℕ) → List (List ℕ × List ℕ)
signed_marks c pairs =
    with_text
    (with_text
    (with_text (with_text pairs (codes "cert-manager.io/certificate-name") c.meta.name) (codes "cert-manager.io/issuer-name") c.spec.issuer.name)
    (codes "cert-manager.io/issuer-kind")
    (issuer_kind c.spec.issuer))
    (codes "cert-manager.io/issuer-group")
    (issuer_group c.spec.issuer)

-- all pairs but those of this name
abbrev pub without : List ℕ → List (List ℕ × List ℕ) → List (List ℕ × List ℕ)
without name pairs = filter (λ e. not (bytes_eq e.0 name)) pairs

-- and whether the certificate stands in
unfoldable pub marks : Bool → Certificate → List (List ℕ × List ℕ) → List (List ℕ × List ℕ)
marks true c pairs = with_text (signed_marks c pairs) (codes "cert-manager.io/temporary-certificate") (codes "true")
marks false c pairs = without (codes "cert-manager.io/temporary-certificate") (signed_marks c pairs)

-- the key, the certificate, and the CA's where there is one; all other parts stay
abbrev pub with_ca : List ℕ → List (List ℕ × List ℕ) → List (List ℕ × List ℕ)
with_ca [] parts = without (codes "ca.crt") parts
with_ca (b ∷ ca) parts = with_text parts (codes "ca.crt") (b ∷ ca)

unfoldable pub filled : List ℕ → List ℕ → List ℕ → List (List ℕ × List ℕ) → List (List ℕ × List ℕ)
filled key certificate ca parts = with_ca ca (with_text (with_text parts (codes "tls.key") key) (codes "tls.crt") certificate)

-- a new Secret under the name that the Certificate gives; nobody owns it
unfoldable pub new_target : Bool → Certificate → List ℕ → List ℕ → List ℕ → SecretObject
new_target stand_in c key certificate ca = record {
  meta = record {
    namespace = c.meta.namespace;
    name = c.spec.secret_name;
    uid = 0;
    version = 0;
    generation = 0;
    created = pos 0;
    labels = [];
    annotations = marks stand_in c [];
    owners = [];
  };
  kind_text = codes "kubernetes.io/tls";
  parts = filled key certificate ca [];
}

-- the one that stands keeps its type, its labels and all that is not named
unfoldable pub old_target : Bool → Certificate → List ℕ → List ℕ → List ℕ → SecretObject → SecretObject
old_target stand_in c key certificate ca old = record old {
  meta = record old.meta { annotations = marks stand_in c old.meta.annotations };
  parts = filled key certificate ca old.parts;
}

unfoldable pub secret_call : Bool → Certificate → List ℕ → List ℕ → List ℕ → Option SecretObject → Call
secret_call stand_in c key certificate ca None = Create (Secret (new_target stand_in c key certificate ca)) false
secret_call stand_in c key certificate ca (Some old) = Update (Secret (old_target stand_in c key certificate ca old)) old.meta.version

-- ---- the plans: the Certificate is read again, and only if it is as it was seen the Secret is written

unfoldable pub issue_plan : ℤ → Certificate → List ℕ → CertificateRequest → Option SecretObject → IssuePlan
issue_plan moment c file r target = record {
  get = key_of (Cert c);
  version = c.meta.version;
  secret = secret_call false c file r.status.certificate r.status.ca target;
  status = status_call (issued_status moment c.status) c;
}

unfoldable pub temporary_plan : Certificate → List ℕ → List ℕ → Option SecretObject → TemporaryPlan
temporary_plan c file certificate target = record {
  get = key_of (Cert c);
  version = c.meta.version;
  secret = secret_call true c file certificate [] target;
}

-- ---- what decides

-- the issuer has issued: Ready is True for that reason
abbrev pub says_issued : Option Condition → Bool
says_issued None = false
says_issued (Some ready) = tri_eq ready.status True && bytes_eq ready.reason (codes "Issued")

-- and the request is approved and not denied
abbrev pub is_granted : CertificateRequest → Bool
is_granted r = says_issued (condition_at r.status.conditions kinds.Ready) && (is_approved r && not (is_denied r))

-- the request has come to nothing in this issuance
abbrev pub fails_now : Certificate → CertificateRequest → Option ℤ → Bool
fails_now c r None = false
fails_now c r (Some failure) = not (failed_before c r)

abbrev pub says_failed : Option Condition → Bool
says_failed None = false
says_failed (Some ready) = bytes_eq ready.reason (codes "Failed")

-- by the issuer, or by who denied it
abbrev pub refusal : CertificateRequest → List ℕ
refusal r = if says_failed (condition_at r.status.conditions kinds.Ready) then codes "Failed" else codes "Denied"

-- the certificate is readable, and its public key is that of the file
abbrev pub is_some_pair : Option CertificateFields → Bool
is_some_pair None = false
is_some_pair (Some fields) = true

abbrev pub is_certified : List ℕ → List ℕ → Bool
is_certified file certificate = is_some_pair (fields_with_key (key_file_at file) (certificate_fields_at certificate))

-- the Secret of that name holds a next key itself
abbrev pub is_kept_for_keys : Option SecretObject → Bool
is_kept_for_keys None = false
is_kept_for_keys (Some k) = is_next_key k

-- the file has this public key
abbrev pub is_of_file : Option PublicKey → PublicKey → Bool
is_of_file None key = false
is_of_file (Some own) key = is_one_key own key

-- the target has no key and certificate that are a pair, or a stand-in for another key
abbrev pub lacks_pair : List ℕ → SecretObject → Option CertificateFields → Bool
lacks_pair file k None = true
lacks_pair file k (Some fields) = is_temporary k && not (is_of_file (key_file_at file) fields.key)

abbrev pub lacks_certificate : List ℕ → Option SecretObject → Bool
lacks_certificate file None = true
lacks_certificate file (Some k) = lacks_pair file k (pair_in k)

-- ---- the table

-- a temporary certificate of at most 16 MiB
abbrev pub temporary_with : Certificate → List ℕ → Option SecretObject → Option (List ℕ) → Act
temporary_with c file target None = Nothing
temporary_with c file target (Some certificate) = if nat_le (length certificate) 16777216 then Temporary (temporary_plan c file certificate target) else Nothing

-- while the request waits, where the Certificate asks for one and nothing better stands
abbrev pub while_waiting : ℤ → Certificate → List ℕ → Option SecretObject → CertificateRequest → Act
while_waiting moment c file target r =
    if asks_for_temporary c && (not (is_denied r) && (not (is_kept_for_keys target) && lacks_certificate file target))
    then temporary_with c file target (temporary r.spec.request file moment)
    else Nothing

-- what was issued is written, unless it does not belong to the key
abbrev pub with_granted : ℤ → Certificate → List ℕ → Option SecretObject → CertificateRequest → Act
with_granted moment c file target r =
    if is_certified file r.status.certificate
    then (if is_kept_for_keys target then Nothing else Issue (issue_plan moment c file r target))
    else failure moment (codes "InvalidCertificate") c

abbrev pub with_wanted : ℤ → Certificate → List ℕ → Option SecretObject → CertificateRequest → Act
with_wanted moment c file target r =
    if is_refused r then (if fails_now c r r.status.failure then failure moment (refusal r) c else Nothing)
    else (if is_granted r then with_granted moment c file target r else while_waiting moment c file target r)

-- only the one request of the next revision counts, if it asks for what the Certificate asks for, with this key
abbrev pub with_request : ℤ → Certificate → List ℕ → Option SecretObject → Option CertificateRequest → Act
with_request moment c file target None = Nothing
with_request moment c file target (Some r) = if is_wanted c file r then with_wanted moment c file target r else Nothing

-- and only a fitting key
abbrev pub with_file : ℤ → Certificate → Option SecretObject → List CertificateRequest → Option (List ℕ) → Act
with_file moment c target requests None = Nothing
with_file moment c target requests (Some file) =
    if fits c.spec.key file then with_request moment c file target (next_request c.status.revision requests) else Nothing

abbrev pub with_key_of : ℤ → Certificate → Option SecretObject → List CertificateRequest → Option SecretObject → Act
with_key_of moment c target requests None = Nothing
with_key_of moment c target requests (Some k) = with_file moment c target requests (key_in k)

abbrev pub issuing_of : ℤ → List SecretObject → Option SecretObject → List CertificateRequest → Option Certificate → Act
issuing_of moment next target requests None = Nothing
issuing_of moment next target requests (Some c) = if is_issuing c then with_key_of moment c target requests (named_key c.status.next_key next) else Nothing

unfoldable pub issuing : Views → ℤ → Act
issuing views moment = issuing_of moment views.next views.secret views.requests views.certificate
