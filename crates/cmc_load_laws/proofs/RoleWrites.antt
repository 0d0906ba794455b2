-- Which role may store an object of a kind, and what it keeps of the one before.
use Rattle.std.proofs.Common.{◌≡◌, ◌⊎◌, inl, inr, Bool, true, false, Option, Some, None, refl}
use Rattle.cmc_objects.specs.declared.certificate.Certificate.{Certificate}
use Rattle.cmc_objects.specs.declared.certificate.CertStatus.{CertStatus}
use Rattle.cmc_objects.specs.declared.request.CertificateRequest.{CertificateRequest}
use Rattle.cmc_objects.specs.declared.request.RequestStatus.{RequestStatus}
use Rattle.cmc_objects.specs.declared.secret.Secret.{Secret as SecretObject}
use Rattle.cmc_objects.specs.declared.object.Object.{Object}
use Rattle.cmc_objects.specs.declared.object.Object.TheVariants.{Cert, Request, Secret}
use Rattle.cmc_objects.specs.declared.role.Role.{Role}
use Rattle.cmc_objects.specs.declared.role.Role.TheVariants.{Trigger, KeyManager, RequestManager, Approver, Issuer, Issuing, Readiness, Revision}
use Rattle.cmc_rules.specs.Rights.{Changes, ChangesAnswer, ChangesIssuance, ChangesIssuing, ChangesNextKey, ChangesReadiness, ChangesVerdict, DeletesWhere, IsLabelled, IsRequestObject, KeepsMeta, Makes, MayChange, OfCertificates, OfRequests}
use Rattle.cmc_load_laws.proofs.RolesKeep.{IsLater, certificate_later, no_new_certificate}

-- ---- Certificates

-- what was there was the Certificate
pub record WasCertificate (old : Option Object) (d : Certificate) : Type 0 where
  pub before : Certificate
  pub was : old ≡ Some (Cert before)
  pub later : IsLater before (Some (Cert d))

none_deleted : (P : Object → Type 0) (old : Option Object) (new : Object) → DeletesWhere P old (Some new) → ⊥
none_deleted P None new is = is
none_deleted P (Some o) new is = is

not_from_request : (role : Role) (r : CertificateRequest) (d : Certificate) → MayChange role (Some (Request r)) (Some (Cert d)) → ⊥
not_from_request Trigger r d is = is
not_from_request KeyManager r d (inl is) = is
not_from_request KeyManager r d (inr (inl is)) = is
not_from_request KeyManager r d (inr (inr is)) = is
not_from_request RequestManager r d (inl is) = is
not_from_request RequestManager r d (inr is) = is
not_from_request Approver r d is = is
not_from_request Issuer r d is = is
not_from_request Issuing r d (inl is) = is
not_from_request Issuing r d (inr (inl is)) = is.0
not_from_request Issuing r d (inr (inr is)) = is
not_from_request Readiness r d is = is
not_from_request Revision r d is = is

not_from_secret : (role : Role) (k : SecretObject) (d : Certificate) → MayChange role (Some (Secret k)) (Some (Cert d)) → ⊥
not_from_secret Trigger k d is = is
not_from_secret KeyManager k d (inl is) = is
not_from_secret KeyManager k d (inr (inl is)) = is
not_from_secret KeyManager k d (inr (inr is)) = is
not_from_secret RequestManager k d (inl is) = is
not_from_secret RequestManager k d (inr is) = is
not_from_secret Approver k d is = is
not_from_secret Issuer k d is = is
not_from_secret Issuing k d (inl is) = is
not_from_secret Issuing k d (inr (inl is)) = is.1
not_from_secret Issuing k d (inr (inr is)) = is
not_from_secret Readiness k d is = is
not_from_secret Revision k d is = is

pub was_certificate : (role : Role) (old : Option Object) (d : Certificate) → MayChange role old (Some (Cert d)) → WasCertificate old d
was_certificate role None d is = absurd (no_new_certificate role d is)
was_certificate role (Some (Cert c)) d is = record { before = c; was = refl; later = certificate_later role c (Some (Cert d)) is }
was_certificate role (Some (Request r)) d is = absurd (not_from_request role r d is)
was_certificate role (Some (Secret k)) d is = absurd (not_from_secret role k d is)

-- ---- requests

-- a request of the same metadata was there
pub record WasRequest (old : Option Object) (r : CertificateRequest) : Type 0 where
  pub before : CertificateRequest
  pub was : old ≡ Some (Request before)
  pub kept : KeepsMeta before.meta r.meta

no_request_by : (P : CertStatus → CertStatus → Type 0) (old : Option Object) (r : CertificateRequest) → Changes (OfCertificates P) old (Some (Request r)) → ⊥
no_request_by P None r is = is
no_request_by P (Some (Cert c)) r is = is
no_request_by P (Some (Request q)) r is = is
no_request_by P (Some (Secret k)) r is = is

request_by : (P : RequestStatus → RequestStatus → Type 0) (old : Option Object) (r : CertificateRequest) → Changes (OfRequests P) old (Some (Request r)) → WasRequest old r
request_by P None r is = absurd is
request_by P (Some (Cert c)) r is = absurd is
request_by P (Some (Request q)) r is = record { before = q; was = refl; kept = is.0 }
request_by P (Some (Secret k)) r is = absurd is

no_request_labelled : (b : Bool) (old : Option Object) (r : CertificateRequest) → Makes (IsLabelled b) old (Some (Request r)) → ⊥
no_request_labelled b None r is = is
no_request_labelled b (Some o) r is = is

no_request_issued : (old : Option Object) (r : CertificateRequest) → Changes (λ o n. IsLabelled false o × IsLabelled false n) old (Some (Request r)) → ⊥
no_request_issued None r is = is
no_request_issued (Some o) r is = is.1

made_none : (P : Object → Type 0) (old : Option Object) (new : Object) → Makes P old (Some new) → old ≡ None
made_none P None new is = refl
made_none P (Some o) new is = absurd is

-- the request manager makes it, or it was there
pub was_request : (role : Role) (old : Option Object) (r : CertificateRequest) → MayChange role old (Some (Request r)) → ((role ≡ RequestManager) × (old ≡ None)) ⊎ WasRequest old r
was_request Trigger old r is = absurd (no_request_by ChangesIssuing old r is)
was_request KeyManager old r (inl is) = absurd (no_request_labelled true old r is)
was_request KeyManager old r (inr (inl is)) = absurd (none_deleted (IsLabelled true) old (Request r) is)
was_request KeyManager old r (inr (inr is)) = absurd (no_request_by ChangesNextKey old r is)
was_request RequestManager old r (inl is) = inl (refl, made_none IsRequestObject old (Request r) is)
was_request RequestManager old r (inr is) = absurd (none_deleted IsRequestObject old (Request r) is)
was_request Approver old r is = inr (request_by ChangesVerdict old r is)
was_request Issuer old r is = inr (request_by ChangesAnswer old r is)
was_request Issuing old r (inl is) = absurd (no_request_labelled false old r is)
was_request Issuing old r (inr (inl is)) = absurd (no_request_issued old r is)
was_request Issuing old r (inr (inr is)) = absurd (no_request_by ChangesIssuance old r is)
was_request Readiness old r is = absurd (no_request_by ChangesReadiness old r is)
was_request Revision old r is = absurd (none_deleted IsRequestObject old (Request r) is)

-- ---- Secrets

no_secret_by : (P : CertStatus → CertStatus → Type 0) (old : Option Object) (k : SecretObject) → Changes (OfCertificates P) old (Some (Secret k)) → ⊥
no_secret_by P None k is = is
no_secret_by P (Some (Cert c)) k is = is
no_secret_by P (Some (Request q)) k is = is
no_secret_by P (Some (Secret j)) k is = is

no_secret_restated : (P : RequestStatus → RequestStatus → Type 0) (old : Option Object) (k : SecretObject) → Changes (OfRequests P) old (Some (Secret k)) → ⊥
no_secret_restated P None k is = is
no_secret_restated P (Some (Cert c)) k is = is
no_secret_restated P (Some (Request q)) k is = is
no_secret_restated P (Some (Secret j)) k is = is

no_secret_made : (old : Option Object) (k : SecretObject) → Makes IsRequestObject old (Some (Secret k)) → ⊥
no_secret_made None k is = is
no_secret_made (Some o) k is = is

-- the key manager makes it, or issuing writes it
pub who_writes_secret : (role : Role) (old : Option Object) (k : SecretObject) → MayChange role old (Some (Secret k)) → ((role ≡ KeyManager) × (old ≡ None)) ⊎ (role ≡ Issuing)
who_writes_secret Trigger old k is = absurd (no_secret_by ChangesIssuing old k is)
who_writes_secret KeyManager old k (inl is) = inl (refl, made_none (IsLabelled true) old (Secret k) is)
who_writes_secret KeyManager old k (inr (inl is)) = absurd (none_deleted (IsLabelled true) old (Secret k) is)
who_writes_secret KeyManager old k (inr (inr is)) = absurd (no_secret_by ChangesNextKey old k is)
who_writes_secret RequestManager old k (inl is) = absurd (no_secret_made old k is)
who_writes_secret RequestManager old k (inr is) = absurd (none_deleted IsRequestObject old (Secret k) is)
who_writes_secret Approver old k is = absurd (no_secret_restated ChangesVerdict old k is)
who_writes_secret Issuer old k is = absurd (no_secret_restated ChangesAnswer old k is)
who_writes_secret Issuing old k is = inr refl
who_writes_secret Readiness old k is = absurd (no_secret_by ChangesReadiness old k is)
who_writes_secret Revision old k is = absurd (none_deleted IsRequestObject old (Secret k) is)
