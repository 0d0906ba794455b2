-- No role makes or deletes a Certificate, and each version of one owns and names the same.
use Rattle.std.proofs.Common.{◌≡◌, inl, inr, Bool, true, false, cond, List, [], ◌∷◌, Option, Some, None, refl, sym, ap, subst, ◌∙◌}
use Rattle.std.specs.BTreeMap.{is_at}
use Rattle.std.specs.Prelude.{option_and_then}
use Rattle.cmc_meta.specs.declared.key.Key.{Key}
use Rattle.cmc_meta.specs.declared.object_meta.ObjectMeta.{ObjectMeta}
use Rattle.cmc_meta.specs.Keys.{key_cmp}
use Rattle.cmc_objects.specs.declared.certificate.Certificate.{Certificate}
use Rattle.cmc_objects.specs.declared.certificate.CertSpec.{CertSpec}
use Rattle.cmc_objects.specs.declared.certificate.CertStatus.{CertStatus}
use Rattle.cmc_objects.specs.declared.request.RequestStatus.{RequestStatus}
use Rattle.cmc_objects.specs.declared.object.Object.{Object}
use Rattle.cmc_objects.specs.declared.object.Object.TheVariants.{Cert, Request, Secret}
use Rattle.cmc_objects.specs.declared.role.Role.{Role}
use Rattle.cmc_objects.specs.declared.role.Role.TheVariants.{Trigger, KeyManager, RequestManager, Approver, Issuer, Issuing, Readiness, Revision}
use Rattle.cmc_model.specs.Objects.{Objects, object_at}
use Rattle.cmc_model.specs.Replies.{put_at}
use Rattle.cmc_model.proofs.Versions.{object_at-put}
use Rattle.cmc_rules.specs.Rights.{Changes, ChangesAnswer, ChangesIssuance, ChangesIssuing, ChangesNextKey, ChangesReadiness, ChangesVerdict, IsLabelled, IsRequestObject, Makes, MayChange, OfCertificates, OfRequests, DeletesWhere}
use Rattle.cmc_rules.specs.Views.{certificate_in}
use Rattle.cmc_run_laws.specs.Lengths.{Each}
use Rattle.cmc_load_laws.specs.Frame.{IsSameOwner}
use Rattle.cmc_load_laws.specs.Totals.{HasCertificate}
use Rattle.cmc_load_laws.proofs.Elsewhere.{elsewhere_at}
use Rattle.cmc_load_laws.proofs.Totals.{one_key}

-- a later version of the same Certificate
pub record IsLater (c : Certificate) (o : Option Object) : Type 0 where
  pub later : Certificate
  pub is : o ≡ Some (Cert later)
  pub same : IsSameOwner c later
  pub owners : later.meta.owners ≡ c.meta.owners
  pub name : later.meta.name ≡ c.meta.name

changed : (P : CertStatus → CertStatus → Type 0) (c : Certificate) (o : Option Object) → Changes (OfCertificates P) (Some (Cert c)) o → IsLater c o
changed P c None is = absurd is
changed P c (Some (Cert d)) is =
    record {
      later = d;
      is = refl;
      same = record { namespace = sym (ap (λ (m : ObjectMeta). m.namespace) is.0); uid = sym (ap (λ (m : ObjectMeta). m.uid) is.0); secret_name = sym (ap (λ (s : CertSpec). s.secret_name) is.1) };
      owners = ap (λ (m : ObjectMeta). m.owners) is.0;
      name = ap (λ (m : ObjectMeta). m.name) is.0;
    }
changed P c (Some (Request r)) is = absurd is
changed P c (Some (Secret s)) is = absurd is

none_made : (P : Object → Type 0) (c : Certificate) (o : Option Object) → Makes P (Some (Cert c)) o → ⊥
none_made P c None is = is
none_made P c (Some x) is = is

no_key_taken : (b : Bool) (c : Certificate) (o : Option Object) → DeletesWhere (IsLabelled b) (Some (Cert c)) o → ⊥
no_key_taken b c None is = is
no_key_taken b c (Some x) is = is

no_request_taken : (c : Certificate) (o : Option Object) → DeletesWhere IsRequestObject (Some (Cert c)) o → ⊥
no_request_taken c None is = is
no_request_taken c (Some x) is = is

no_request_changed : (P : RequestStatus → RequestStatus → Type 0) (c : Certificate) (o : Option Object) → Changes (OfRequests P) (Some (Cert c)) o → ⊥
no_request_changed P c None is = is
no_request_changed P c (Some (Cert d)) is = is
no_request_changed P c (Some (Request r)) is = is
no_request_changed P c (Some (Secret s)) is = is

no_secret_changed : (c : Certificate) (o : Option Object) → Changes (λ o n. IsLabelled false o × IsLabelled false n) (Some (Cert c)) o → ⊥
no_secret_changed c None is = is
no_secret_changed c (Some x) is = is.0

-- what a role makes of a Certificate is a later version of it
pub certificate_later : (role : Role) (c : Certificate) (o : Option Object) → MayChange role (Some (Cert c)) o → IsLater c o
certificate_later Trigger c o is = changed ChangesIssuing c o is
certificate_later KeyManager c o (inl is) = absurd (none_made (IsLabelled true) c o is)
certificate_later KeyManager c o (inr (inl is)) = absurd (no_key_taken true c o is)
certificate_later KeyManager c o (inr (inr is)) = changed ChangesNextKey c o is
certificate_later RequestManager c o (inl is) = absurd (none_made IsRequestObject c o is)
certificate_later RequestManager c o (inr is) = absurd (no_request_taken c o is)
certificate_later Approver c o is = absurd (no_request_changed ChangesVerdict c o is)
certificate_later Issuer c o is = absurd (no_request_changed ChangesAnswer c o is)
certificate_later Issuing c o (inl is) = absurd (none_made (IsLabelled false) c o is)
certificate_later Issuing c o (inr (inl is)) = absurd (no_secret_changed c o is)
certificate_later Issuing c o (inr (inr is)) = changed ChangesIssuance c o is
certificate_later Readiness c o is = changed ChangesReadiness c o is
certificate_later Revision c o is = absurd (no_request_taken c o is)

-- and it makes none anew
pub no_new_certificate : (role : Role) (d : Certificate) → MayChange role None (Some (Cert d)) → ⊥
no_new_certificate Trigger d is = is
no_new_certificate KeyManager d (inl is) = is
no_new_certificate KeyManager d (inr (inl is)) = is
no_new_certificate KeyManager d (inr (inr is)) = is
no_new_certificate RequestManager d (inl is) = is
no_new_certificate RequestManager d (inr is) = is
no_new_certificate Approver d is = is
no_new_certificate Issuer d is = is
no_new_certificate Issuing d (inl is) = is
no_new_certificate Issuing d (inr (inl is)) = is
no_new_certificate Issuing d (inr (inr is)) = is
no_new_certificate Readiness d is = is
no_new_certificate Revision d is = is

-- ---- so a fixed list of Certificates stays one

kept_by : (b : Bool) (role : Role) (m : Objects) (key : Key) (new : Option Object) (q : Key) (o : Option Object) → is_at (key_cmp q) key ≡ b → object_at m q ≡ o → MayChange role (object_at m key) new
    → (c : Certificate) → option_and_then certificate_in o ≡ Some c → HasCertificate (put_at m key new) q
kept_by false role m key new q o off there may c is = (c, ap (option_and_then certificate_in) (elsewhere_at m key new q off ∙ there) ∙ is)
kept_by true role m key new q None on there may c is = absurd (cc is)
kept_by true role m key new q (Some (Cert x)) on there may c is =
    let found : object_at m key ≡ Some (Cert x) = ap (object_at m) (sym (one_key q key on)) ∙ there in
    let after = certificate_later role x new (subst (λ (o : Option Object). MayChange role o new) found may) in
    (after.later, ap (option_and_then certificate_in) (object_at-put m key new q ∙ ap (λ (b : Bool). cond b new (object_at m q)) on ∙ after.is))
kept_by true role m key new q (Some (Request r)) on there may c is = absurd (cc is)
kept_by true role m key new q (Some (Secret s)) on there may c is = absurd (cc is)

pub certificates_kept : (role : Role) (m : Objects) (key : Key) (new : Option Object) (keys : List Key) → MayChange role (object_at m key) new → Each (HasCertificate m) keys → Each (HasCertificate (put_at m key new)) keys
certificates_kept role m key new [] may are = tt
certificates_kept role m key new (q ∷ keys) may are =
    (kept_by (is_at (key_cmp q) key) role m key new q (object_at m q) refl refl may are.0.0 are.0.1, certificates_kept role m key new keys may are.1)
