-- In a run each object has the form that reading gives.
use Rattle.std.proofs.Common.{◌≡◌, ◌&&◌, ℕ, ℤ, ◌-◌, zero, suc, List, [], ◌∷◌, Option, Some, None, Bool, true, false, refl, sym, subst, inl, inr}
use Rattle.std.specs.Prelude.{IfSome, slice_get}
use Rattle.std.specs.List.{list_all}
use Rattle.std.proofs.lemmas.Bool.{and_from, and_parts}
use Rattle.cmc_meta.specs.declared.key.Key.{Key}
use Rattle.cmc_objects.specs.declared.issuer.IssuerRef.{IssuerRef}
use Rattle.cmc_objects.specs.declared.certificate.Certificate.{Certificate}
use Rattle.cmc_objects.specs.declared.certificate.CertSpec.{CertSpec}
use Rattle.cmc_objects.specs.declared.certificate.CertStatus.{CertStatus}
use Rattle.cmc_objects.specs.declared.request.CertificateRequest.{CertificateRequest}
use Rattle.cmc_objects.specs.declared.request.RequestSpec.{RequestSpec}
use Rattle.cmc_objects.specs.declared.request.RequestStatus.{RequestStatus}
use Rattle.cmc_objects.specs.declared.rows.Rows.{Rows}
use Rattle.cmc_objects.specs.declared.object.Object.{Object}
use Rattle.cmc_objects.specs.declared.object.Object.TheVariants.{Cert, Request, Secret}
use Rattle.cmc_objects.specs.declared.role.Role.{Role}
use Rattle.cmc_objects.specs.declared.role.Role.TheVariants as roles
use Rattle.cmc_objects.specs.declared.entry.Step.{Step}
use Rattle.cmc_objects.specs.declared.entry.Step.TheVariants as steps
use Rattle.cmc_objects.specs.declared.entry.Entry.{Entry}
use Rattle.cmc_objects.specs.Requests.{is_issuer_form, is_duration_form, is_row_form}
use Rattle.cmc_pass.specs.declared.pass.Views.{Views}
use Rattle.cmc_model.specs.declared.write.Write.{Write}
use Rattle.cmc_model.specs.Objects.{object_at}
use Rattle.cmc_model.specs.Generated.{named}
use Rattle.cmc_objects.specs.Objects.{numbered}
use Rattle.cmc_model.specs.Stored.{created, updated, with_status}
use Rattle.cmc_model.specs.Replies.{key_of_call, settled}
use Rattle.cmc_model.specs.Histories.{Setting, moment, objects}
use Rattle.cmc_model.specs.Writes.{writes}
use Rattle.cmc_rules.specs.Desks.{desk}
use Rattle.cmc_rules.specs.Issuer.{certificate_of, HasRequestForm, HasReplyRowForm}
use Rattle.cmc_rules.specs.Rights.{MayChange, OfCertificates, OfRequests, IsLabelled}
use Rattle.cmc_rules.specs.Sound.{IsOfCertificate}
use Rattle.cmc_rules.specs.UserWrites.{judge_call, answer_call, renew_call}
use Rattle.cmc_rules.proofs.Replies.{reply_row_fits}
use Rattle.cmc_rules.proofs.Sights.{seen_certificate, seen_request}
use Rattle.cmc_rules.proofs.Sighted.{AreKnown}
use Rattle.cmc_setup.specs.Forms.{is_certificate, is_key_row_form, is_rows_form, is_entry_form, is_step_form}
use Rattle.cmc_setup.specs.ObjectForms.{are_certificate_terms, are_subject_names, is_object_form}
use Rattle.cmc_safety.specs.Formed.{IsFormed}
use Rattle.cmc_safety.proofs.Course.{AreSound}
use Rattle.cmc_safety.proofs.InProgress.{IsPlayed}
use Rattle.cmc_safety.proofs.PassWrites.{IsPassWrite}
use Rattle.cmc_safety.proofs.Users.{IsOfSteps, of_steps}
use Rattle.cmc_safety.proofs.Carried.{EachVersion, no_version, one_more, standing_has, seen_has, newest, carried}
use Rattle.cmc_safety.proofs.Kept.{IsKept, Any, Brings, kept_more}

abbrev pub IsFormedObject : Object → Type 0
IsFormedObject o = is_object_form o ≡ true

-- ---- what calls store

-- a create and an update bring an object of the form, and a status update keeps the spec
formed_kept : (now : ℤ) → IsKept now IsFormedObject IsFormedObject Any
unfolding created numbered updated with_status named
formed_kept now = record {
  certificates = record { makes = λ version a new. new; numbers = λ version generation a is. is; updates = λ old new is given. given; sets = λ old new is given. is; names = λ name a new. new };
  requests = record { makes = λ version a new. new; numbers = λ version generation a is. is; updates = λ old new is given. given; sets = λ old new is given. is; names = λ name a new. new };
  secrets = record { makes = λ version a new. new; numbers = λ version generation a is. is; updates = λ old new is given. given; sets = λ old new is given. is; names = λ name a new. new };
}

-- ---- calls of users

-- the step in each place passes the test that all pass
passes_at : (test : Step → Bool) (script : List Step) (place : ℕ) (step : Step) → slice_get script place ≡ Some step → list_all test script ≡ true → test step ≡ true
passes_at test [] place step there all = absurd (cc there)
passes_at test (x ∷ xs) zero step there all = subst (λ (y : Step). test y ≡ true) (let same : x ≡ step = cc there in same) (and_parts (test x) (list_all test xs) all).0
passes_at test (x ∷ xs) (suc place) step there all = passes_at test xs place step there (and_parts (test x) (list_all test xs) all).1

formed_steps : (s : Setting) (h : List Entry) → IsFormed s → IsOfSteps s.script (moment s h) (objects s h) (Brings IsFormedObject Any)
unfolding judge_call answer_call renew_call
formed_steps s h formed = record {
  applies = λ number object version there. let is = passes_at is_step_form s.script (number - 1) (steps.Apply object version) there formed.steps in (is, λ named. is);
  deletes = λ key version. tt;
  judges = λ kind message other key r stands. tt;
  answers = λ row key r stands. tt;
  renews = λ key c stands. tt;
}

-- ---- calls of passes

-- the new object is a Secret, or has the spec of the old one
abbrev HasSpecOf : Object → Object → Type 0
HasSpecOf (Secret k) old = Unit {0}
HasSpecOf (Cert new) (Cert old) = new.spec ≡ old.spec
HasSpecOf (Request new) (Request old) = new.spec ≡ old.spec
HasSpecOf new old = ⊥

spec_of_certificate : (P : CertStatus → CertStatus → Type 0) (old new : Object) → OfCertificates P old new → HasSpecOf new old
spec_of_certificate P (Cert a) (Cert b) is = is.1
spec_of_certificate P old new is = absurd is

spec_of_request : (P : RequestStatus → RequestStatus → Type 0) (old new : Object) → OfRequests P old new → HasSpecOf new old
spec_of_request P (Request a) (Request b) is = is.1
spec_of_request P old new is = absurd is

spec_of_secret : (label : Bool) (old new : Object) → IsLabelled label new → HasSpecOf new old
spec_of_secret label old (Secret k) is = tt
spec_of_secret label old new is = absurd is

-- no role changes a spec
keeps_spec : (role : Role) (old new : Object) → MayChange role (Some old) (Some new) → HasSpecOf new old
keeps_spec roles.Trigger old new is = spec_of_certificate _ old new is
keeps_spec roles.KeyManager old new (inl is) = absurd is
keeps_spec roles.KeyManager old new (inr (inl is)) = absurd is
keeps_spec roles.KeyManager old new (inr (inr is)) = spec_of_certificate _ old new is
keeps_spec roles.RequestManager old new (inl is) = absurd is
keeps_spec roles.RequestManager old new (inr is) = absurd is
keeps_spec roles.Approver old new is = spec_of_request _ old new is
keeps_spec roles.Issuer old new is = spec_of_request _ old new is
keeps_spec roles.Issuing old new (inl is) = absurd is
keeps_spec roles.Issuing old new (inr (inl is)) = spec_of_secret false old new is.1
keeps_spec roles.Issuing old new (inr (inr is)) = spec_of_certificate _ old new is
keeps_spec roles.Readiness old new is = spec_of_certificate _ old new is
keeps_spec roles.Revision old new is = absurd is

formed_same : (old new : Object) → HasSpecOf new old → IsFormedObject old → IsFormedObject new
formed_same old (Secret k) same is = refl
formed_same (Cert a) (Cert b) same is = subst (λ (x : CertSpec). (are_certificate_terms x && are_subject_names x) ≡ true) (sym same) is
formed_same (Request a) (Request b) same is = subst (λ (x : RequestSpec). (is_issuer_form x.issuer && is_duration_form x.duration) ≡ true) (sym same) is
formed_same old new same is = absurd same

-- and none makes a Certificate
makes_no_certificate : (role : Role) (c : Certificate) → MayChange role None (Some (Cert c)) → ⊥
makes_no_certificate roles.KeyManager c (inl is) = is
makes_no_certificate roles.KeyManager c (inr (inl is)) = is
makes_no_certificate roles.KeyManager c (inr (inr is)) = is
makes_no_certificate roles.RequestManager c (inl is) = is
makes_no_certificate roles.RequestManager c (inr is) = is
makes_no_certificate roles.Issuing c (inl is) = is
makes_no_certificate roles.Issuing c (inr (inl is)) = is
makes_no_certificate roles.Issuing c (inr (inr is)) = is
makes_no_certificate other c is = is

-- the Certificate that is seen, if one is
abbrev SeesFormed : Views → Type 0
SeesFormed seen = (c : Certificate) → seen.certificate ≡ Some c → IsFormedObject (Cert c)

-- issuer and duration of a Certificate of the form are those of a request of the form
terms_formed : (c : Certificate) → IsFormedObject (Cert c) → (is_issuer_form c.spec.issuer && is_duration_form c.spec.duration) ≡ true
terms_formed c is =
    let terms = and_parts (is_issuer_form c.spec.issuer) (is_duration_form c.spec.duration && is_duration_form c.spec.renew_before) (and_parts (are_certificate_terms c.spec) (are_subject_names c.spec) is).0 in
    and_from (is_issuer_form c.spec.issuer) (is_duration_form c.spec.duration) terms.0 (and_parts (is_duration_form c.spec.duration) (is_duration_form c.spec.renew_before) terms.1).0

-- a request has issuer and duration of the Certificate that it was made for
formed_made : (seen : Views) (made : CertificateRequest) → SeesFormed seen → IsOfCertificate seen made → IsFormedObject (Request made)
formed_made seen made sees is =
    let c = is.certificate in
    subst (λ (i : IssuerRef). (is_issuer_form i && is_duration_form made.spec.duration) ≡ true) (sym is.issuer)
    (subst (λ (d : Option ℕ). (is_issuer_form c.spec.issuer && is_duration_form d) ≡ true) (sym is.duration) (terms_formed c (sees c is.sees)))

formed_new : (role : Role) (seen : Views) (since : ℤ) (old : Option Object) (new : Object) → SeesFormed seen → old ≡ None → MayChange role None (Some new) → IsPassWrite role seen since old (Some new) → IsFormedObject new
formed_new role seen since old (Cert c) sees none rights is = absurd (makes_no_certificate role c rights)
formed_new role seen since old (Request r) sees none rights is = formed_made seen r sees (is.made r none refl)
formed_new role seen since old (Secret k) sees none rights is = refl

formed_by : (role : Role) (seen : Views) (since : ℤ) (old new : Option Object) → SeesFormed seen → IfSome old IsFormedObject → IsPassWrite role seen since old new → IfSome new IsFormedObject
formed_by role seen since old None sees stood is = tt
formed_by role seen since None (Some new) sees stood is = formed_new role seen since None new sees refl is.rights is
formed_by role seen since (Some old) (Some new) sees stood is = formed_same old new (keeps_spec role old new is.rights) stood

-- ---- histories

sees_formed : (ws : List Write) (seen : Views) → EachVersion IsFormedObject ws → AreKnown ws seen → SeesFormed seen
sees_formed ws seen each known c is = seen_has IsFormedObject ws seen (Cert c) each known (seen_certificate seen c is)

-- each version that an accepted write stored has the form
pub formed_versions : AreSound → (s : Setting) (h : List Entry) → IsFormed s → IsPlayed s h → EachVersion IsFormedObject (writes s h)
formed_versions sound s h formed o =
    carried sound (EachVersion IsFormedObject) s formed
    (record {
      none = no_version IsFormedObject;
      user = λ h call reply o right owes ok. kept_more s h call reply (formed_kept (moment s h)) (of_steps (Brings IsFormedObject Any) s h call (formed_steps s h formed) owes);
      pass = λ h call reply o p each.
          one_more IsFormedObject (newest s h call reply) (writes s h)
          (formed_by p.pass.role p.pass.seen p.pass.since (object_at (objects s h) (key_of_call (settled call reply))) (newest s h call reply).object
          (sees_formed (writes s h) p.pass.seen each p.known) (standing_has IsFormedObject s h (key_of_call (settled call reply)) each) p.write)
          each;
    })
    h o

-- ---- what is seen

form_part : (x : Option CertificateRequest) → ((r : CertificateRequest) → x ≡ Some r → IsFormedObject (Request r)) → HasRequestForm x
form_part None each = tt
form_part (Some r) each = each r refl

pub form_seen : (ws : List Write) (seen : Views) → EachVersion IsFormedObject ws → AreKnown ws seen → HasRequestForm seen.request
form_seen ws seen each known = form_part seen.request (λ r is. seen_has IsFormedObject ws seen (Request r) each known (seen_request seen r is))

-- the rows of an entry that is said of keys and issuers have their form
replies_formed : (entry : Key × Rows) → is_entry_form entry ≡ true → list_all is_row_form entry.1.replies ≡ true
replies_formed entry is =
    let rows = (and_parts (is_certificate entry.0) (is_rows_form entry.1) is).1 in
    (and_parts (list_all is_key_row_form entry.1.keys) (list_all is_row_form entry.1.replies) rows).1

reply_part : (s : Setting) (h : List Entry) (role : Role) (seen : Views) (x : Option CertificateRequest) → IsFormed s → HasReplyRowForm x (desk s h role seen)
reply_part s h role seen None formed = tt
reply_part s h role seen (Some r) formed = reply_row_fits is_row_form is_entry_form s.material (certificate_of r) (desk s h role seen).asked refl replies_formed formed.material

-- the answer that is set out has its form
pub reply_seen : (s : Setting) (h : List Entry) (role : Role) (seen : Views) → IsFormed s → HasReplyRowForm seen.request (desk s h role seen)
reply_seen s h role seen formed = reply_part s h role seen seen.request formed
