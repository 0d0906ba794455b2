-- The record of laws of the trigger: what asks for an issuance changes one condition, and nothing stays nothing up to
-- the end of back-off and the renewal of the certificate that stands.
use Rattle.std.proofs.Common.{◌≡◌, ℤ, Bool, true, false, List, Option, Some, None, refl, sym, ap, int_le, arith, inl, inr}
use Rattle.std.proofs.lemmas.Int.{ints}
use Rattle.std.proofs.lemmas.Option.{none-some}
use Rattle.std.specs.Prelude.{not, ◌&&◌, if◌then◌else◌, int_lt}
use Rattle.std.proofs.lemmas.Bool.{and_parts}
use Rattle.cmc_der.specs.Keys.{CertificateFields}
use Rattle.cmc_objects.specs.declared.certificate.Certificate.{Certificate}
use Rattle.cmc_objects.specs.declared.certificate.CertStatus.{CertStatus}
use Rattle.cmc_objects.specs.declared.request.CertificateRequest.{CertificateRequest as RequestObject}
use Rattle.cmc_objects.specs.declared.secret.Secret.{Secret as SecretObject}
use Rattle.cmc_objects.specs.declared.object.Object.TheVariants.{Cert}
use Rattle.cmc_objects.specs.declared.role.Role.TheVariants.{Trigger}
use Rattle.cmc_policies.specs.declared.facts.Reason.{Reason}
use Rattle.cmc_policies.specs.declared.facts.Reason.TheVariants.{DoesNotExist, MissingData, InvalidKeyPair, IncorrectIssuer, IncorrectCertificate, SecretMismatch, RequestChanged, Renewing}
use Rattle.cmc_policies.specs.declared.facts.Frame.{Frame}
use Rattle.cmc_policies.specs.declared.renewal.Renew.{Renew}
use Rattle.cmc_policies.specs.Reasons.{Known, first_of}
use Rattle.cmc_policies.specs.Renewal.{IsCertificateTime, backoff, renewal}
use Rattle.cmc_objects.specs.KeyPairs.{is_paired, begins, ends}
use Rattle.cmc_match.specs.Facts.{pair_at}
use Rattle.cmc_pass.specs.declared.pass.Views.{Views}
use Rattle.cmc_pass.specs.declared.pass.Desk.{Desk}
use Rattle.cmc_pass.specs.declared.pass.Act.{Act}
use Rattle.cmc_pass.specs.declared.pass.Act.TheVariants.{Nothing}
use Rattle.cmc_model.proofs.Admission.{certificate_status_passes}
use Rattle.cmc_rules.specs.Rights.{other_conditions}
use Rattle.cmc_objects.specs.Objects.{numbered}
use Rattle.cmc_model.specs.Stored.{with_status}
use Rattle.cmc_rules.specs.Dates.{IsDatedStatus}
use Rattle.cmc_rules.specs.Chains.{trigger_chain, trigger_reason}
use Rattle.cmc_rules.specs.Trigger.{trigger, for_option, for_certificate, for_reason, frame_of, is_issuing, is_backing_off, is_in_back_off, is_waiting_since, issuing_condition, issuing_status, with_issuing, issue_call}
use Rattle.cmc_rules.specs.Acts.{act, call_after}
use Rattle.cmc_rules.specs.SeenObjects.{OnSeen}
use Rattle.cmc_rules.specs.Sound.{IsWithin, IsEndOfBackoff, IsRenewal, IsTriggerMoment, views_shown, IsSound}
use Rattle.cmc_rules.proofs.Sights.{seen_certificate}
use Rattle.cmc_rules.proofs.Conditions.{others-transitioned}
use Rattle.cmc_rules.proofs.Dating.{dated_transitioned}
use Rattle.cmc_rules.proofs.Lines.{by_test}

-- ---- the call

abbrev Is : Views → ℤ → Act → Type 0
Is seen now a = IsWithin Trigger (call_after Trigger seen now) seen now a

others : (moment : ℤ) (reason : Reason) (status : CertStatus) → other_conditions (issuing_condition moment reason).kind (issuing_status moment reason status).conditions ≡ other_conditions (issuing_condition moment reason).kind status.conditions
unfolding issuing_status
others moment reason status = others-transitioned status.conditions (issuing_condition moment reason)

kept : (moment : ℤ) (reason : Reason) (status : CertStatus) → (issuing_status moment reason status).revision ≡ status.revision
unfolding issuing_status
kept moment reason status = refl

dated_issuing : (moment : ℤ) (reason : Reason) (status : CertStatus) → IsCertificateTime moment → IsDatedStatus status → IsDatedStatus (issuing_status moment reason status)
unfolding issuing_status issuing_condition
dated_issuing moment reason status timed dated = record {
  conditions = dated_transitioned status.conditions (issuing_condition moment reason) dated.conditions timed;
  last_failure = dated.last_failure;
  not_before = dated.not_before;
  not_after = dated.not_after;
  renewal = dated.renewal;
}

issue_is : (seen : Views) (now : ℤ) (reason : Reason) (c : Certificate) → seen.certificate ≡ Some c → Is seen now (issue_call now reason c)
unfolding issue_call with_issuing issuing_status issuing_condition OnSeen numbered with_status
issue_is seen now reason c sees = record {
  old = Cert c;
  sees = seen_certificate seen c sees;
  key = refl;
  version = refl;
  changes = λ next. record { rights = (refl, refl, record { rest = refl; others = others now reason c.status }); dated = λ timed dated. dated_issuing now reason c.status timed dated; revision = kept now reason c.status; no_secret = λ written issuing is. absurd (cc issuing); no_approval = λ o n approver b a x y. absurd (cc approver); no_request = λ made before after. absurd (cc before) };
  passes = λ taken. certificate_status_passes (Some (Cert c)) _ taken;
}

reason_is : (seen : Views) (now : ℤ) (c : Certificate) (reason : Option Reason) → seen.certificate ≡ Some c → Is seen now (for_reason now seen.requests c reason)
reason_is seen now c None sees = tt
reason_is seen now c (Some reason) sees = by_test (Is seen now) (is_in_back_off now seen.requests c) _ _ (λ on. tt) (λ off. issue_is seen now reason c sees)

option_is : (seen : Views) (now : ℤ) (o : Option Certificate) → seen.certificate ≡ o → Is seen now (for_option now seen.secret seen.requests o)
unfolding for_certificate
option_is seen now None sees = tt
option_is seen now (Some c) sees = by_test (Is seen now) (is_issuing c) _ _ (λ on. tt) (λ off. reason_is seen now c (trigger_reason (frame_of now c) c seen.secret seen.requests) sees)

within : (seen : Views) (now : ℤ) (desk : Desk) → Is seen now (trigger seen now)
unfolding trigger
within seen now desk = option_is seen now seen.certificate refl

-- ---- nothing stays nothing up to the end of back-off and the renewal

abbrev Quiet : (ℤ → Type 0) → ℤ → ℤ → Type 0
Quiet P t u = (at : ℤ) → P at → int_le at t ≡ false → int_le at u ≡ true → ⊥

called : (reason : Reason) (t : ℤ) (c : Certificate) → issue_call t reason c ≡ Nothing → ⊥
unfolding issue_call
called reason t c e = absurd (cc e)

still : (b : Bool) (t u until : ℤ) → int_lt u until ≡ b → int_lt t until ≡ true → (int_le until t ≡ false → int_le until u ≡ true → ⊥) → int_lt u until ≡ true
still true t u until e low quiet = e
still false t u until e low quiet = absurd (quiet (grind (arith, ints)) (grind (arith, ints)))

waits : (last : Option ℤ) (status : CertStatus) (t u : ℤ) → Quiet (IsEndOfBackoff last status) t u → is_waiting_since last status t ≡ true → is_waiting_since last status u ≡ true
waits None status t u quiet h = absurd (cc h)
waits (Some last) status t u quiet h = still (int_lt u (backoff last status.attempts)) t u (backoff last status.attempts) refl h (quiet (backoff last status.attempts) refl)

held_back : (t u : ℤ) (requests : List RequestObject) (c : Certificate) → Quiet (IsEndOfBackoff c.status.last_failure c.status) t u → is_in_back_off t requests c ≡ true → is_in_back_off u requests c ≡ true
held_back t u requests c quiet h =
    let parts = and_parts (is_backing_off c.status t) _ h in
    rw (waits c.status.last_failure c.status t u quiet parts.0) parts.1

by_backoff : (b : Bool) (t u : ℤ) (requests : List RequestObject) (c : Certificate) (reason other : Reason) → is_in_back_off t requests c ≡ b → Quiet (IsEndOfBackoff c.status.last_failure c.status) t u
    → (if b then Nothing else issue_call t reason c) ≡ Nothing → (if is_in_back_off u requests c then Nothing else issue_call u other c) ≡ Nothing
by_backoff true t u requests c reason other e quiet idle = let on : is_in_back_off u requests c ≡ true = held_back t u requests c quiet e in rw on refl
by_backoff false t u requests c reason other e quiet idle = absurd (called reason t c idle)

-- no reason comes but Renewing, at its moment

over : {x y : Option Reason} (b : Bool) (reason : Reason) → (x ≡ None → y ≡ None) → (if b then Some reason else x) ≡ None → (if b then Some reason else y) ≡ None
over true reason on h = h
over false reason on h = on h

due_later : (b : Bool) (t u at : ℤ) → int_lt t at ≡ b → (int_le at t ≡ false → int_le at u ≡ true → ⊥) → (if not b then Some Renewing else None) ≡ None → (if not (int_lt u at) then Some Renewing else None) ≡ None
due_later false t u at e quiet h = absurd (none-some Renewing (sym h))
due_later true t u at e quiet h = let low : int_lt u at ≡ true = still (int_lt u at) t u at refl e quiet in rw low refl

abbrev known_by : (stands filled issuer owner kind request : Bool) → Option CertificateFields → Known
known_by stands filled issuer owner kind request pair = record {
  secret = stands;
  filled = filled;
  pair = is_paired pair;
  issuer = issuer;
  owner = owner;
  kind = kind;
  request = request;
  not_before = begins pair;
  not_after = ends pair;
}

abbrev frame : ℤ → Renew → Frame
frame at renew = record { now = at; renew = renew }

no_reason : (s f i o k r : Bool) (pair : Option CertificateFields) (renew : Renew) (t u : ℤ) → Quiet (IsRenewal renew pair) t u
    → first_of trigger_chain (frame t renew) (known_by s f i o k r pair) ≡ None → first_of trigger_chain (frame u renew) (known_by s f i o k r pair) ≡ None
no_reason s f i o k r None renew t u quiet h = over (not s) DoesNotExist (over (not f) MissingData (λ unpaired. absurd (none-some InvalidKeyPair (sym unpaired)))) h
no_reason s f i o k r (Some fields) renew t u quiet h =
    let at : ℤ = renewal fields.not_before fields.not_after renew in
    over (not s) DoesNotExist (over (not f) MissingData (over (not i) IncorrectIssuer (over (not o) IncorrectCertificate (over (not k) SecretMismatch (over (not r) RequestChanged
    (due_later (int_lt t at) t u at refl (quiet at refl))))))) h

by_reason : (o p : Option Reason) (t u : ℤ) (requests : List RequestObject) (c : Certificate) → (o ≡ None → p ≡ None) → Quiet (IsEndOfBackoff c.status.last_failure c.status) t u
    → for_reason t requests c o ≡ Nothing → for_reason u requests c p ≡ Nothing
by_reason None p t u requests c none quiet idle = rw (none refl) refl
by_reason (Some reason) None t u requests c none quiet idle = refl
by_reason (Some reason) (Some other) t u requests c none quiet idle = by_backoff (is_in_back_off t requests c) t u requests c reason other refl quiet idle

reasons : (t u : ℤ) (secret : Option SecretObject) (requests : List RequestObject) (c : Certificate) → Quiet (IsTriggerMoment (Some c) secret) t u
    → trigger_reason (frame_of t c) c secret requests ≡ None → trigger_reason (frame_of u c) c secret requests ≡ None
reasons t u secret requests c quiet h =
    no_reason _ _ _ _ _ _ (pair_at secret) (frame_of t c).renew t u (λ at is. quiet at (inr is)) h

by_issuing : (b : Bool) (t u : ℤ) (secret : Option SecretObject) (requests : List RequestObject) (c : Certificate) → Quiet (IsTriggerMoment (Some c) secret) t u
    → (if b then Nothing else for_reason t requests c (trigger_reason (frame_of t c) c secret requests)) ≡ Nothing
    → (if b then Nothing else for_reason u requests c (trigger_reason (frame_of u c) c secret requests)) ≡ Nothing
by_issuing true t u secret requests c quiet idle = refl
by_issuing false t u secret requests c quiet idle =
    by_reason (trigger_reason (frame_of t c) c secret requests) (trigger_reason (frame_of u c) c secret requests) t u requests c (reasons t u secret requests c quiet) (λ at is. quiet at (inl is)) idle

stays : (o : Option Certificate) (t u : ℤ) (secret : Option SecretObject) (requests : List RequestObject) → Quiet (IsTriggerMoment o secret) t u
    → for_option t secret requests o ≡ Nothing → for_option u secret requests o ≡ Nothing
unfolding for_certificate
stays None t u secret requests quiet idle = refl
stays (Some c) t u secret requests quiet idle = by_issuing (is_issuing c) t u secret requests c quiet idle

-- ---- the record

told : (seen : Views) (now : ℤ) (desk : Desk) → act Trigger seen now desk ≡ act Trigger (views_shown Trigger seen) now desk
unfolding act trigger
told seen now desk = refl

none : (seen : Views) (now : ℤ) → seen.certificate ≡ None → trigger seen now ≡ Nothing
unfolding trigger
none seen now is = ap (λ (o : Option Certificate). for_option now seen.secret seen.requests o) is

idle : (seen : Views) (t u : ℤ) → Quiet (IsTriggerMoment seen.certificate seen.secret) t u → trigger seen t ≡ Nothing → trigger seen u ≡ Nothing
unfolding trigger
idle seen t u quiet is = stays seen.certificate t u seen.secret seen.requests quiet is

pub trigger_sound : IsSound Trigger
unfolding act
trigger_sound = record {
  within = λ seen now desk well. within seen now desk;
  told = told;
  absent = λ seen now desk is. none seen now is.certificate;
  idle = λ seen t u d e rules quiet le is. idle seen t u quiet is;
}
