-- What the entries of a run bring: each object that a call brings is of the form that is read, with moments of the years that can be
-- written, passes begin on keys of their role's kind, and all moments are those of a run.
use Rattle.std.proofs.Common.{◌≡◌, ◌&&◌, ◌⊎◌, ℕ, ℤ, ◌-◌, zero, suc, List, [], ◌∷◌, Option, Some, None, Bool, true, false, refl, sym, ap, subst, ◌∙◌, inl, inr}
use Rattle.std.specs.Prelude.{IfSome, slice_get}
use Rattle.std.proofs.lemmas.Bool.{and_from, and_parts}
use Rattle.std.specs.List.{list_all}
use Rattle.cmc_meta.specs.declared.key.Key.{Key}
use Rattle.cmc_objects.specs.declared.issuer.IssuerRef.{IssuerRef}
use Rattle.cmc_objects.specs.declared.certificate.Certificate.{Certificate}
use Rattle.cmc_objects.specs.declared.certificate.CertSpec.{CertSpec}
use Rattle.cmc_objects.specs.declared.certificate.CertStatus.{CertStatus}
use Rattle.cmc_objects.specs.declared.request.CertificateRequest.{CertificateRequest}
use Rattle.cmc_objects.specs.declared.request.RequestSpec.{RequestSpec}
use Rattle.cmc_objects.specs.declared.request.RequestStatus.{RequestStatus}
use Rattle.cmc_objects.specs.declared.secret.Secret.{Secret as SecretObject}
use Rattle.cmc_objects.specs.declared.object.Object.{Object}
use Rattle.cmc_objects.specs.declared.object.Object.TheVariants.{Cert, Request, Secret}
use Rattle.cmc_objects.specs.declared.call.Call.{Call}
use Rattle.cmc_objects.specs.declared.call.Call.TheVariants.{Create, Update, UpdateStatus, Delete, Get}
use Rattle.cmc_objects.specs.declared.call.Reply.{Reply}
use Rattle.cmc_objects.specs.declared.orders.Order.{Order}
use Rattle.cmc_objects.specs.declared.role.Role.{Role}
use Rattle.cmc_objects.specs.declared.entry.Step.{Step}
use Rattle.cmc_objects.specs.declared.entry.Step.TheVariants as steps
use Rattle.cmc_objects.specs.declared.entry.Who.{Who}
use Rattle.cmc_objects.specs.declared.entry.Who.TheVariants.{User, Pass}
use Rattle.cmc_objects.specs.declared.entry.Entry.{Entry}
use Rattle.cmc_objects.specs.declared.entry.Entry.TheVariants.{Script, Call as Called, Deliver, List as Listed, Begin, Ask, Made, Signed, Answered, Judged, End, Stop, Start, Tick}
use Rattle.cmc_objects.specs.Objects.{key_of, no_cert_status, no_request_status, numbered}
use Rattle.cmc_objects.specs.Requests.{is_run_time, is_issuer_form, is_duration_form}
use Rattle.cmc_objects.specs.Informers.{kind_of_work}
use Rattle.cmc_policies.specs.Renewal.{IsCertificateTime}
use Rattle.cmc_answers.specs.Signings.{signing_of}
use Rattle.cmc_pass.specs.declared.value.Value.{Value}
use Rattle.cmc_pass.specs.declared.pass.Views.{Views}
use Rattle.cmc_pass.specs.declared.pass.Act.{Act}
use Rattle.cmc_pass.specs.declared.pass.Act.TheVariants.{Nothing, Call as Calls, Ask as Asks, Issue, Temporary}
use Rattle.cmc_model.specs.declared.write.Write.{Write}
use Rattle.cmc_model.specs.Stored.{restated, with_status}
use Rattle.cmc_model.specs.Histories.{Setting, moment, objects}
use Rattle.cmc_model.specs.Writes.{writes}
use Rattle.cmc_rules.specs.declared.progress.OpenPass.{OpenPass}
use Rattle.cmc_rules.specs.declared.progress.Stage.{Stage}
use Rattle.cmc_rules.specs.declared.progress.Stage.TheVariants.{Fresh, Asked, Given, Read, Saved, Wrote, Refused, Barred}
use Rattle.cmc_rules.specs.Causes.{IsCaused, IsNextCall, MayCall, MayAsk, AsksBy, act_of, after_of}
use Rattle.cmc_rules.specs.Dates.{IsDatedStatus, IsDatedAnswer, IsDated}
use Rattle.cmc_rules.specs.Desks.{desk}
use Rattle.cmc_rules.specs.UserSteps.{Follows}
use Rattle.cmc_rules.specs.Legality.{IsLegal}
use Rattle.cmc_rules.specs.Passes.{open_pass}
use Rattle.cmc_rules.specs.Scripts.{step_at}
use Rattle.cmc_rules.specs.SeenObjects.{IsSeen, OnSeen}
use Rattle.cmc_rules.specs.UserWrites.{verdict, judge_call, answer_call, manual_condition, renew_call}
use Rattle.cmc_rules.proofs.Dating.{dated_transitioned, dated_answered}
use Rattle.cmc_rules.proofs.Sights.{seen_certificate, seen_request}
use Rattle.cmc_rules.proofs.Sighted.{AreKnown}
use Rattle.cmc_setup.specs.Forms.{is_step_form}
use Rattle.cmc_setup.specs.ObjectForms.{are_certificate_terms, are_subject_names, is_object_form}
use Rattle.cmc_safety.specs.Formed.{IsFormed}
use Rattle.cmc_safety.proofs.Carried.{EachVersion, stands_so, seen_has}
use Rattle.cmc_safety.proofs.Course.{AreSound, of_open}
use Rattle.cmc_safety.proofs.Dated.{IsDatedObject, dated_versions}
use Rattle.cmc_safety.proofs.Forms.{IsFormedObject, formed_versions}
use Rattle.cmc_safety.proofs.InProgress.{IsCaller, caller_of, IsPlayed, played_below}
use Rattle.cmc_safety.proofs.Kept.{Brings}
use Rattle.cmc_safety.proofs.Moments.{BeganInRun, began_in_run, moment_in_run, in_years, moment_in_years}
use Rattle.cmc_safety.proofs.NextCalls.{IsLiveCall}
use Rattle.cmc_safety.proofs.PassWrites.{IsPassWrite, writes_at}
use Rattle.cmc_safety.proofs.Users.{IsOfSteps, of_steps}
use Rattle.cmc_audit_laws.specs.Given.{IsGiven, HasNoStatus, ApplyBare, IsForCertificate, BringsGiven, IsGivenEntry, AreGiven}
use Rattle.cmc_audit_laws.proofs.Brought.{IsRestated, IsAnswered, IsAskedFor, IsBrought, ActBrings, FollowBrings, act_brings, follow_brings}

-- ---- calls of users

bare_dated : (object : Object) → HasNoStatus object → IsDatedObject object
bare_dated (Cert c) none = subst IsDatedStatus (sym none) (record { conditions = tt; last_failure = tt; not_before = tt; not_after = tt; renewal = tt })
bare_dated (Request r) none = subst IsDatedAnswer (sym none) (record { conditions = tt; failure = tt })
bare_dated (Secret k) none = tt

formed_step : (script : List Step) (place : ℕ) (step : Step) → slice_get script place ≡ Some step → list_all is_step_form script ≡ true → is_step_form step ≡ true
formed_step [] place step there all = absurd (cc there)
formed_step (x ∷ xs) zero step there all = subst (λ (y : Step). is_step_form y ≡ true) (let same : x ≡ step = cc there in same) (and_parts (is_step_form x) (list_all is_step_form xs) all).0
formed_step (x ∷ xs) (suc place) step there all = formed_step xs place step there (and_parts (is_step_form x) (list_all is_step_form xs) all).1

given_steps : (s : Setting) (h : List Entry) → IsFormed s → ApplyBare s.script → IsCertificateTime (moment s h) → EachVersion IsFormedObject (writes s h) → EachVersion IsDatedObject (writes s h)
    → IsOfSteps s.script (moment s h) (objects s h) (Brings IsGiven IsGiven)
unfolding judge_call answer_call renew_call verdict manual_condition
given_steps s h formed bare timed forms dates = record {
  applies = λ number object version there.
      let is : IsGiven object = (formed_step s.script (number - 1) (steps.Apply object version) there formed.steps, bare_dated object (bare number object version there)) in (is, λ named. is);
  deletes = λ key version. tt;
  judges = λ kind message other key r stands.
      let dated : IsDatedAnswer r.status = stands_so IsDatedObject s h key (Request r) dates stands in (
        stands_so IsFormedObject s h key (Request r) forms stands,
        record { conditions = dated_transitioned r.status.conditions (verdict kind message (moment s h)) dated.conditions timed; failure = dated.failure },
      );
  answers = λ row key r stands. (
    stands_so IsFormedObject s h key (Request r) forms stands,
    dated_answered r.status (signing_of row 1 r (moment s h)) (moment s h) timed (stands_so IsDatedObject s h key (Request r) dates stands),
  );
  renews = λ key c stands.
      let dated : IsDatedStatus c.status = stands_so IsDatedObject s h key (Cert c) dates stands in (
        stands_so IsFormedObject s h key (Cert c) forms stands,
        record {
          conditions = dated_transitioned c.status.conditions (manual_condition (moment s h)) dated.conditions timed;
          last_failure = dated.last_failure;
          not_before = dated.not_before;
          not_after = dated.not_after;
          renewal = dated.renewal;
        },
      );
}

-- ---- calls of passes

brought_next : (seen : Views) (stage : Stage) (does : Act) (after : Order → Value → Option Call) (call : Call) → ActBrings seen does → ((order : Order) (value : Value) → FollowBrings seen (after order value))
    → IsNextCall stage does after call → IsBrought seen call
brought_next seen Fresh Nothing after call brings follows next = absurd next
brought_next seen Fresh (Calls first) after call brings follows next = subst (IsBrought seen) (sym next) brings
brought_next seen Fresh (Asks order) after call brings follows next = absurd next
brought_next seen Fresh (Issue plan) after call brings follows next = subst (IsBrought seen) (sym next) tt
brought_next seen Fresh (Temporary plan) after call brings follows next = subst (IsBrought seen) (sym next) tt
brought_next seen (Asked order) does after call brings follows next = absurd next
brought_next seen (Given order value) does after call brings follows next = subst (FollowBrings seen) next (follows order value)
brought_next seen Read Nothing after call brings follows next = absurd next
brought_next seen Read (Calls first) after call brings follows next = absurd next
brought_next seen Read (Asks order) after call brings follows next = absurd next
brought_next seen Read (Issue plan) after call brings follows next = subst (IsBrought seen) (sym next) brings.0
brought_next seen Read (Temporary plan) after call brings follows next = subst (IsBrought seen) (sym next) brings
brought_next seen Saved Nothing after call brings follows next = absurd next
brought_next seen Saved (Calls first) after call brings follows next = absurd next
brought_next seen Saved (Asks order) after call brings follows next = absurd next
brought_next seen Saved (Issue plan) after call brings follows next = subst (IsBrought seen) (sym next) brings.1
brought_next seen Saved (Temporary plan) after call brings follows next = absurd next
brought_next seen Wrote does after call brings follows next = absurd next
brought_next seen (Refused entry obstacle) does after call brings follows next = absurd next
brought_next seen Barred does after call brings follows next = absurd next

-- what is known of what the pass sees
record KnowsGiven (seen : Views) (since : ℤ) : Type 0 where
  timed : IsCertificateTime since
  forms : (o : Object) → IsSeen seen o → IsFormedObject o
  dates : (o : Object) → IsSeen seen o → IsDatedObject o

-- a request has issuer and duration of the Certificate that it was made for
asked_formed : (seen : Views) (r : CertificateRequest) → IsAskedFor seen r → ((o : Object) → IsSeen seen o → IsFormedObject o) → IsFormedObject (Request r)
asked_formed seen r is forms =
    let c = is.certificate in
    let formed : IsFormedObject (Cert c) = forms (Cert c) (seen_certificate seen c is.sees) in
    let terms = and_parts (is_issuer_form c.spec.issuer) (is_duration_form c.spec.duration && is_duration_form c.spec.renew_before) (and_parts (are_certificate_terms c.spec) (are_subject_names c.spec) formed).0 in
    let both = and_from (is_issuer_form c.spec.issuer) (is_duration_form c.spec.duration) terms.0 (and_parts (is_duration_form c.spec.duration) (is_duration_form c.spec.renew_before) terms.1).0 in
    subst (λ (i : IssuerRef). (is_issuer_form i && is_duration_form r.spec.duration) ≡ true) (sym is.issuer)
    (subst (λ (d : Option ℕ). (is_issuer_form c.spec.issuer && is_duration_form d) ≡ true) (sym is.duration) both)

-- a status that is written at a key of its kind is dated
set_certificate : (old : Object) (c : Certificate) (version generation : ℕ) → key_of old ≡ key_of (Cert c) → IsDated (Some (numbered version generation (with_status old (Cert c)))) → IsDatedStatus c.status
unfolding numbered with_status
set_certificate (Cert a) c version generation key is = is
set_certificate (Request a) c version generation key is = absurd (let kind = ap (λ (k : Key). k.kind) key in cc kind)
set_certificate (Secret a) c version generation key is = absurd (let kind = ap (λ (k : Key). k.kind) key in cc kind)

set_request : (old : Object) (r : CertificateRequest) (version generation : ℕ) → key_of old ≡ key_of (Request r) → IsDated (Some (numbered version generation (with_status old (Request r)))) → IsDatedAnswer r.status
unfolding numbered with_status
set_request (Request a) r version generation key is = is
set_request (Cert a) r version generation key is = absurd (let kind = ap (λ (k : Key). k.kind) key in cc kind)
set_request (Secret a) r version generation key is = absurd (let kind = ap (λ (k : Key). k.kind) key in cc kind)

not_live : (role : Role) (seen : Views) (object : Object) (named : ℕ) → IsLiveCall role seen (UpdateStatus object named) → ⊥
not_live role seen object named live = cc live.get

certificate_dated : (role : Role) (seen : Views) (since : ℤ) (c : Certificate) (named : ℕ) → KnowsGiven seen since → OnSeen (IsPassWrite role seen since) seen (UpdateStatus (Cert c) named) ⊎ IsLiveCall role seen (UpdateStatus (Cert c) named)
    → IsDatedStatus c.status
unfolding OnSeen
certificate_dated role seen since c named knows (inl on) = set_certificate on.old c 0 _ on.key ((on.changes 0).dated knows.timed (knows.dates on.old on.sees))
certificate_dated role seen since c named knows (inr live) = absurd (not_live role seen (Cert c) named live)

request_dated : (role : Role) (seen : Views) (since : ℤ) (r : CertificateRequest) (named : ℕ) → KnowsGiven seen since → OnSeen (IsPassWrite role seen since) seen (UpdateStatus (Request r) named) ⊎ IsLiveCall role seen (UpdateStatus (Request r) named)
    → IsDatedAnswer r.status
unfolding OnSeen
request_dated role seen since r named knows (inl on) = set_request on.old r 0 _ on.key ((on.changes 0).dated knows.timed (knows.dates on.old on.sees))
request_dated role seen since r named knows (inr live) = absurd (not_live role seen (Request r) named live)

given_call : (role : Role) (seen : Views) (since : ℤ) (call : Call) → KnowsGiven seen since → IsBrought seen call → OnSeen (IsPassWrite role seen since) seen call ⊎ IsLiveCall role seen call → Brings IsGiven IsGiven call
given_call role seen since (Create (Cert c) generate) knows brought on = absurd brought
given_call role seen since (Create (Request r) generate) knows brought on = (asked_formed seen r brought knows.forms, bare_dated (Request r) brought.status)
given_call role seen since (Create (Secret k) generate) knows brought on = (refl, tt)
given_call role seen since (Update (Cert c) named) knows brought on = absurd brought
given_call role seen since (Update (Request r) named) knows brought on = absurd brought
given_call role seen since (Update (Secret k) named) knows brought on = (refl, tt)
given_call role seen since (UpdateStatus (Cert c) named) knows brought on = (
  subst (λ (x : CertSpec). (are_certificate_terms x && are_subject_names x) ≡ true) (sym brought.spec) (knows.forms (Cert brought.old) (seen_certificate seen brought.old brought.sees)),
  certificate_dated role seen since c named knows on,
)
given_call role seen since (UpdateStatus (Request r) named) knows brought on = (
  subst (λ (x : RequestSpec). (is_issuer_form x.issuer && is_duration_form x.duration) ≡ true) (sym brought.spec) (knows.forms (Request brought.old) (seen_request seen brought.old brought.sees)),
  request_dated role seen since r named knows on,
)
given_call role seen since (UpdateStatus (Secret k) named) knows brought on = absurd brought
given_call role seen since (Delete key named) knows brought on = tt
given_call role seen since (Get key) knows brought on = tt

may_of : (s : Setting) (h : List Entry) (x : Option OpenPass) (p : OpenPass) (call : Call) → x ≡ Some p → MayCall s h x call → IsNextCall p.stage (act_of s h p) (after_of p) call
may_of s h x p call opened may = subst (λ (y : Option OpenPass). MayCall s h y call) opened may

pass_given : AreSound → (s : Setting) (h : List Entry) (m : ℕ) (call : Call) → IsFormed s → IsPlayed s h → MayCall s h (open_pass s h m) call → Brings IsGiven IsGiven call
pass_given sound s h m call formed o may =
    let c = caller_of sound s h m call o.legal o.caused may in
    let p = c.pass in
    let brought = brought_next p.seen p.stage (act_of s h p) (after_of p) call (act_brings p.role p.seen p.since (desk s h p.role p.seen)) (λ order value. follow_brings p.role p.seen p.since order value) (may_of s h (open_pass s h m) p call c.opened may) in
    let began : BeganInRun p = of_open BeganInRun (open_pass s h m) p c.opened (began_in_run s h m formed o.legal o.follows) in
    let knows : KnowsGiven p.seen p.since = record {
      timed = in_years p.since began;
      forms = λ object is. seen_has IsFormedObject (writes s h) p.seen object (formed_versions sound s h formed o) c.saw.known is;
      dates = λ object is. seen_has IsDatedObject (writes s h) p.seen object (dated_versions sound s h formed o) c.saw.known is;
    } in
    given_call p.role p.seen p.since call knows brought (writes_at p.stage p.role p.seen p.since call c.at)

-- ---- questions

asked_for : (seen : Views) (stage : Stage) (does : Act) (order : Order) → ActBrings seen does → AsksBy stage does order → IsForCertificate order
asked_for seen Fresh Nothing order brings asks = absurd asks
asked_for seen Fresh (Calls call) order brings asks = absurd asks
asked_for seen Fresh (Asks asked) order brings asks = subst IsForCertificate (sym asks) brings
asked_for seen Fresh (Issue plan) order brings asks = absurd asks
asked_for seen Fresh (Temporary plan) order brings asks = absurd asks
asked_for seen (Asked asked) does order brings asks = absurd asks
asked_for seen (Given asked value) does order brings asks = absurd asks
asked_for seen Read does order brings asks = absurd asks
asked_for seen Saved does order brings asks = absurd asks
asked_for seen Wrote does order brings asks = absurd asks
asked_for seen (Refused entry obstacle) does order brings asks = absurd asks
asked_for seen Barred does order brings asks = absurd asks

question_given : (s : Setting) (h : List Entry) (x : Option OpenPass) (order : Order) → MayAsk s h x order → IsForCertificate order
question_given s h None order may = absurd may
question_given s h (Some p) order may = asked_for p.seen p.stage (act_of s h p) order (act_brings p.role p.seen p.since (desk s h p.role p.seen)) may

-- ---- entries

entry_given : AreSound → (s : Setting) (h : List Entry) (e : Entry) → IsFormed s → ApplyBare s.script → IsPlayed s (e ∷ h) → IsGivenEntry e
unfolding IsLegal IsCaused Follows
entry_given sound s h (Called User call reply) formed bare o =
    let under = played_below s (Called User call reply) h o in
    of_steps (Brings IsGiven IsGiven) s h call
    (given_steps s h formed bare (moment_in_years s h formed under.follows) (formed_versions sound s h formed under) (dated_versions sound s h formed under))
    o.follows.0
entry_given sound s h (Called (Pass m) call reply) formed bare o = pass_given sound s h m call formed (played_below s (Called (Pass m) call reply) h o) o.caused.0
entry_given sound s h (Begin pass role key at now) formed bare o =
    let under = played_below s (Begin pass role key at now) h o in
    (o.legal.0.work, subst (λ (t : ℤ). is_run_time t ≡ true) (sym o.legal.0.present) (moment_in_run s h formed under.follows))
entry_given sound s h (Ask pass order) formed bare o = question_given s h (open_pass s h pass) order o.caused.0
entry_given sound s h (Tick now) formed bare o = moment_in_run s (Tick now ∷ h) formed o.follows
entry_given sound s h other formed bare o = tt

pub are_given : AreSound → (s : Setting) (h : List Entry) → IsFormed s → ApplyBare s.script → IsPlayed s h → AreGiven h
are_given sound s [] formed bare o = tt
are_given sound s (e ∷ h) formed bare o = (entry_given sound s h e formed bare o, are_given sound s h formed bare (played_below s e h o))
