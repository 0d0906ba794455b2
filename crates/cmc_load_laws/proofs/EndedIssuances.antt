-- In a plain run of a load the status that ends an issuance lowers the measure.
use Rattle.std.proofs.Common.{◌≡◌, ◌<◌, ◌+◌, ℕ, ℤ, List, Some, sym, ap, subst, ◌∙◌}
use Rattle.std.proofs.lemmas.Bool.{and_parts}
use Rattle.std.specs.Prelude.{option_and_then, unwrap_or}
use Rattle.cmc_meta.specs.declared.conditions.ConditionKind.TheVariants.{Ready}
use Rattle.cmc_meta.specs.declared.key.Key.{Key}
use Rattle.cmc_meta.specs.ConditionLists.{IsInOrder, condition_at}
use Rattle.cmc_objects.specs.declared.certificate.Certificate.{Certificate}
use Rattle.cmc_objects.specs.declared.request.CertificateRequest.{CertificateRequest}
use Rattle.cmc_objects.specs.declared.object.Object.TheVariants.{Cert, Request}
use Rattle.cmc_objects.specs.declared.call.Call.{Call}
use Rattle.cmc_objects.specs.declared.call.Reply.{Reply}
use Rattle.cmc_objects.specs.declared.entry.Entry.{Entry}
use Rattle.cmc_objects.specs.declared.entry.Entry.TheVariants.{Call as Called}
use Rattle.cmc_objects.specs.declared.entry.Who.TheVariants.{Pass}
use Rattle.cmc_objects.specs.declared.role.Role.TheVariants.{Issuing}
use Rattle.cmc_objects.specs.Objects.{key_of}
use Rattle.cmc_pass.specs.declared.pass.Act.{Act}
use Rattle.cmc_pass.specs.declared.pass.Act.TheVariants.{Issue, Nothing}
use Rattle.cmc_pass.specs.declared.pass.IssuePlan.{IssuePlan}
use Rattle.cmc_pass.specs.declared.pass.Views.{Views}
use Rattle.cmc_model.specs.Objects.{Objects, object_at}
use Rattle.cmc_model.specs.Replies.{key_of_call, settled, stored}
use Rattle.cmc_model.specs.Histories.{Setting, moment, objects, accepted}
use Rattle.cmc_model.specs.Writes.{writes}
use Rattle.cmc_rules.specs.declared.progress.OpenPass.{OpenPass}
use Rattle.cmc_rules.specs.declared.progress.Stage.{Stage}
use Rattle.cmc_rules.specs.declared.progress.Stage.TheVariants.{Saved}
use Rattle.cmc_rules.specs.Acts.{act, call_after}
use Rattle.cmc_rules.specs.Causes.{IsNextCall, IsStatusCall}
use Rattle.cmc_rules.specs.Desks.{desk}
use Rattle.cmc_rules.specs.Issuance.{issued_status, issuing, says_issued}
use Rattle.cmc_rules.specs.SeenObjects.{IsAmong}
use Rattle.cmc_rules.specs.Trigger.{trigger}
use Rattle.cmc_rules.specs.Views.{certificate_at, certificate_in, of_certificate, requests_of, views_in, views_of}
use Rattle.cmc_rules.proofs.Admitted.{versions_meet}
use Rattle.cmc_rules.proofs.Sights.{seen_certificate, seen_owned}
use Rattle.cmc_rules.proofs.Versions.{version_keyed}
use Rattle.cmc_run_laws.specs.Issuances.{IsAsWritten, IsNotDue, certificate_restated, with_certificate, with_secret}
use Rattle.cmc_run_laws.proofs.InOrder.{all_in_order}
use Rattle.cmc_run_laws.proofs.Issued.{IsFilled, filled_by_call, nothing_after_issuance}
use Rattle.cmc_run_laws.proofs.TablesChange.{IsOrderly}
use Rattle.cmc_safety.proofs.Carried.{EachVersion, seen_has}
use Rattle.cmc_safety.proofs.InProgress.{IsPlayed}
use Rattle.cmc_waits.proofs.EachWait.{owned_stands}
use Rattle.cmc_load_laws.specs.Frame.{seen_of}
use Rattle.cmc_load_laws.specs.LoadRuns.{LowersMeasure}
use Rattle.cmc_load_laws.specs.Measure.{measure}
use Rattle.cmc_load_laws.proofs.AnsweredRequests.{IsSignedAt}
use Rattle.cmc_load_laws.proofs.CertificateWrites.{IsRestated, is_restated}
use Rattle.cmc_load_laws.proofs.EndedFalls.{ended_falls}
use Rattle.cmc_load_laws.proofs.FreshRequests.{HaveFresh, IsReadyFor}
use Rattle.cmc_load_laws.proofs.GoodRequests.{IsGoodObject}
use Rattle.cmc_load_laws.proofs.IssuanceEnds.{IsEnd, issuance_ends, secret_of}
use Rattle.cmc_load_laws.proofs.LoadHistories.{IsForOneIn}
use Rattle.cmc_load_laws.proofs.MeasureLowers.{status_lowers}
use Rattle.cmc_load_laws.proofs.NotDue.{LastsBeyondLead, LeadsBelow, not_due}
use Rattle.cmc_load_laws.proofs.OwnedAmong.{only_passes}
use Rattle.cmc_load_laws.proofs.PassRights.{IsAcceptedBy, next_as}
use Rattle.cmc_load_laws.proofs.NeverFailing.{only_among}
use Rattle.cmc_load_laws.proofs.SavedPasses.{HasSaved}

-- ---- the status that comes next

status_next : (s : Setting) (h : List Entry) (n : ℕ) (call : Call) (reply : Reply) (a : IsAcceptedBy s h n call reply) → a.caller.pass.role ≡ Issuing → a.caller.pass.stage ≡ Saved → IsStatusCall (issuing a.caller.pass.seen a.caller.pass.since) call
unfolding act
status_next s h n call reply a is saved =
    let p : OpenPass = a.caller.pass in
    subst (λ (t : Stage). IsNextCall t (act Issuing p.seen p.since (desk s h p.role p.seen)) (call_after Issuing p.seen p.since) call) saved (next_as s h n call reply a Issuing is)

requests_at : (m : Objects) (key : Key) (c : Certificate) → certificate_at m key ≡ Some c → (seen_of m key).requests ≡ requests_of m c
unfolding views_in views_of
requests_at m key c is = ap (of_certificate (requests_of m)) is

one_plan : (does : Act) (a b : IssuePlan) → does ≡ Issue a → does ≡ Issue b → a ≡ b
one_plan does a b one other = let same : Issue a ≡ Issue b = sym one ∙ other in cc same

module _ (lasts : LastsBeyondLead) (leads : LeadsBelow) (s : Setting) (h : List Entry) (n : ℕ) (call : Call) (reply : Reply) (o : IsPlayed s h) (good : EachVersion IsGoodObject (writes s h)) (a : IsAcceptedBy s h n call reply)
    (fresh : HaveFresh (IsSignedAt (moment s h)) (objects s h)) (now : a.caller.pass.since ≡ moment s h) (saved : HasSaved s h a.caller.pass.key a.caller.pass.seen a.caller.pass.since) (e : IsEnd a.caller.pass.seen a.caller.pass.since call) where
  abbrev pub p : OpenPass
  p = a.caller.pass

  abbrev pub c : Certificate
  c = e.of.certificate

  abbrev pub r : CertificateRequest
  r = e.of.going.request

  restated : IsRestated s h call reply c (issued_status p.since c.status)
  restated = is_restated s h p.seen call reply c (issued_status p.since c.status) a.legal a.caller.saw.known e.of.sees a.founded e.is

  key_is : key_of (Cert c) ≡ p.key
  key_is = version_keyed s h p.key (Cert c) a.legal (a.caller.version c e.of.sees)

  there_is : certificate_at (objects s h) p.key ≡ Some c
  there_is = ap (option_and_then certificate_in) (ap (object_at (objects s h)) (sym key_is) ∙ restated.was)

  among : IsAmong r p.seen.requests
  among = only_among (unwrap_or c.status.revision 0 + 1) p.seen.requests r e.of.going.stands

  requests_are : p.seen.requests ≡ requests_of (objects s h) c
  requests_are = sym (ap (λ (v : Views). v.requests) saved.views) ∙ requests_at (objects s h) p.key c there_is

  ready : IsReadyFor c r
  ready = record {
    issuing = e.of.issuing;
    next = only_passes (unwrap_or c.status.revision 0 + 1) p.seen.requests r e.of.going.stands;
    says = (and_parts (says_issued (condition_at r.status.conditions Ready)) _ e.of.planned.granted.granted).0;
  }

  signed : IsSignedAt p.since r
  signed =
      let there = owned_stands (objects s h) c r (subst (IsAmong r) requests_are among) in
      subst (λ (t : ℤ). IsSignedAt t r) (sym now) (fresh (key_of (Cert c)) there.0 c r restated.was there.1 (a.caller.saw.well.request_owned c r e.of.sees among) ready)

  same_plan : saved.plan ≡ e.plan
  same_plan = one_plan (issuing p.seen p.since) saved.plan e.plan saved.plans e.acts

  written : IsAsWritten e.plan.secret saved.k
  written = subst (λ (x : IssuePlan). IsAsWritten x.secret saved.k) same_plan saved.written

  has_filled : IsFilled c e.of.going.file r.status.certificate r.status.ca saved.k
  has_filled =
      filled_by_call c e.of.going.file r.status.certificate r.status.ca p.seen.secret saved.k
      (subst (λ (x : Call). IsAsWritten x saved.k) (ap (λ (x : IssuePlan). x.secret) e.of.planned.is ∙ secret_of p.since c e.of.going.file r p.seen.secret) written)

  later_due : IsNotDue p.since c saved.k
  later_due =
      not_due lasts leads p.since c e.of.going.file r saved.k (versions_meet s h a.legal p.key (Cert c) (a.caller.version c e.of.sees))
      (seen_has IsGoodObject (writes s h) p.seen (Request r) good a.caller.saw.known (seen_owned p.seen r among)) signed e.of.going.wanted has_filled

  seen_is : seen_of (objects s h) (key_of (Cert c)) ≡ with_secret saved.k p.seen
  seen_is = ap (seen_of (objects s h)) key_is ∙ saved.views

  quiet : trigger (with_certificate (certificate_restated (accepted s h + 1) (issued_status p.since c.status) c) (seen_of (objects s h) (key_of (Cert c)))) p.since ≡ Nothing
  quiet =
      subst (λ (v : Views). trigger (with_certificate (certificate_restated (accepted s h + 1) (issued_status p.since c.status) c) v) p.since ≡ Nothing) (sym seen_is)
      (nothing_after_issuance p.since p.seen c e.plan saved.k (accepted s h + 1) e.of.plans written later_due)

  ordered : IsInOrder c.status.conditions
  ordered = seen_has IsOrderly (writes s h) p.seen (Cert c) (all_in_order s h o.caused o.follows) a.caller.saw.known (seen_certificate p.seen c e.of.sees)

  pub status_lowers_it : IsForOneIn (objects s h) (key_of_call (settled call reply)) (stored (accepted s h + 1) (moment s h) (objects s h) (settled call reply)) → LowersMeasure s h (Called (Pass n) call reply)
  status_lowers_it one =
      let seen : Views = seen_of (objects s h) (key_of (Cert c)) in
      status_lowers s h n call reply c (issued_status p.since c.status) a.ok restated one
      (λ desk due rules.
      subst (λ (t : ℤ). measure desk due t (with_certificate (certificate_restated (accepted s h + 1) (issued_status p.since c.status) c) seen) < measure desk due t (with_certificate c seen)) now
      (ended_falls desk due p.since seen c (accepted s h + 1) ordered e.of.issuing quiet))

pub ended_lowers : LastsBeyondLead → LeadsBelow → (s : Setting) (h : List Entry) (n : ℕ) (call : Call) (reply : Reply) → IsPlayed s h → EachVersion IsGoodObject (writes s h) → (a : IsAcceptedBy s h n call reply) → HaveFresh (IsSignedAt (moment s h)) (objects s h)
    → a.caller.pass.since ≡ moment s h → HasSaved s h a.caller.pass.key a.caller.pass.seen a.caller.pass.since → a.caller.pass.role ≡ Issuing → a.caller.pass.stage ≡ Saved
    → IsForOneIn (objects s h) (key_of_call (settled call reply)) (stored (accepted s h + 1) (moment s h) (objects s h) (settled call reply)) → LowersMeasure s h (Called (Pass n) call reply)
ended_lowers lasts leads s h n call reply o good a fresh now saved is stage one =
    status_lowers_it lasts leads s h n call reply o good a fresh now saved (issuance_ends a.caller.pass.seen a.caller.pass.since call (status_next s h n call reply a is stage)) one
