-- In a plain run of a load the revision manager sees no request of the next revision.
use Rattle.std.proofs.Common.{◌≡◌, ◌≤◌, ℕ, List, Bool, true, false, Option, Some, refl, sym, ap, subst, ◌∙◌, arith}
use Rattle.std.specs.Prelude.{if◌then◌else◌}
use Rattle.cmc_meta.specs.declared.key.Key.{Key}
use Rattle.cmc_objects.specs.declared.certificate.Certificate.{Certificate}
use Rattle.cmc_objects.specs.declared.request.CertificateRequest.{CertificateRequest}
use Rattle.cmc_objects.specs.declared.object.Object.TheVariants.{Cert}
use Rattle.cmc_objects.specs.declared.call.Call.{Call}
use Rattle.cmc_objects.specs.declared.call.Reply.{Reply}
use Rattle.cmc_objects.specs.declared.entry.Entry.{Entry}
use Rattle.cmc_objects.specs.declared.role.Role.{Role}
use Rattle.cmc_objects.specs.declared.role.Role.TheVariants.{Revision}
use Rattle.cmc_match.specs.Revisions.{revision_of}
use Rattle.cmc_pass.specs.declared.pass.Act.{Act}
use Rattle.cmc_pass.specs.declared.pass.Act.TheVariants.{Nothing}
use Rattle.cmc_pass.specs.declared.pass.Views.{Views}
use Rattle.cmc_model.specs.Objects.{object_at}
use Rattle.cmc_model.specs.Histories.{Setting, objects}
use Rattle.cmc_rules.specs.declared.progress.OpenPass.{OpenPass}
use Rattle.cmc_rules.specs.Causes.{IsFirstCall}
use Rattle.cmc_rules.specs.NextRequests.{is_next, next_revision}
use Rattle.cmc_rules.specs.RevisionManager.{by_limit, revise, revise_of, revision}
use Rattle.cmc_rules.specs.SeenObjects.{IsAmong}
use Rattle.cmc_rules.specs.Trigger.{is_issuing}
use Rattle.cmc_rules.specs.Views.{of_certificate, present_views, requests_of, views_in, views_of}
use Rattle.cmc_waits.proofs.EachWait.{owned_stands}
use Rattle.cmc_load_laws.specs.LoadRuns.{SeesAll}
use Rattle.cmc_load_laws.proofs.Belonging.{certificate_of, not_true}
use Rattle.cmc_load_laws.proofs.OldRequests.{HasNoneAhead, is_number_of}
use Rattle.cmc_load_laws.proofs.Parts.{weight_off}
use Rattle.cmc_load_laws.proofs.PassRights.{IsAcceptedBy}
use Rattle.cmc_load_laws.proofs.RequestTops.{HaveTops}
use Rattle.cmc_load_laws.proofs.RevisionTops.{top}

-- it acts on no Certificate that is being issued
idle_by : (b : Bool) (does : Act) (call : Call) → IsFirstCall (if b then Nothing else does) call → b ≡ false
idle_by true does call first = absurd first
idle_by false does call first = refl

acts_idle : (seen : Views) (call : Call) (c : Certificate) → seen.certificate ≡ Some c → IsFirstCall (revise seen) call → is_issuing c ≡ false
unfolding revise
acts_idle seen call c sees first =
    idle_by (is_issuing c) (by_limit c.spec.history_limit seen.requests) call (subst (λ (o : Option Certificate). IsFirstCall (revise_of seen.requests o) call) sees first)

certificate_there : (s : Setting) (h : List Entry) (v : Views) (key : Key) (c : Certificate) → v ≡ present_views s h Revision key → v.certificate ≡ Some c → object_at (objects s h) key ≡ Some (Cert c)
unfolding views_in views_of
certificate_there s h v key c is sees = certificate_of (object_at (objects s h) key) c (sym (ap (λ (x : Views). x.certificate) is) ∙ sees)

requests_there : (s : Setting) (h : List Entry) (v : Views) (key : Key) (c : Certificate) → v ≡ present_views s h Revision key → v.certificate ≡ Some c → v.requests ≡ requests_of (objects s h) c
unfolding views_in views_of
requests_there s h v key c is sees =
    ap (λ (x : Views). x.requests) is ∙ ap (of_certificate (requests_of (objects s h))) (sym (ap (λ (x : Views). x.certificate) is) ∙ sees)

not_above : (c : Certificate) (r : CertificateRequest) → is_issuing c ≡ false → revision r ≤ top c → is_next c r ≡ true → ⊥
not_above c r idle low on = omega (arith, low, weight_off 1 (is_issuing c) idle, is_number_of (revision_of r) (next_revision c) on)

pub none_ahead : (s : Setting) (h : List Entry) (n : ℕ) (call : Call) (reply : Reply) (a : IsAcceptedBy s h n call reply) → HaveTops (objects s h) → a.caller.pass.role ≡ Revision → SeesAll s h a.caller.pass → IsFirstCall (revise a.caller.pass.seen) call
    → HasNoneAhead a.caller.pass.seen
none_ahead s h n call reply a tops is current first c r sees among on =
    let p : OpenPass = a.caller.pass in
    let seen : p.seen ≡ present_views s h Revision p.key = subst (λ (x : Role). p.seen ≡ present_views s h x p.key) is current.sees in
    let there = owned_stands (objects s h) c r (subst (IsAmong r) (requests_there s h p.seen p.key c seen sees) among) in
    not_true (is_next c r)
    (λ next. not_above c r (acts_idle p.seen call c sees first) (tops p.key there.0 c r (certificate_there s h p.seen p.key c seen sees) there.1 (a.caller.saw.well.request_owned c r sees among)) next)
