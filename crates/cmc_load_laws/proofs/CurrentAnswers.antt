-- The issuer's controller lowers the measure where the issuer has issued.
use Rattle.std.proofs.Common.{◌≡◌, ◌+◌, ℕ, ℤ, List, Bool, true, false, Option, Some, None, refl, sym, ap, subst, ◌∙◌}
use Rattle.std.specs.Prelude.{if◌then◌else◌, codes}
use Rattle.cmc_objects.specs.declared.request.CertificateRequest.{CertificateRequest}
use Rattle.cmc_objects.specs.declared.object.Object.TheVariants.{Request}
use Rattle.cmc_objects.specs.declared.call.Call.{Call}
use Rattle.cmc_objects.specs.declared.call.Reply.{Reply}
use Rattle.cmc_objects.specs.declared.entry.Entry.{Entry}
use Rattle.cmc_objects.specs.declared.entry.Entry.TheVariants.{Call as Called}
use Rattle.cmc_objects.specs.declared.entry.Who.TheVariants.{Pass}
use Rattle.cmc_objects.specs.declared.orders.Order.{Order}
use Rattle.cmc_objects.specs.declared.orders.Order.TheVariants as orders
use Rattle.cmc_objects.specs.declared.orders.Signing.TheVariants.{Issued, Failed, Pending}
use Rattle.cmc_objects.specs.declared.role.Role.{Role}
use Rattle.cmc_objects.specs.declared.role.Role.TheVariants.{Issuer}
use Rattle.cmc_objects.specs.Objects.{key_of}
use Rattle.cmc_objects.specs.Requests.{is_denied}
use Rattle.cmc_pass.specs.declared.pass.Act.{Act}
use Rattle.cmc_pass.specs.declared.pass.Act.TheVariants.{Nothing, Ask as Asks}
use Rattle.cmc_pass.specs.declared.pass.Desk.{Desk}
use Rattle.cmc_pass.specs.declared.pass.Views.{Views}
use Rattle.cmc_pass.specs.declared.value.Value.TheVariants.{Made, Signed, Answered, Judged}
use Rattle.cmc_model.specs.Replies.{key_of_call, settled, stored}
use Rattle.cmc_model.specs.Histories.{Setting, moment, objects, accepted}
use Rattle.cmc_rules.specs.declared.progress.OpenPass.{OpenPass}
use Rattle.cmc_rules.specs.declared.progress.Stage.{Stage}
use Rattle.cmc_rules.specs.declared.progress.Stage.TheVariants.{Fresh, Asked, Given, Read, Saved, Wrote, Refused, Barred}
use Rattle.cmc_rules.specs.Acts.{act, call_after}
use Rattle.cmc_rules.specs.IssuerAnswers.{answered}
use Rattle.cmc_rules.specs.Causes.{IsNextCall}
use Rattle.cmc_rules.specs.Desks.{desk}
use Rattle.cmc_rules.specs.Issuer.{answered_after, answered_to, ask_issuer, deny, grant, grant_of, grant_one, has_reason, is_open, is_request_waiting, issuer, status_call}
use Rattle.cmc_rules.specs.Passes.{open_pass}
use Rattle.cmc_safety.proofs.Course.{of_open}
use Rattle.cmc_load_laws.specs.LoadRuns.{HasIssued, SeesAll, LowersMeasure}
use Rattle.cmc_load_laws.specs.Measure.{acts}
use Rattle.cmc_load_laws.proofs.Answered.{issued_falls}
use Rattle.cmc_load_laws.proofs.AskedActs.{AskedByAct, HoldsOfQuestion, IsOfAct, asked_act}
use Rattle.cmc_load_laws.proofs.CurrentHistories.{IsOfLoad}
use Rattle.cmc_load_laws.proofs.LoadHistories.{IsForOneIn}
use Rattle.cmc_load_laws.proofs.LoadStores.{at_key}
use Rattle.cmc_load_laws.proofs.PassRights.{IsAcceptedBy, next_as}
use Rattle.cmc_load_laws.proofs.RequestWrites.{is_restated_request, request_call, request_lowers}

-- ---- what was asked

-- what is asked about is not denied
none_asked : (y : Bool) (call : Act) (order : Order) → ((call ≡ Asks order) → ⊥) → (if y then Nothing else call) ≡ Asks order → ⊥
none_asked true call order other is = absurd (cc is)
none_asked false call order other is = other is

denies_none : (now : ℤ) (r : CertificateRequest) (order : Order) → deny now r ≡ Asks order → ⊥
denies_none now r order is = none_asked (has_reason (codes "Denied") r) _ order (λ e. absurd (cc e)) is

not_denied_by : (x : Bool) (now : ℤ) (d : Desk) (r : CertificateRequest) (order : Order) → (if x then deny now r else grant now d r) ≡ Asks order → x ≡ false
not_denied_by true now d r order is = absurd (denies_none now r order is)
not_denied_by false now d r order is = refl

grants : (x : Bool) (now : ℤ) (d : Desk) (r : CertificateRequest) → x ≡ false → acts (if x then deny now r else grant now d r) ≡ true → acts (grant now d r) ≡ true
grants true now d r off is = absurd (cc off)
grants false now d r off is = is

open_by : (x y : Bool) (now : ℤ) (d e : Desk) (r : CertificateRequest) → acts (if x then (if y then Nothing else ask_issuer now d r) else Nothing) ≡ true → acts (if x then (if y then Nothing else ask_issuer now e r) else Nothing) ≡ true
unfolding ask_issuer
open_by true true now d e r is = is
open_by true false now d e r is = refl
open_by false y now d e r is = is

-- the request may be asked about, whatever the desk
any_desk : (now : ℤ) (d e : Desk) (r : CertificateRequest) → is_denied r ≡ false → acts (grant_one now d r) ≡ true → acts (grant_one now e r) ≡ true
any_desk now d e r off is =
    ap (λ (b : Bool). acts (if b then deny now r else grant now e r)) off ∙ open_by (is_open r) (is_request_waiting now r) now d e r (grants (is_denied r) now d r off is)

-- ---- the write of what was issued

record IsIssuedWrite (seen : Views) (since : ℤ) (call : Call) : Type 0 where
  request : CertificateRequest
  certificate : List ℕ
  ca : List ℕ
  sees : seen.request ≡ Some request
  is : call ≡ request_call request (answered request.status (Issued certificate ca) since)
  off : is_denied request ≡ false
  asks : (d : Desk) → acts (grant_one since d request) ≡ true

of_request : (seen : Views) (since : ℤ) (d : Desk) (order : Order) (certificate ca : List ℕ) (o : Option CertificateRequest) (call : Call) → seen.request ≡ o → grant_of since d o ≡ Asks order
    → answered_to since o order (Answered (Issued certificate ca)) ≡ Some call → IsIssuedWrite seen since call
unfolding status_call
of_request seen since d (orders.Sign order) certificate ca (Some r) call sees asks is =
    let off : is_denied r ≡ false = not_denied_by (is_denied r) since d r (orders.Sign order) asks in
    record {
      request = r;
      certificate = certificate;
      ca = ca;
      sees = sees;
      is = sym (let same : request_call r (answered r.status (Issued certificate ca) since) ≡ call = cc is in same);
      off = off;
      asks = λ e. any_desk since d e r off (ap acts asks);
    }
of_request seen since d (orders.Sign order) certificate ca None call sees asks is = absurd (cc is)
of_request seen since d (orders.Key order) certificate ca o call sees asks is = absurd (cc is)
of_request seen since d (orders.Csr order) certificate ca o call sees asks is = absurd (cc is)
of_request seen since d (orders.Judge order) certificate ca o call sees asks is = absurd (cc is)

of_issued : (s : Setting) (seen : Views) (since : ℤ) (order : Order) (certificate ca : List ℕ) (call : Call) → IsOfAct s Issuer seen since order → call_after Issuer seen since order (Answered (Issued certificate ca)) ≡ Some call → IsIssuedWrite seen since call
unfolding act issuer call_after answered_after
of_issued s seen since order certificate ca call of is = of_request seen since of.its_desk order certificate ca seen.request call refl of.asks is

issued_at : (s : Setting) (seen : Views) (since : ℤ) (does : Act) (stage : Stage) (call : Call) → HasIssued stage → HoldsOfQuestion stage (IsOfAct s Issuer seen since) → IsNextCall stage does (call_after Issuer seen since) call → IsIssuedWrite seen since call
issued_at s seen since does (Given order (Answered (Issued certificate ca))) call has asked next = of_issued s seen since order certificate ca call asked next
issued_at s seen since does (Given order (Answered (Failed message))) call has asked next = absurd has
issued_at s seen since does (Given order (Answered Pending)) call has asked next = absurd has
issued_at s seen since does (Given order (Made file)) call has asked next = absurd has
issued_at s seen since does (Given order (Signed signature)) call has asked next = absurd has
issued_at s seen since does (Given order (Judged approved)) call has asked next = absurd has
issued_at s seen since does Fresh call has asked next = absurd has
issued_at s seen since does (Asked order) call has asked next = absurd has
issued_at s seen since does Read call has asked next = absurd has
issued_at s seen since does Saved call has asked next = absurd has
issued_at s seen since does Wrote call has asked next = absurd has
issued_at s seen since does (Refused entry obstacle) call has asked next = absurd has
issued_at s seen since does Barred call has asked next = absurd has

-- ---- the measure

pub issuer_lowers : (s : Setting) (h : List Entry) (n : ℕ) (call : Call) (reply : Reply) (a : IsAcceptedBy s h n call reply) → IsOfLoad s h → a.caller.pass.role ≡ Issuer → SeesAll s h a.caller.pass → HasIssued a.caller.pass.stage
    → IsForOneIn (objects s h) (key_of_call (settled call reply)) (stored (accepted s h + 1) (moment s h) (objects s h) (settled call reply)) → LowersMeasure s h (Called (Pass n) call reply)
issuer_lowers s h n call reply a load is current has one =
    let p : OpenPass = a.caller.pass in
    let now : ℤ = moment s h in
    let asked = of_open (AskedByAct s) (open_pass s h n) p a.caller.opened (asked_act s h n load.played.caused) in
    let first = issued_at s p.seen p.since (act Issuer p.seen p.since (desk s h p.role p.seen)) p.stage call has (subst (λ (r : Role). HoldsOfQuestion p.stage (IsOfAct s r p.seen p.since)) is asked) (next_as s h n call reply a Issuer is) in
    let w = subst (λ (t : ℤ). IsIssuedWrite p.seen t call) current.now first in
    let r : CertificateRequest = w.request in
    let restated = is_restated_request s h p.seen call reply r (answered r.status (Issued w.certificate w.ca) now) a.legal a.caller.saw.known w.sees a.founded w.is in
    let made = at_key s h (key_of (Request r)) (Request r) load.each restated.was in
    let own = load.standing made.certificate made.known in
    request_lowers s h n call reply r (answered r.status (Issued w.certificate w.ca) now) a.ok restated made own one
    (λ d due seen b rest rules. issued_falls d due now seen own.present (accepted s h + 1) w.certificate w.ca b rest r w.off (w.asks d))
