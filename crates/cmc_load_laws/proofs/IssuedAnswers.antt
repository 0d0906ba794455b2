-- In a load the issuer's controller writes the usual certificate of the moment, on an approved request.
use Rattle.std.proofs.Common.{◌≡◌, ◌+◌, ℕ, ℤ, List, [], Bool, true, false, Option, Some, None, refl, sym, ap, subst, ◌∙◌}
use Rattle.std.proofs.lemmas.Bool.{and_parts}
use Rattle.std.specs.Prelude.{if◌then◌else◌}
use Rattle.cmc_meta.specs.declared.key.Key.{Key}
use Rattle.cmc_objects.specs.declared.request.CertificateRequest.{CertificateRequest}
use Rattle.cmc_objects.specs.declared.call.Call.{Call}
use Rattle.cmc_objects.specs.declared.entry.Entry.{Entry}
use Rattle.cmc_objects.specs.declared.orders.Order.{Order}
use Rattle.cmc_objects.specs.declared.orders.Order.TheVariants as orders
use Rattle.cmc_objects.specs.declared.orders.Signing.{Signing}
use Rattle.cmc_objects.specs.declared.orders.Signing.TheVariants.{Issued, Failed, Pending}
use Rattle.cmc_objects.specs.declared.role.Role.TheVariants.{Issuer}
use Rattle.cmc_objects.specs.declared.rows.Rows.{Rows}
use Rattle.cmc_objects.specs.declared.rows.SignRow.{SignRow}
use Rattle.cmc_objects.specs.Requests.{is_approved, is_denied}
use Rattle.cmc_answers.specs.Answers.{is_left_open}
use Rattle.cmc_answers.specs.Signings.{signing_of}
use Rattle.cmc_pass.specs.Values.{IsValue}
use Rattle.cmc_pass.specs.declared.pass.Act.TheVariants.{Nothing, Ask as Asks}
use Rattle.cmc_pass.specs.declared.pass.Desk.{Desk}
use Rattle.cmc_pass.specs.declared.pass.Views.{Views}
use Rattle.cmc_pass.specs.declared.value.Value.TheVariants as values
use Rattle.cmc_model.specs.Histories.{Setting}
use Rattle.cmc_rules.specs.declared.progress.Stage.{Stage}
use Rattle.cmc_rules.specs.declared.progress.Stage.TheVariants.{Fresh, Asked, Given, Read, Saved, Wrote, Refused, Barred}
use Rattle.cmc_rules.specs.Acts.{act, call_after}
use Rattle.cmc_rules.specs.Causes.{IsNextCall}
use Rattle.cmc_rules.specs.Issuer.{answered_after, answered_to, ask_issuer, certificate_of, deny, grant, grant_of, is_open, is_request_waiting, issuer, sign_order, status_call}
use Rattle.cmc_rules.specs.IssuerAnswers.{answered}
use Rattle.cmc_rules.specs.Orders.{default_row, reply_row}
use Rattle.cmc_safety.proofs.Course.{HasCome}
use Rattle.cmc_safety.proofs.NextCalls.{IsCallAt}
use Rattle.cmc_load_laws.specs.LoadRuns.{HasIssued}
use Rattle.cmc_load_laws.proofs.AskedActs.{HoldsOfQuestion, IsOfAct}
use Rattle.cmc_load_laws.proofs.GoodRequests.{IsGoodRequest}
use Rattle.cmc_load_laws.proofs.IssuedStages.{issued_stage}
use Rattle.cmc_load_laws.proofs.RequestWrites.{request_call}

-- the request that is seen is approved, and gets what the issuer usually signs for it at the moment
pub record IsUsualAnswer (seen : Views) (since : ℤ) (call : Call) : Type 0 where
  pub request : CertificateRequest
  pub number : ℕ
  pub certificate : List ℕ
  pub ca : List ℕ
  pub sees : seen.request ≡ Some request
  pub approved : is_approved request ≡ true
  pub signs : signing_of default_row number request since ≡ Issued certificate ca
  pub is : call ≡ request_call request (answered request.status (Issued certificate ca) since)

-- ---- the question

sign_by : (x y : Bool) (since : ℤ) (d : Desk) (r : CertificateRequest) (order : Order) → (if x then (if y then Nothing else ask_issuer since d r) else Nothing) ≡ Asks order → (x ≡ true) × (order ≡ orders.Sign (sign_order since d r))
unfolding ask_issuer
sign_by true true since d r order is = absurd (cc is)
sign_by true false since d r order is = (refl, sym (let same : orders.Sign (sign_order since d r) ≡ order = cc is in same))
sign_by false y since d r order is = absurd (cc is)

signs_by : (x : Bool) (since : ℤ) (d : Desk) (r : CertificateRequest) (order : Order) → x ≡ false → (if x then deny since r else grant since d r) ≡ Asks order → (is_open r ≡ true) × (order ≡ orders.Sign (sign_order since d r))
signs_by true since d r order off is = absurd (cc off)
signs_by false since d r order off is = sign_by (is_open r) (is_request_waiting since r) since d r order is

-- ---- the answer

row_is : (material : List (Key × Rows)) (key : Key) (n : ℕ) → material ≡ [] → reply_row material key n ≡ default_row
unfolding reply_row
row_is material key n none = ap (λ (l : List (Key × Rows)). reply_row l key n) none

answer_is : (since : ℤ) (d : Desk) (r : CertificateRequest) (answer : Signing) → d.material ≡ [] → IsValue (orders.Sign (sign_order since d r)) (values.Answered answer) → answer ≡ signing_of default_row (d.asked + 1) r since
unfolding sign_order
answer_is since d r answer none right =
    let row = row_is d.material (certificate_of r) d.asked none in
    right (ap is_left_open row) ∙ ap (λ (x : SignRow). signing_of x (d.asked + 1) r since) row

call_is : (since : ℤ) (r : CertificateRequest) (answer : Signing) (call : Call) → Some (status_call (answered r.status answer since) r) ≡ Some call → call ≡ request_call r (answered r.status answer since)
unfolding status_call
call_is since r answer call is = sym (let same : request_call r (answered r.status answer since) ≡ call = cc is in same)

usual_of : (seen : Views) (since : ℤ) (d : Desk) (order : Order) (certificate ca : List ℕ) (call : Call) (o : Option CertificateRequest) → seen.request ≡ o → ((r : CertificateRequest) → seen.request ≡ Some r → IsGoodRequest r) → d.material ≡ []
    → grant_of since d o ≡ Asks order → IsValue order (values.Answered (Issued certificate ca)) → answered_to since o order (values.Answered (Issued certificate ca)) ≡ Some call → IsUsualAnswer seen since call
usual_of seen since d order certificate ca call None sees good none asks right is = absurd (cc asks)
usual_of seen since d order certificate ca call (Some r) sees good none asks right is =
    let two = signs_by (is_denied r) since d r order (good r sees).undenied asks in
    record {
      request = r;
      number = d.asked + 1;
      certificate = certificate;
      ca = ca;
      sees = sees;
      approved = (and_parts (is_approved r) _ two.0).0;
      signs = sym (answer_is since d r (Issued certificate ca) none (subst (λ (x : Order). IsValue x (values.Answered (Issued certificate ca))) two.1 right));
      is = call_is since r (Issued certificate ca) call (subst (λ (x : Order). answered_to since (Some r) x (values.Answered (Issued certificate ca)) ≡ Some call) two.1 is);
    }

-- ---- by how far the pass has come

at_stage : (s : Setting) (h : List Entry) (n : ℕ) (seen : Views) (since : ℤ) (d : Desk) (stage : Stage) (call : Call) → s.material ≡ [] → ((r : CertificateRequest) → seen.request ≡ Some r → IsGoodRequest r) → HasIssued stage
    → HoldsOfQuestion stage (IsOfAct s Issuer seen since) → HasCome h n Issuer seen since stage → IsNextCall stage (act Issuer seen since d) (call_after Issuer seen since) call → IsUsualAnswer seen since call
unfolding act issuer call_after answered_after
at_stage s h n seen since d (Given order (values.Answered (Issued certificate ca))) call none good has asked come next =
    usual_of seen since asked.its_desk order certificate ca call seen.request refl good (asked.material ∙ none) asked.asks come.right next
at_stage s h n seen since d (Given order (values.Answered (Failed message))) call none good has asked come next = absurd has
at_stage s h n seen since d (Given order (values.Answered Pending)) call none good has asked come next = absurd has
at_stage s h n seen since d (Given order (values.Made file)) call none good has asked come next = absurd has
at_stage s h n seen since d (Given order (values.Signed signature)) call none good has asked come next = absurd has
at_stage s h n seen since d (Given order (values.Judged approved)) call none good has asked come next = absurd has
at_stage s h n seen since d Fresh call none good has asked come next = absurd has
at_stage s h n seen since d (Asked order) call none good has asked come next = absurd has
at_stage s h n seen since d Read call none good has asked come next = absurd has
at_stage s h n seen since d Saved call none good has asked come next = absurd has
at_stage s h n seen since d Wrote call none good has asked come next = absurd has
at_stage s h n seen since d (Refused entry obstacle) call none good has asked come next = absurd has
at_stage s h n seen since d Barred call none good has asked come next = absurd has

pub usual_answer : (s : Setting) (h : List Entry) (n : ℕ) (seen : Views) (since : ℤ) (d : Desk) (stage : Stage) (call : Call) → s.material ≡ [] → ((r : CertificateRequest) → seen.request ≡ Some r → IsGoodRequest r)
    → HoldsOfQuestion stage (IsOfAct s Issuer seen since) → HasCome h n Issuer seen since stage → IsNextCall stage (act Issuer seen since d) (call_after Issuer seen since) call → IsCallAt stage Issuer seen since call → IsUsualAnswer seen since call
usual_answer s h n seen since d stage call none good asked come next at = at_stage s h n seen since d stage call none good (issued_stage s h n seen since d stage call none good asked come next at) asked come next
