-- In a run of a load the issuer has issued wherever its controller writes.
use Rattle.std.proofs.Common.{◌≡◌, ℕ, ℤ, List, [], Bool, true, false, Option, Some, None, refl, sym, ap, subst, ◌∙◌, inl, inr}
use Rattle.std.specs.Prelude.{if◌then◌else◌}
use Rattle.cmc_meta.specs.declared.key.Key.{Key}
use Rattle.cmc_objects.specs.declared.request.CertificateRequest.{CertificateRequest}
use Rattle.cmc_objects.specs.declared.call.Call.{Call}
use Rattle.cmc_objects.specs.declared.entry.Entry.{Entry}
use Rattle.cmc_objects.specs.declared.orders.Order.{Order}
use Rattle.cmc_objects.specs.declared.orders.Order.TheVariants as orders
use Rattle.cmc_objects.specs.declared.orders.Signing.{Signing}
use Rattle.cmc_objects.specs.declared.orders.Signing.TheVariants.{Issued}
use Rattle.cmc_objects.specs.declared.role.Role.TheVariants.{Issuer}
use Rattle.cmc_objects.specs.declared.rows.Rows.{Rows}
use Rattle.cmc_objects.specs.declared.rows.SignRow.{SignRow}
use Rattle.cmc_objects.specs.Requests.{Signs, is_denied}
use Rattle.cmc_answers.specs.Answers.{is_left_open, scripted_answer}
use Rattle.cmc_answers.specs.Signings.{certificate_of_plan, certified_key, issued, not_readable, plan_of, signing_of}
use Rattle.cmc_pass.specs.Values.{IsValue}
use Rattle.cmc_pass.specs.declared.pass.Act.TheVariants.{Nothing, Ask as Asks}
use Rattle.cmc_pass.specs.declared.pass.Desk.{Desk}
use Rattle.cmc_pass.specs.declared.pass.Views.{Views}
use Rattle.cmc_pass.specs.declared.value.Value.{Value}
use Rattle.cmc_pass.specs.declared.value.Value.TheVariants as values
use Rattle.cmc_model.specs.Histories.{Setting}
use Rattle.cmc_rules.specs.declared.progress.Stage.{Stage}
use Rattle.cmc_rules.specs.declared.progress.Stage.TheVariants.{Fresh, Asked, Given, Read, Saved, Wrote, Refused, Barred}
use Rattle.cmc_rules.specs.Acts.{act, call_after}
use Rattle.cmc_rules.specs.Causes.{IsFirstCall, IsNextCall}
use Rattle.cmc_rules.specs.Issuer.{ask_issuer, certificate_of, deny, grant, grant_of, is_open, is_request_waiting, issuer, sign_order}
use Rattle.cmc_rules.specs.Orders.{default_row, reply_row}
use Rattle.cmc_safety.proofs.Course.{HasCome}
use Rattle.cmc_safety.proofs.NextCalls.{IsCallAt}
use Rattle.cmc_load_laws.specs.LoadRuns.{HasIssued}
use Rattle.cmc_load_laws.proofs.AskedActs.{HoldsOfQuestion, IsOfAct}
use Rattle.cmc_load_laws.proofs.GoodRequests.{IsGoodRequest}

-- ---- the question

record IsSigning (d : Desk) (since : ℤ) (o : Option CertificateRequest) (order : Order) : Type 0 where
  request : CertificateRequest
  sees : o ≡ Some request
  is : order ≡ orders.Sign (sign_order since d request)

asked_by : (d : Desk) (since : ℤ) (r : CertificateRequest) (order : Order) (x y : Bool) → (if x then (if y then Nothing else ask_issuer since d r) else Nothing) ≡ Asks order → IsSigning d since (Some r) order
unfolding ask_issuer
asked_by d since r order true true is = absurd (cc is)
asked_by d since r order false y is = absurd (cc is)
asked_by d since r order true false is = record { request = r; sees = refl; is = sym (let same : orders.Sign (sign_order since d r) ≡ order = cc is in same) }

asked_for : (d : Desk) (since : ℤ) (r : CertificateRequest) (order : Order) (x : Bool) → is_denied r ≡ x → x ≡ false → (if x then deny since r else grant since d r) ≡ Asks order → IsSigning d since (Some r) order
asked_for d since r order true e off is = absurd (cc off)
asked_for d since r order false e off is = asked_by d since r order (is_open r) (is_request_waiting since r) is

asked_of : (d : Desk) (since : ℤ) (o : Option CertificateRequest) (order : Order) → ((r : CertificateRequest) → o ≡ Some r → IsGoodRequest r) → grant_of since d o ≡ Asks order → IsSigning d since o order
asked_of d since None order good is = absurd (cc is)
asked_of d since (Some r) order good is = asked_for d since r order (is_denied r) refl (good r refl).undenied is

asks : (seen : Views) (since : ℤ) (d : Desk) (order : Order) → ((r : CertificateRequest) → seen.request ≡ Some r → IsGoodRequest r) → act Issuer seen since d ≡ Asks order → IsSigning d since seen.request order
unfolding act issuer
asks seen since d order good is = asked_of d since seen.request order good is

-- ---- the answer

row_is : (material : List (Key × Rows)) (key : Key) (n : ℕ) → material ≡ [] → reply_row material key n ≡ default_row
unfolding reply_row
row_is material key n none = ap (λ (l : List (Key × Rows)). reply_row l key n) none

abbrev IsCertificateAnswer : Signing → Type 0
IsCertificateAnswer answer = (certificate : List ℕ) × (ca : List ℕ) × (answer ≡ Issued certificate ca)

issues : (n : ℕ) (r : CertificateRequest) (now : ℤ) → IsGoodRequest r → IsCertificateAnswer (signing_of default_row n r now)
unfolding signing_of
issues n r now good =
    let plan = plan_of n r now None 0 None in (
      certificate_of_plan plan good.fields.names (certified_key None good.fields.key),
      [],
      ap (issued plan None []) good.read ∙ ap (λ (b : Bool). if b then Issued (certificate_of_plan plan good.fields.names (certified_key None good.fields.key)) [] else not_readable) good.kind,
    )

is_issued : (order : Signs) (answer : Signing) → order.row ≡ default_row → IsGoodRequest order.request → (is_left_open order.row ≡ false → answer ≡ scripted_answer order) → IsCertificateAnswer answer
is_issued order answer row good right =
    let by = issues order.number order.request order.moment good in
    (by.0, by.1, right (ap is_left_open row) ∙ ap (λ (x : SignRow). signing_of x order.number order.request order.moment) row ∙ by.2)

has_issued : (order : Order) (answer : Signing) → IsCertificateAnswer answer → HasIssued (Given order (values.Answered answer))
has_issued order answer is = subst (λ (x : Signing). HasIssued (Given order (values.Answered x))) (sym is.2) tt

order_row : (since : ℤ) (d : Desk) (r : CertificateRequest) → d.material ≡ [] → (sign_order since d r).row ≡ default_row
unfolding sign_order
order_row since d r none = row_is d.material (certificate_of r) d.asked none

order_request : (since : ℤ) (d : Desk) (r : CertificateRequest) → (sign_order since d r).request ≡ r
unfolding sign_order
order_request since d r = refl

of_value : (since : ℤ) (d : Desk) (r : CertificateRequest) (value : Value) → d.material ≡ [] → IsGoodRequest r → IsValue (orders.Sign (sign_order since d r)) value → HasIssued (Given (orders.Sign (sign_order since d r)) value)
of_value since d r (values.Answered answer) none good right =
    has_issued (orders.Sign (sign_order since d r)) answer (is_issued (sign_order since d r) answer (order_row since d r none) (subst IsGoodRequest (sym (order_request since d r)) good) right)
of_value since d r (values.Made file) none good right = absurd right
of_value since d r (values.Signed signature) none good right = absurd right
of_value since d r (values.Judged approved) none good right = absurd right

given : (s : Setting) (seen : Views) (since : ℤ) (order : Order) (value : Value) → s.material ≡ [] → ((r : CertificateRequest) → seen.request ≡ Some r → IsGoodRequest r) → IsOfAct s Issuer seen since order → IsValue order value → HasIssued (Given order value)
given s seen since order value none good of right =
    let a = asks seen since of.its_desk order good of.asks in
    subst (λ (x : Order). HasIssued (Given x value)) (sym a.is) (of_value since of.its_desk a.request value (of.material ∙ none) (good a.request a.sees) (subst (λ (x : Order). IsValue x value) a.is right))

-- ---- no first call

none_by : (d : Desk) (since : ℤ) (r : CertificateRequest) (call : Call) (x y : Bool) → IsFirstCall (if x then (if y then Nothing else ask_issuer since d r) else Nothing) call → ⊥
unfolding ask_issuer
none_by d since r call true true is = is
none_by d since r call true false is = is
none_by d since r call false y is = is

none_for : (d : Desk) (since : ℤ) (r : CertificateRequest) (call : Call) (x : Bool) → x ≡ false → IsFirstCall (if x then deny since r else grant since d r) call → ⊥
none_for d since r call true off is = absurd (cc off)
none_for d since r call false off is = none_by d since r call (is_open r) (is_request_waiting since r) is

none_of : (d : Desk) (since : ℤ) (o : Option CertificateRequest) (call : Call) → ((r : CertificateRequest) → o ≡ Some r → IsGoodRequest r) → IsFirstCall (grant_of since d o) call → ⊥
none_of d since None call good is = is
none_of d since (Some r) call good is = none_for d since r call (is_denied r) (good r refl).undenied is

none_first : (seen : Views) (since : ℤ) (d : Desk) (call : Call) → ((r : CertificateRequest) → seen.request ≡ Some r → IsGoodRequest r) → IsFirstCall (act Issuer seen since d) call → ⊥
unfolding act issuer
none_first seen since d call good is = none_of d since seen.request call good is

-- ---- all stages

pub issued_stage : (s : Setting) (h : List Entry) (n : ℕ) (seen : Views) (since : ℤ) (d : Desk) (stage : Stage) (call : Call) → s.material ≡ [] → ((r : CertificateRequest) → seen.request ≡ Some r → IsGoodRequest r)
    → HoldsOfQuestion stage (IsOfAct s Issuer seen since) → HasCome h n Issuer seen since stage → IsNextCall stage (act Issuer seen since d) (call_after Issuer seen since) call → IsCallAt stage Issuer seen since call → HasIssued stage
issued_stage s h n seen since d Fresh call none good asked come next at = absurd (none_first seen since d call good next)
issued_stage s h n seen since d (Given order value) call none good asked come next at = given s seen since order value none good asked come.right
issued_stage s h n seen since d Read call none good asked come next (inl at) = absurd (cc at.issues.issuing)
issued_stage s h n seen since d Read call none good asked come next (inr at) = absurd (cc at.stands_in.issuing)
issued_stage s h n seen since d Saved call none good asked come next at = absurd (cc at.issues.issuing)
issued_stage s h n seen since d (Asked order) call none good asked come next at = absurd next
issued_stage s h n seen since d Wrote call none good asked come next at = absurd next
issued_stage s h n seen since d (Refused entry obstacle) call none good asked come next at = absurd next
issued_stage s h n seen since d Barred call none good asked come next at = absurd next
