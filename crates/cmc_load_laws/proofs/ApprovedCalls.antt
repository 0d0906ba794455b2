-- Where nothing is refused and there are no policies, the approver approves each request that is readable.
use Rattle.std.proofs.Common.{◌≡◌, ◌++◌, ℕ, ℤ, List, [], ◌∷◌, Bool, true, false, Option, Some, None, refl, sym, ap, subst, ◌∙◌, inl, inr}
use Rattle.std.specs.List.{list_any}
use Rattle.std.specs.Option.{option_to_list}
use Rattle.std.specs.Prelude.{is_none, if◌then◌else◌, ◌||◌}
use Rattle.cmc_policy_rules.specs.Allowed.{has_entry}
use Rattle.cmc_policy_rules.specs.declared.policy.Policy.{Policy}
use Rattle.cmc_policy_rules.specs.declared.wanted.Wanted.{Wanted}
use Rattle.cmc_objects.specs.declared.request.CertificateRequest.{CertificateRequest}
use Rattle.cmc_objects.specs.declared.call.Call.{Call}
use Rattle.cmc_objects.specs.declared.entry.Entry.{Entry}
use Rattle.cmc_objects.specs.declared.orders.JudgeOrder.{JudgeOrder}
use Rattle.cmc_objects.specs.declared.orders.Order.{Order}
use Rattle.cmc_objects.specs.declared.orders.Order.TheVariants as orders
use Rattle.cmc_objects.specs.declared.orders.Rules.{Rules}
use Rattle.cmc_objects.specs.declared.role.Role.TheVariants.{Approver}
use Rattle.cmc_objects.specs.Requests.{is_approved, is_denied}
use Rattle.cmc_answers.specs.declared.denial.Denial.{Denial}
use Rattle.cmc_answers.specs.declared.denial.Denial.TheVariants as denials
use Rattle.cmc_answers.specs.Denials.{denial_by_policies, denial_of, denial_of_wanted, denial_on, has_refused_name}
use Rattle.cmc_answers.specs.Wanted.{wanted_of}
use Rattle.cmc_pass.specs.Values.{IsValue}
use Rattle.cmc_pass.specs.declared.pass.Act.TheVariants.{Nothing, Ask as Asks}
use Rattle.cmc_pass.specs.declared.pass.Desk.{Desk}
use Rattle.cmc_pass.specs.declared.pass.Views.{Views}
use Rattle.cmc_pass.specs.declared.value.Value.{Value}
use Rattle.cmc_pass.specs.declared.value.Value.TheVariants as values
use Rattle.cmc_model.specs.Histories.{Setting}
use Rattle.cmc_rules.specs.declared.progress.Stage.{Stage}
use Rattle.cmc_rules.specs.declared.progress.Stage.TheVariants.{Fresh, Asked, Given, Read, Saved, Wrote, Refused, Barred}
use Rattle.cmc_rules.specs.Acts.{act, call_after}
use Rattle.cmc_rules.specs.Approver.{approval, approver, ask_judgement, is_covered, judge_of, judged_after, judged_for, judged_status, verdict_by, verdict_call, verdict_of}
use Rattle.cmc_rules.specs.Causes.{IsNextCall}
use Rattle.cmc_safety.proofs.Course.{HasCome}
use Rattle.cmc_safety.proofs.NextCalls.{IsCallAt}
use Rattle.cmc_load_laws.proofs.AskedActs.{HoldsOfQuestion, IsOfAct}
use Rattle.cmc_load_laws.proofs.CurrentVerdicts.{none_first}
use Rattle.cmc_load_laws.proofs.GoodRequests.{IsGoodRequest}
use Rattle.cmc_load_laws.proofs.RequestWrites.{request_call}

-- ---- the question

record IsAbout (rules : Rules) (o : Option CertificateRequest) (order : Order) : Type 0 where
  request : CertificateRequest
  sees : o ≡ Some request
  is : order ≡ orders.Judge (record { request = request; rules = rules })

asked_by : (rules : Rules) (r : CertificateRequest) (order : Order) (x y : Bool) → (if x then Nothing else (if y then ask_judgement r rules else Nothing)) ≡ Asks order → IsAbout rules (Some r) order
unfolding ask_judgement
asked_by rules r order true y is = absurd (cc is)
asked_by rules r order false false is = absurd (cc is)
asked_by rules r order false true is = record { request = r; sees = refl; is = sym (let same : orders.Judge (record { request = r; rules = rules }) ≡ order = cc is in same) }

asked_of : (rules : Rules) (o : Option CertificateRequest) (order : Order) → judge_of rules o ≡ Asks order → IsAbout rules o order
asked_of rules None order is = absurd (cc is)
asked_of rules (Some r) order is = asked_by rules r order (is_approved r || is_denied r) (is_covered rules r.spec.issuer) is

asks : (seen : Views) (since : ℤ) (d : Desk) (order : Order) → act Approver seen since d ≡ Asks order → IsAbout d.rules seen.request order
unfolding act approver
asks seen since d order is = asked_of d.rules seen.request order is

-- ---- its answer

none_refused : (names : List (List ℕ)) → list_any (λ name. has_entry [] name) names ≡ false
none_refused [] = refl
none_refused (name ∷ names) = none_refused names

not_denied_by : (rules : Rules) (wanted : Wanted) → rules.refuse ≡ [] → rules.policies ≡ [] → denial_of_wanted rules wanted ≡ None
not_denied_by rules wanted refuse policies =
    ap (λ (b : Bool). if b then Some denials.Refused else denial_by_policies rules.policies wanted)
    (ap (λ (l : List (List ℕ)). has_refused_name l wanted) refuse ∙ none_refused (option_to_list wanted.common ++ wanted.dns))
    ∙ ap (λ (l : List Policy). denial_by_policies l wanted) policies

none_denied : (r : CertificateRequest) (rules : Rules) → IsGoodRequest r → rules.refuse ≡ [] → rules.policies ≡ [] → denial_of (record { request = r; rules = rules }) ≡ None
unfolding denial_of
none_denied r rules good refuse policies =
    let order : JudgeOrder = record { request = r; rules = rules } in
    ap (denial_on order) good.read ∙ not_denied_by rules (wanted_of r good.fields) refuse policies

-- ---- the call

-- the request that is seen is approved
pub record IsApproving (seen : Views) (since : ℤ) (call : Call) : Type 0 where
  pub request : CertificateRequest
  pub sees : seen.request ≡ Some request
  pub is : call ≡ request_call request (judged_status (approval since) request.status)

approved_by : (since : ℤ) (approved : Bool) (denial : Option Denial) → denial ≡ None → approved ≡ is_none denial → verdict_by since approved denial ≡ Some (approval since)
approved_by since true denial none is = refl
approved_by since false denial none is = absurd (let e : false ≡ true = is ∙ ap is_none none in cc e)

call_is : (since : ℤ) (r : CertificateRequest) (call : Call) → judged_for (Some r) (Some (approval since)) ≡ Some call → call ≡ request_call r (judged_status (approval since) r.status)
unfolding verdict_call
call_is since r call is = sym (let same : request_call r (judged_status (approval since) r.status) ≡ call = cc is in same)

of_value : (seen : Views) (since : ℤ) (rules : Rules) (r : CertificateRequest) (value : Value) (call : Call) → IsGoodRequest r → rules.refuse ≡ [] → rules.policies ≡ [] → seen.request ≡ Some r
    → IsValue (orders.Judge (record { request = r; rules = rules })) value → judged_for seen.request (verdict_of since (orders.Judge (record { request = r; rules = rules })) value) ≡ Some call → IsApproving seen since call
of_value seen since rules r (values.Judged approved) call good refuse policies sees right is =
    let order : JudgeOrder = record { request = r; rules = rules } in
    let verdict = approved_by since approved (denial_of order) (none_denied r rules good refuse policies) right in
    record { request = r; sees = sees; is = call_is since r call (sym (ap (λ (o : Option CertificateRequest). judged_for o (Some (approval since))) sees) ∙ sym (ap (judged_for seen.request) verdict) ∙ is) }
of_value seen since rules r (values.Made file) call good refuse policies sees right is = absurd right
of_value seen since rules r (values.Signed signature) call good refuse policies sees right is = absurd right
of_value seen since rules r (values.Answered answer) call good refuse policies sees right is = absurd right

after_value : (seen : Views) (since : ℤ) (rules : Rules) (r : CertificateRequest) (order : Order) (value : Value) (call : Call) → IsGoodRequest r → rules.refuse ≡ [] → rules.policies ≡ [] → seen.request ≡ Some r
    → order ≡ orders.Judge (record { request = r; rules = rules }) → IsValue order value → call_after Approver seen since order value ≡ Some call → IsApproving seen since call
unfolding call_after judged_after
after_value seen since rules r order value call good refuse policies sees same right is =
    of_value seen since rules r value call good refuse policies sees (subst (λ (o : Order). IsValue o value) same right) (subst (λ (o : Order). judged_for seen.request (verdict_of since o value) ≡ Some call) same is)

given : (s : Setting) (seen : Views) (since : ℤ) (order : Order) (value : Value) (call : Call) → s.rules.refuse ≡ [] → s.rules.policies ≡ [] → ((r : CertificateRequest) → seen.request ≡ Some r → IsGoodRequest r)
    → IsOfAct s Approver seen since order → IsValue order value → call_after Approver seen since order value ≡ Some call → IsApproving seen since call
given s seen since order value call refuse policies each of right is =
    let about = asks seen since of.its_desk order of.asks in
    after_value seen since of.its_desk.rules about.request order value call (each about.request about.sees) (ap (λ (r : Rules). r.refuse) of.rules ∙ refuse) (ap (λ (r : Rules). r.policies) of.rules ∙ policies) about.sees about.is right is

pub approving_call : (s : Setting) (h : List Entry) (n : ℕ) (seen : Views) (since : ℤ) (d : Desk) (stage : Stage) (call : Call) → s.rules.refuse ≡ [] → s.rules.policies ≡ [] → ((r : CertificateRequest) → seen.request ≡ Some r → IsGoodRequest r)
    → HoldsOfQuestion stage (IsOfAct s Approver seen since) → HasCome h n Approver seen since stage → IsNextCall stage (act Approver seen since d) (call_after Approver seen since) call → IsCallAt stage Approver seen since call
    → IsApproving seen since call
approving_call s h n seen since d Fresh call refuse policies each asked come next at = absurd (none_first seen since d call next)
approving_call s h n seen since d (Given order value) call refuse policies each asked come next at = given s seen since order value call refuse policies each asked come.right next
approving_call s h n seen since d Read call refuse policies each asked come next (inl at) = absurd (cc at.issues.issuing)
approving_call s h n seen since d Read call refuse policies each asked come next (inr at) = absurd (cc at.stands_in.issuing)
approving_call s h n seen since d Saved call refuse policies each asked come next at = absurd (cc at.issues.issuing)
approving_call s h n seen since d (Asked order) call refuse policies each asked come next at = absurd next
approving_call s h n seen since d Wrote call refuse policies each asked come next at = absurd next
approving_call s h n seen since d (Refused entry obstacle) call refuse policies each asked come next at = absurd next
approving_call s h n seen since d Barred call refuse policies each asked come next at = absurd next
