-- The writes of the approver lower the measure.
use Rattle.std.proofs.Common.{◌≡◌, ◌⊎◌, ◌+◌, ◌<◌, ◌++◌, ◌∷◌, ℕ, ℤ, List, Bool, true, false, Option, Some, None, refl, sym, ap, subst, ◌∙◌, inl, inr}
use Rattle.std.specs.Prelude.{if◌then◌else◌, ◌||◌}
use Rattle.cmc_meta.specs.declared.conditions.Condition.{Condition}
use Rattle.cmc_objects.specs.declared.certificate.Certificate.{Certificate}
use Rattle.cmc_objects.specs.declared.request.CertificateRequest.{CertificateRequest}
use Rattle.cmc_objects.specs.declared.call.Call.{Call}
use Rattle.cmc_objects.specs.declared.call.Reply.{Reply}
use Rattle.cmc_objects.specs.declared.entry.Entry.{Entry}
use Rattle.cmc_objects.specs.declared.entry.Entry.TheVariants.{Call as Called}
use Rattle.cmc_objects.specs.declared.entry.Who.TheVariants.{Pass}
use Rattle.cmc_objects.specs.declared.orders.Order.{Order}
use Rattle.cmc_objects.specs.declared.orders.Order.TheVariants as orders
use Rattle.cmc_objects.specs.declared.orders.Rules.{Rules}
use Rattle.cmc_objects.specs.declared.role.Role.{Role}
use Rattle.cmc_objects.specs.declared.role.Role.TheVariants.{Approver}
use Rattle.cmc_objects.specs.Objects.{key_of}
use Rattle.cmc_objects.specs.Requests.{is_approved, is_denied}
use Rattle.cmc_objects.specs.declared.object.Object.TheVariants.{Request}
use Rattle.cmc_answers.specs.declared.denial.Denial.{Denial}
use Rattle.cmc_pass.specs.declared.pass.Act.TheVariants.{Nothing, Ask as Asks}
use Rattle.cmc_pass.specs.declared.pass.Desk.{Desk}
use Rattle.cmc_pass.specs.declared.pass.Views.{Views}
use Rattle.cmc_pass.specs.declared.value.Value.{Value}
use Rattle.cmc_pass.specs.declared.value.Value.TheVariants as values
use Rattle.cmc_model.specs.Replies.{key_of_call, settled, stored}
use Rattle.cmc_model.specs.Histories.{Setting, moment, objects, accepted}
use Rattle.cmc_rules.specs.declared.progress.OpenPass.{OpenPass}
use Rattle.cmc_rules.specs.declared.progress.Stage.{Stage}
use Rattle.cmc_rules.specs.declared.progress.Stage.TheVariants.{Fresh, Asked, Given, Read, Saved, Wrote, Refused, Barred}
use Rattle.cmc_rules.specs.Acts.{act, call_after}
use Rattle.cmc_rules.specs.Approver.{approval, approver, ask_judgement, denied_for, is_covered, judge_of, judge_one, judged_after, judged_by, judged_for, judged_status, verdict_by, verdict_call, verdict_of}
use Rattle.cmc_rules.specs.Causes.{IsFirstCall, IsNextCall}
use Rattle.cmc_rules.specs.Desks.{desk}
use Rattle.cmc_rules.specs.Passes.{open_pass}
use Rattle.cmc_safety.proofs.Course.{of_open}
use Rattle.cmc_safety.proofs.NextCalls.{IsCallAt}
use Rattle.cmc_load_laws.specs.LoadRuns.{SeesAll, LowersMeasure}
use Rattle.cmc_load_laws.specs.Measure.{acts, measure, restated_request}
use Rattle.cmc_load_laws.proofs.Approved.{the_views, approved_falls, denied_falls}
use Rattle.cmc_load_laws.proofs.AskedActs.{AskedByAct, HoldsOfQuestion, IsOfAct, asked_act}
use Rattle.cmc_load_laws.proofs.CurrentHistories.{IsOfLoad}
use Rattle.cmc_load_laws.proofs.LoadHistories.{IsForOneIn}
use Rattle.cmc_load_laws.proofs.LoadStores.{at_key}
use Rattle.cmc_load_laws.proofs.PassRights.{IsAcceptedBy, call_as, next_as}
use Rattle.cmc_load_laws.proofs.RequestWrites.{is_restated_request, request_call, request_lowers}

-- the call writes a verdict of this moment on the request that is seen
record IsVerdictWrite (seen : Views) (since : ℤ) (call : Call) : Type 0 where
  request : CertificateRequest
  verdict : Condition
  sees : seen.request ≡ Some request
  is : call ≡ request_call request (judged_status verdict request.status)
  so : (verdict ≡ approval since) ⊎ ((denial : Denial) × (verdict ≡ denied_for since denial))

-- ---- the verdict that follows

write_of_verdict : (seen : Views) (since : ℤ) (r : CertificateRequest) (verdict : Option Condition) (call : Call) → seen.request ≡ Some r
    → ((new : Condition) → verdict ≡ Some new → (new ≡ approval since) ⊎ ((denial : Denial) × (new ≡ denied_for since denial))) → judged_by r verdict ≡ Some call → IsVerdictWrite seen since call
unfolding verdict_call
write_of_verdict seen since r None call sees each is = absurd (cc is)
write_of_verdict seen since r (Some verdict) call sees each is =
    record { request = r; verdict = verdict; sees = sees; is = sym (let same : request_call r (judged_status verdict r.status) ≡ call = cc is in same); so = each verdict refl }

of_verdict : (since : ℤ) (approved : Bool) (denial : Option Denial) (new : Condition) → verdict_by since approved denial ≡ Some new → (new ≡ approval since) ⊎ ((denial : Denial) × (new ≡ denied_for since denial))
of_verdict since true denial new is = inl (sym (let same : approval since ≡ new = cc is in same))
of_verdict since false None new is = absurd (cc is)
of_verdict since false (Some denial) new is = inr (denial, sym (let same : denied_for since denial ≡ new = cc is in same))

of_order : (since : ℤ) (order : Order) (value : Value) (new : Condition) → verdict_of since order value ≡ Some new → (new ≡ approval since) ⊎ ((denial : Denial) × (new ≡ denied_for since denial))
of_order since (orders.Key order) value new is = absurd (cc is)
of_order since (orders.Csr order) value new is = absurd (cc is)
of_order since (orders.Sign order) value new is = absurd (cc is)
of_order since (orders.Judge order) (values.Made file) new is = absurd (cc is)
of_order since (orders.Judge order) (values.Signed signature) new is = absurd (cc is)
of_order since (orders.Judge order) (values.Answered answer) new is = absurd (cc is)
of_order since (orders.Judge order) (values.Judged approved) new is = of_verdict since approved _ new is

of_request : (seen : Views) (since : ℤ) (order : Order) (value : Value) (o : Option CertificateRequest) (call : Call) → seen.request ≡ o → judged_for o (verdict_of since order value) ≡ Some call → IsVerdictWrite seen since call
of_request seen since order value None call sees is = absurd (cc is)
of_request seen since order value (Some r) call sees is = write_of_verdict seen since r (verdict_of since order value) call sees (λ new at. of_order since order value new at) is

after_judging : (seen : Views) (since : ℤ) (order : Order) (value : Value) (call : Call) → call_after Approver seen since order value ≡ Some call → IsVerdictWrite seen since call
unfolding call_after judged_after
after_judging seen since order value call is = of_request seen since order value seen.request call refl is

asks_one : (seen : Views) (since : ℤ) (d : Desk) (order : Order) (r : CertificateRequest) → seen.request ≡ Some r → act Approver seen since d ≡ Asks order → acts (judge_one d.rules r) ≡ true
unfolding act approver
asks_one seen since d order r sees asks = sym (ap (λ (o : Option CertificateRequest). acts (judge_of d.rules o)) sees) ∙ ap acts asks

-- ---- its calls

record IsVerdictOfAct (s : Setting) (seen : Views) (since : ℤ) (call : Call) : Type 0 where
  write : IsVerdictWrite seen since call
  asks : acts (judge_one s.rules write.request) ≡ true

after_question : (s : Setting) (seen : Views) (since : ℤ) (order : Order) (value : Value) (call : Call) → IsOfAct s Approver seen since order → call_after Approver seen since order value ≡ Some call → IsVerdictOfAct s seen since call
after_question s seen since order value call of is =
    let w = after_judging seen since order value call is in
    record { write = w; asks = subst (λ (rules : Rules). acts (judge_one rules w.request) ≡ true) of.rules (asks_one seen since of.its_desk order w.request w.sees of.asks) }

none_of_request : (rules : Rules) (o : Option CertificateRequest) (call : Call) → IsFirstCall (judge_of rules o) call → ⊥
unfolding ask_judgement
none_of_request rules None call first = first
none_of_request rules (Some r) call first = by (is_approved r || is_denied r) (is_covered rules r.spec.issuer) first where
  by : (x y : Bool) → IsFirstCall (if x then Nothing else (if y then ask_judgement r rules else Nothing)) call → ⊥
  by true y is = is
  by false true is = is
  by false false is = is

pub none_first : (seen : Views) (since : ℤ) (d : Desk) (call : Call) → IsFirstCall (act Approver seen since d) call → ⊥
unfolding act approver
none_first seen since d call first = none_of_request d.rules seen.request call first

verdict_at : (s : Setting) (seen : Views) (since : ℤ) (d : Desk) (stage : Stage) (call : Call) → HoldsOfQuestion stage (IsOfAct s Approver seen since) → IsNextCall stage (act Approver seen since d) (call_after Approver seen since) call
    → IsCallAt stage Approver seen since call → IsVerdictOfAct s seen since call
verdict_at s seen since d Fresh call asked next at = absurd (none_first seen since d call next)
verdict_at s seen since d (Given order value) call asked next at = after_question s seen since order value call asked next
verdict_at s seen since d Read call asked next (inl at) = absurd (cc at.issues.issuing)
verdict_at s seen since d Read call asked next (inr at) = absurd (cc at.stands_in.issuing)
verdict_at s seen since d Saved call asked next at = absurd (cc at.issues.issuing)
verdict_at s seen since d (Asked order) call asked next at = absurd next
verdict_at s seen since d Wrote call asked next at = absurd next
verdict_at s seen since d (Refused entry obstacle) call asked next at = absurd next
verdict_at s seen since d Barred call asked next at = absurd next

-- ---- the measure

verdict_falls : (desk : Desk) (due : ℕ) (now : ℤ) (seen : Views) (c : Certificate) (version : ℕ) (verdict : Condition) (b a : List CertificateRequest) (r : CertificateRequest) → acts (judge_one desk.rules r) ≡ true
    → (verdict ≡ approval now) ⊎ ((denial : Denial) × (verdict ≡ denied_for now denial))
    → measure desk due now (the_views seen c (b ++ restated_request version (judged_status verdict r.status) r ∷ a)) < measure desk due now (the_views seen c (b ++ r ∷ a))
verdict_falls desk due now seen c version verdict b a r asks (inl is) =
    subst (λ (v : Condition). measure desk due now (the_views seen c (b ++ restated_request version (judged_status v r.status) r ∷ a)) < measure desk due now (the_views seen c (b ++ r ∷ a))) (sym is) (approved_falls desk due now seen c version b a r asks)
verdict_falls desk due now seen c version verdict b a r asks (inr is) =
    subst (λ (v : Condition). measure desk due now (the_views seen c (b ++ restated_request version (judged_status v r.status) r ∷ a)) < measure desk due now (the_views seen c (b ++ r ∷ a))) (sym is.1) (denied_falls desk due now seen c version is.0 b a r asks)

of_moment : (since now : ℤ) (verdict : Condition) → since ≡ now → (verdict ≡ approval since) ⊎ ((denial : Denial) × (verdict ≡ denied_for since denial)) → (verdict ≡ approval now) ⊎ ((denial : Denial) × (verdict ≡ denied_for now denial))
of_moment since now verdict same is = subst (λ (t : ℤ). (verdict ≡ approval t) ⊎ ((denial : Denial) × (verdict ≡ denied_for t denial))) same is

pub approver_lowers : (s : Setting) (h : List Entry) (n : ℕ) (call : Call) (reply : Reply) (a : IsAcceptedBy s h n call reply) → IsOfLoad s h → a.caller.pass.role ≡ Approver → SeesAll s h a.caller.pass
    → IsForOneIn (objects s h) (key_of_call (settled call reply)) (stored (accepted s h + 1) (moment s h) (objects s h) (settled call reply)) → LowersMeasure s h (Called (Pass n) call reply)
approver_lowers s h n call reply a load is current one =
    let p : OpenPass = a.caller.pass in
    let now : ℤ = moment s h in
    let asked = of_open (AskedByAct s) (open_pass s h n) p a.caller.opened (asked_act s h n load.played.caused) in
    let v = verdict_at s p.seen p.since (desk s h p.role p.seen) p.stage call (subst (λ (r : Role). HoldsOfQuestion p.stage (IsOfAct s r p.seen p.since)) is asked) (next_as s h n call reply a Approver is) (call_as s h n call reply a Approver is) in
    let r : CertificateRequest = v.write.request in
    let restated = is_restated_request s h p.seen call reply r (judged_status v.write.verdict r.status) a.legal a.caller.saw.known v.write.sees a.founded v.write.is in
    let made = at_key s h (key_of (Request r)) (Request r) load.each restated.was in
    let own = load.standing made.certificate made.known in
    request_lowers s h n call reply r (judged_status v.write.verdict r.status) a.ok restated made own one
    (λ d due seen b rest rules.
    verdict_falls d due now seen own.present (accepted s h + 1) v.write.verdict b rest r (subst (λ (x : Rules). acts (judge_one x r) ≡ true) (sym rules) v.asks) (of_moment p.since now v.write.verdict current.now v.write.so))
