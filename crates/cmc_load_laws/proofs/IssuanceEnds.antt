-- The status by which issuing ends an issuance with success.
use Rattle.std.proofs.Common.{◌≡◌, ℕ, ℤ, List, Option, Some, true, false, refl, sym, ap, ◌∙◌}
use Rattle.cmc_objects.specs.declared.certificate.Certificate.{Certificate}
use Rattle.cmc_objects.specs.declared.request.CertificateRequest.{CertificateRequest}
use Rattle.cmc_objects.specs.declared.secret.Secret.{Secret as SecretObject}
use Rattle.cmc_objects.specs.declared.call.Call.{Call}
use Rattle.cmc_pass.specs.declared.pass.Act.{Act}
use Rattle.cmc_pass.specs.declared.pass.Act.TheVariants.{Nothing, Call as Calls, Ask as Asks, Issue, Temporary}
use Rattle.cmc_pass.specs.declared.pass.IssuePlan.{IssuePlan}
use Rattle.cmc_pass.specs.declared.pass.Views.{Views}
use Rattle.cmc_rules.specs.Causes.{IsStatusCall}
use Rattle.cmc_rules.specs.Issuance.{issue_plan, issued_status, issuing, secret_call, status_call}
use Rattle.cmc_rules.specs.Trigger.{is_issuing}
use Rattle.cmc_run_laws.specs.Issuances.{with_certificate}
use Rattle.cmc_run_laws.proofs.Going.{IsGoing, acts, going, going_is}
use Rattle.cmc_load_laws.proofs.CertificateWrites as writes
use Rattle.cmc_load_laws.proofs.CurrentSecrets.{IsPlanned, is_planned, sees_one}

-- the plan issues, for the Certificate that is seen and its one next request
pub record IsPlanOf (seen : Views) (now : ℤ) (plan : IssuePlan) : Type 0 where
  pub certificate : Certificate
  pub sees : seen.certificate ≡ Some certificate
  pub plans : issuing (with_certificate certificate seen) now ≡ Issue plan
  pub issuing : is_issuing certificate ≡ true
  pub going : IsGoing certificate seen.next seen.requests
  pub planned : IsPlanned now certificate going.file seen.secret going.request plan

acts_plan : (does : Act) (plan : IssuePlan) → does ≡ Issue plan → acts does ≡ true
acts_plan does plan is = ap acts is

with_seen : (seen : Views) (c : Certificate) → seen.certificate ≡ Some c → with_certificate c seen ≡ seen
with_seen seen c sees = ap (λ (o : Option Certificate). record seen { certificate = o }) (sym sees)

pub plan_of : (seen : Views) (now : ℤ) (plan : IssuePlan) → issuing seen now ≡ Issue plan → IsPlanOf seen now plan
plan_of seen now plan is =
    let one = sees_one seen now plan is in
    let c : Certificate = one.0 in
    let plans : issuing (with_certificate c seen) now ≡ Issue plan = ap (λ (v : Views). issuing v now) (with_seen seen c one.1) ∙ is in
    let on = going now seen c (acts_plan (issuing (with_certificate c seen) now) plan plans) in
    record {
      certificate = c;
      sees = one.1;
      plans = plans;
      issuing = on.0;
      going = on.1;
      planned = is_planned now c on.1.file seen.secret on.1.request plan (sym (going_is now seen c on.1 on.0) ∙ plans);
    }

-- ---- its writes

pub secret_of : (now : ℤ) (c : Certificate) (file : List ℕ) (r : CertificateRequest) (target : Option SecretObject) → (issue_plan now c file r target).secret ≡ secret_call false c file r.status.certificate r.status.ca target
unfolding issue_plan
secret_of now c file r target = refl

status_of : (now : ℤ) (c : Certificate) (file : List ℕ) (r : CertificateRequest) (target : Option SecretObject) → (issue_plan now c file r target).status ≡ writes.status_call c (issued_status now c.status)
unfolding issue_plan status_call
status_of now c file r target = refl

-- the call is the one of the plan's status
pub record IsEnd (seen : Views) (now : ℤ) (call : Call) : Type 0 where
  pub plan : IssuePlan
  pub acts : issuing seen now ≡ Issue plan
  pub of : IsPlanOf seen now plan
  pub is : call ≡ writes.status_call of.certificate (issued_status now of.certificate.status)

end_by : (seen : Views) (now : ℤ) (does : Act) (call : Call) → issuing seen now ≡ does → IsStatusCall does call → IsEnd seen now call
end_by seen now Nothing call is next = absurd next
end_by seen now (Calls made) call is next = absurd next
end_by seen now (Asks order) call is next = absurd next
end_by seen now (Temporary plan) call is next = absurd next
end_by seen now (Issue plan) call is next =
    let p = plan_of seen now plan is in
    record { plan = plan; acts = is; of = p; is = next ∙ ap (λ (x : IssuePlan). x.status) p.planned.is ∙ status_of now p.certificate p.going.file p.going.request seen.secret }

pub issuance_ends : (seen : Views) (now : ℤ) (call : Call) → IsStatusCall (issuing seen now) call → IsEnd seen now call
issuance_ends seen now call next = end_by seen now (issuing seen now) call refl next
