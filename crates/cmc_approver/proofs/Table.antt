-- The table of the approver, line by line.
use Rattle.std.proofs.Common.{◌≡◌, ◌||◌, ◌∙◌, ℤ, Option, Some, None, Bool, true, false, refl, sym, ap}
use Rattle.std.specs.Prelude.{is_none}
use Rattle.cmc_meta.specs.declared.conditions.Condition.{Condition}
use Rattle.cmc_objects.specs.declared.request.CertificateRequest.{CertificateRequest}
use Rattle.cmc_objects.specs.declared.object.Object.TheVariants.{Request}
use Rattle.cmc_objects.specs.declared.orders.Rules.{Rules}
use Rattle.cmc_objects.specs.declared.orders.JudgeOrder.{JudgeOrder}
use Rattle.cmc_objects.specs.declared.orders.Order.TheVariants as orders
use Rattle.cmc_objects.specs.declared.role.Role.TheVariants.{Approver}
use Rattle.cmc_objects.specs.Requests.{is_approved, is_denied}
use Rattle.cmc_answers.specs.declared.denial.Denial.{Denial}
use Rattle.cmc_answers.specs.Denials.{denial_of}
use Rattle.cmc_pass.specs.declared.pass.Views.{Views}
use Rattle.cmc_pass.specs.declared.pass.Desk.{Desk}
use Rattle.cmc_pass.specs.declared.pass.Act.{Act}
use Rattle.cmc_pass.specs.declared.pass.Act.TheVariants.{Nothing}
use Rattle.cmc_pass.specs.declared.value.Value.{Value}
use Rattle.cmc_pass.specs.declared.value.Value.TheVariants.{Made, Signed, Answered, Judged}
use Rattle.cmc_pass.specs.Values.{IsValue}
use Rattle.cmc_rules.specs.Approver.{approval, denied_for, verdict_call, is_covered, ask_judgement, judge_of, approver, verdict_by, judged_for, judged_after}
use Rattle.cmc_rules.specs.SeenObjects.{IsWellSeen}
use Rattle.cmc_rules.specs.Sound.{IsFollowed, IsWithin}
use Rattle.cmc_rules.proofs.Sights.{seen_request}
use Rattle.cmc_rules.proofs.Lines.{by_test}
use Rattle.cmc_rules.proofs.Verdicts.{are_settled}
use Rattle.cmc_approver.proofs.Writes.{IsOpen, IsVerdict, approval_is, denial_is, IsDatedVerdict, dated_approval, dated_denial, judging}

abbrev Is : Views → ℤ → Act → Type 0
Is seen now a = IsWithin Approver (judged_after seen now) seen now a

-- ---- what follows a judgement

-- a right judgement leads to a verdict
record IsJudged (moment : ℤ) (approved : Bool) (r : CertificateRequest) (denial : Option Denial) : Type 0 where
  verdict : Condition
  is : verdict_by moment approved denial ≡ Some verdict
  fits : IsVerdict approved r verdict
  dated : IsDatedVerdict moment r verdict

judged : (moment : ℤ) (approved : Bool) (r : CertificateRequest) (denial : Option Denial) → IsOpen r → approved ≡ is_none denial → IsJudged moment approved r denial
judged moment true r denial open_ right = record { verdict = approval moment; is = refl; fits = approval_is moment r open_; dated = dated_approval moment r }
judged moment false r None open_ right = absurd (cc right)
judged moment false r (Some denial) open_ right = record { verdict = denied_for moment denial; is = refl; fits = denial_is moment denial r open_; dated = dated_denial moment denial r }

followed : (seen : Views) (now : ℤ) (r : CertificateRequest) (order : JudgeOrder) → seen.request ≡ Some r → IsOpen r → (value : Value) → IsValue (orders.Judge order) value
    → IsFollowed Approver (judged_after seen now) seen now (orders.Judge order) value
unfolding judged_after
followed seen now r order sees open_ (Made file) right = absurd right
followed seen now r order sees open_ (Signed signature) right = absurd right
followed seen now r order sees open_ (Answered answer) right = absurd right
followed seen now r order sees open_ (Judged approved) right =
    let j = judged now approved r (denial_of order) open_ right in record {
      call = verdict_call j.verdict r;
      follows = ap (λ (o : Option CertificateRequest). judged_for o (verdict_by now approved (denial_of order))) sees ∙ ap (judged_for (Some r)) j.is;
      on = judging seen now approved r j.verdict sees j.fits j.dated;
    }

-- ---- each act is within

asked : (seen : Views) (now : ℤ) (r : CertificateRequest) (rules : Rules) → seen.request ≡ Some r → IsOpen r → Is seen now (ask_judgement r rules)
unfolding ask_judgement
asked seen now r rules sees open_ = ((refl, sees), followed seen now r (record { request = r; rules = rules }) sees open_)

open_by : (seen : Views) (a b : Bool) (r : CertificateRequest) → IsWellSeen seen → seen.request ≡ Some r → is_approved r ≡ a → is_denied r ≡ b → (a || b) ≡ false → IsOpen r
open_by seen true b r well sees ea eb off = absurd (cc off)
open_by seen false true r well sees ea eb off = absurd (cc off)
open_by seen false false r well sees ea eb off =
    let admitted = well.admitted (Request r) (seen_request seen r sees) in record { settled = are_settled r.status.conditions admitted.0 admitted.1; approved = ea; denied = eb }

of_is : (seen : Views) (now : ℤ) (rules : Rules) (o : Option CertificateRequest) → IsWellSeen seen → seen.request ≡ o → Is seen now (judge_of rules o)
of_is seen now rules None well sees = tt
of_is seen now rules (Some r) well sees =
    by_test (Is seen now) (is_approved r || is_denied r) _ _ (λ on. tt)
    (λ off. by_test (Is seen now) (is_covered rules r.spec.issuer) _ _ (λ on. asked seen now r rules sees (open_by seen (is_approved r) (is_denied r) r well sees refl refl off)) (λ other. tt))

pub within : (seen : Views) (now : ℤ) (desk : Desk) → IsWellSeen seen → Is seen now (approver seen desk)
unfolding approver
within seen now desk well = of_is seen now desk.rules seen.request well refl

-- ---- whether there is something to do hangs on the rules alone

pub stays : (seen : Views) (d e : Desk) → d.rules ≡ e.rules → approver seen d ≡ Nothing → approver seen e ≡ Nothing
unfolding approver
stays seen d e rules is = sym (ap (λ (r : Rules). judge_of r seen.request) rules) ∙ is

-- ---- nothing without a request

pub none : (seen : Views) (desk : Desk) → seen.request ≡ None → approver seen desk ≡ Nothing
unfolding approver
none seen desk is = ap (judge_of desk.rules) is
