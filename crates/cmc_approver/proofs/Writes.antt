-- The write of a verdict keeps to the approver's rights, and no rule refuses it.
use Rattle.std.proofs.Common.{◌≡◌, ◌∙◌, ◌&&◌, ℤ, List, Some, None, Bool, true, false, refl, sym, ap, subst}
use Rattle.cmc_meta.specs.declared.conditions.Condition.{Condition}
use Rattle.cmc_meta.specs.declared.conditions.ConditionKind.TheVariants as kinds
use Rattle.cmc_meta.specs.declared.conditions.Tri.TheVariants.{True}
use Rattle.cmc_meta.specs.ConditionLists.{tri_eq, transitioned}
use Rattle.cmc_objects.specs.declared.request.CertificateRequest.{CertificateRequest}
use Rattle.cmc_objects.specs.declared.object.Object.TheVariants.{Request}
use Rattle.cmc_objects.specs.declared.role.Role.TheVariants.{Approver}
use Rattle.cmc_objects.specs.Requests.{is_stated, is_approved, is_denied}
use Rattle.cmc_answers.specs.declared.denial.Denial.{Denial}
use Rattle.cmc_model.specs.Admission.{is_of_condition, refusing_rule, verdict_rules, least_failing}
use Rattle.cmc_objects.specs.Objects.{numbered}
use Rattle.cmc_model.specs.Stored.{with_status}
use Rattle.cmc_pass.specs.declared.pass.Views.{Views}
use Rattle.cmc_pass.specs.declared.value.Value.TheVariants.{Judged}
use Rattle.cmc_rules.specs.Rights.{ChangesVerdict, other_conditions}
use Rattle.cmc_rules.specs.Approver.{approval, denied_for, judged_status, verdict_call}
use Rattle.cmc_rules.specs.Dates.{StaysDated}
use Rattle.cmc_rules.specs.SeenObjects.{OnSeen}
use Rattle.cmc_rules.specs.Sound.{IsWriteAfterValue}
use Rattle.cmc_rules.proofs.Sights.{seen_request}
use Rattle.cmc_rules.proofs.Conditions.{others-transitioned}
use Rattle.cmc_rules.proofs.Dating.{dated_transitioned}
use Rattle.cmc_rules.proofs.Verdicts.{AreSettled, and_first, apart, any_same, others_swap, approval_passes, denial_passes}

-- the approver writes where no verdict is True, and what stands met the rules
pub record IsOpen (r : CertificateRequest) : Type 0 where
  pub settled : AreSettled r.status.conditions
  pub approved : is_approved r ≡ false
  pub denied : is_denied r ≡ false

-- what is known of a verdict: it changes no other condition, meets the rules, and approves only on a yes
pub record IsVerdict (approved : Bool) (r : CertificateRequest) (verdict : Condition) : Type 0 where
  pub others : other_conditions kinds.Approved (other_conditions kinds.Denied (transitioned r.status.conditions verdict)) ≡ other_conditions kinds.Approved (other_conditions kinds.Denied r.status.conditions)
  pub passes : least_failing (verdict_rules r.status.conditions (transitioned r.status.conditions verdict)) ≡ None
  pub approves : is_stated kinds.Approved r.status.conditions ≡ false → is_stated kinds.Approved (transitioned r.status.conditions verdict) ≡ true → approved ≡ true

pub approval_is : (moment : ℤ) (r : CertificateRequest) → IsOpen r → IsVerdict true r (approval moment)
unfolding approval
approval_is moment r open_ =
    let cs : List Condition = r.status.conditions in record {
      others = others_swap kinds.Approved kinds.Denied (transitioned cs (approval moment)) ∙ ap (other_conditions kinds.Denied) (others-transitioned cs (approval moment)) ∙ others_swap kinds.Denied kinds.Approved cs;
      passes = approval_passes cs (approval moment) refl refl open_.settled open_.approved open_.denied;
      approves = λ before after. refl;
    }

denial_leaves : (moment : ℤ) (denial : Denial) (cs : List Condition) → is_stated kinds.Approved (transitioned cs (denied_for moment denial)) ≡ is_stated kinds.Approved cs
unfolding denied_for
denial_leaves moment denial cs =
    any_same (λ c. is_of_condition kinds.Approved c && tri_eq c.status True) cs (denied_for moment denial) (λ c is. and_first (is_of_condition kinds.Approved c) (tri_eq c.status True) (apart kinds.Denied kinds.Approved refl c is))

pub denial_is : (moment : ℤ) (denial : Denial) (r : CertificateRequest) → IsOpen r → IsVerdict false r (denied_for moment denial)
unfolding denied_for
denial_is moment denial r open_ =
    let cs : List Condition = r.status.conditions in record {
      others = ap (other_conditions kinds.Approved) (others-transitioned cs (denied_for moment denial));
      passes = denial_passes cs (denied_for moment denial) refl refl open_.settled open_.approved open_.denied;
      approves = λ before after. let same = denial_leaves moment denial cs in absurd (cc (before, after, same));
    }

-- ---- the write

changed : (approved : Bool) (r : CertificateRequest) (verdict : Condition) → IsVerdict approved r verdict → ChangesVerdict r.status (judged_status verdict r.status)
unfolding judged_status
changed approved r verdict is = record { rest = refl; others = is.others }

is_that : (a b : CertificateRequest) → Some (Request a) ≡ Some (Request b) → a ≡ b
is_that a b is = cc is

approves_where : (approved : Bool) (seen : Views) (r made old new : CertificateRequest) (verdict : Condition) → IsVerdict approved r verdict → seen.request ≡ Some r
    → made.status.conditions ≡ transitioned r.status.conditions verdict → Some (Request r) ≡ Some (Request old) → Some (Request made) ≡ Some (Request new) → is_approved old ≡ false → is_approved new ≡ true
    → (Judged approved ≡ Judged true) × (seen.request ≡ Some old)
approves_where approved seen r made old new verdict ok sees has was is before after =
    let there : is_stated kinds.Approved r.status.conditions ≡ false = subst (λ (x : CertificateRequest). is_approved x ≡ false) (sym (is_that r old was)) before in
    let here : is_stated kinds.Approved made.status.conditions ≡ true = subst (λ (x : CertificateRequest). is_approved x ≡ true) (sym (is_that made new is)) after in
    let yes_ : approved ≡ true = ok.approves there (sym (ap (is_stated kinds.Approved) has) ∙ here) in
    (ap (λ (b : Bool). Judged b) yes_, subst (λ (x : CertificateRequest). seen.request ≡ Some x) (is_that r old was) sees)

passes_of : (approved : Bool) (r : CertificateRequest) (verdict : Condition) (taken : Bool) → IsVerdict approved r verdict
    → refusing_rule (Some (Request r)) (Request (record r { status = judged_status verdict r.status })) true taken ≡ None
unfolding judged_status refusing_rule
passes_of approved r verdict taken is = is.passes

-- the request with the verdict says no moment outside of the years 1950 to 9999, where it is given in them
abbrev pub IsDatedVerdict : ℤ → CertificateRequest → Condition → Type 0
IsDatedVerdict now r verdict = StaysDated now (Some (Request r)) (Some (Request (record r { status = judged_status verdict r.status })))

pub dated_approval : (moment : ℤ) (r : CertificateRequest) → IsDatedVerdict moment r (approval moment)
unfolding approval judged_status
dated_approval moment r timed dated = record { conditions = dated_transitioned r.status.conditions (approval moment) dated.conditions timed; failure = dated.failure }

pub dated_denial : (moment : ℤ) (denial : Denial) (r : CertificateRequest) → IsDatedVerdict moment r (denied_for moment denial)
unfolding denied_for judged_status
dated_denial moment denial r timed dated = record { conditions = dated_transitioned r.status.conditions (denied_for moment denial) dated.conditions timed; failure = dated.failure }

pub judging : (seen : Views) (now : ℤ) (approved : Bool) (r : CertificateRequest) (verdict : Condition) → seen.request ≡ Some r → IsVerdict approved r verdict → IsDatedVerdict now r verdict
    → OnSeen (IsWriteAfterValue Approver seen now (Judged approved)) seen (verdict_call verdict r)
unfolding verdict_call judged_status OnSeen numbered with_status
judging seen now approved r verdict sees is dates = record {
  old = Request r;
  sees = seen_request seen r sees;
  key = refl;
  version = refl;
  changes = λ next. record {
    rights = (refl, refl, changed approved r verdict is);
    dated = dates;
    revision = refl;
    no_secret = λ written issuing of. absurd (cc issuing);
    approval = λ old new role was made before after. approves_where approved seen r _ old new verdict is sees refl was made before after;
    made = λ made before after. absurd (cc before);
  };
  passes = λ taken. passes_of approved r verdict taken is;
}
