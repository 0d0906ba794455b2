-- In a run each moment that the status of an object says lies in the years 1950 to 9999.
use Rattle.std.proofs.Common.{◌≡◌, ℤ, List, Option, Some, None, refl}
use Rattle.std.specs.Prelude.{IfSome}
use Rattle.cmc_objects.specs.declared.certificate.Certificate.{Certificate}
use Rattle.cmc_objects.specs.declared.object.Object.{Object}
use Rattle.cmc_objects.specs.declared.object.Object.TheVariants.{Cert, Request}
use Rattle.cmc_objects.specs.declared.entry.Entry.{Entry}
use Rattle.cmc_policies.specs.Renewal.{IsCertificateTime}
use Rattle.cmc_answers.specs.Signings.{signing_of}
use Rattle.cmc_pass.specs.declared.pass.Views.{Views}
use Rattle.cmc_model.specs.declared.write.Write.{Write}
use Rattle.cmc_model.specs.Objects.{object_at}
use Rattle.cmc_model.specs.Replies.{key_of_call, settled}
use Rattle.cmc_model.specs.Histories.{Setting, moment, objects}
use Rattle.cmc_model.specs.Writes.{writes}
use Rattle.cmc_rules.specs.Dates.{IsDatedStatus, IsDatedAnswer, IsDatedCertificate, HasDatedFailure, IsDated}
use Rattle.cmc_rules.specs.UserWrites.{verdict, judge_call, answer_call, manual_condition, renew_call}
use Rattle.cmc_rules.proofs.Dating.{dated_transitioned, dated_answered}
use Rattle.cmc_rules.proofs.Sights.{seen_certificate}
use Rattle.cmc_rules.proofs.Sighted.{AreKnown}
use Rattle.cmc_safety.specs.Formed.{IsFormed}
use Rattle.cmc_safety.proofs.Course.{AreSound}
use Rattle.cmc_safety.proofs.InProgress.{IsPlayed}
use Rattle.cmc_safety.proofs.Moments.{in_years, moment_in_years}
use Rattle.cmc_safety.proofs.Users.{IsOfSteps, of_steps}
use Rattle.cmc_safety.proofs.Carried.{EachVersion, no_version, one_more, stands_so, standing_has, seen_has, newest, carried}
use Rattle.cmc_safety.proofs.Kept.{IsKept, Any, Brings, status_kept, kept_more}

abbrev pub IsDatedObject : Object → Type 0
IsDatedObject o = IsDated (Some o)

-- an empty status says no moment, and an update keeps the status
dated_kept : (now : ℤ) → IsKept now IsDatedObject Any IsDatedObject
dated_kept now = status_kept IsDatedStatus IsDatedAnswer now (record { conditions = tt; last_failure = tt; not_before = tt; not_after = tt; renewal = tt }) (record { conditions = tt; failure = tt })

-- no step has a status written that says a moment outside of these years
dated_steps : (s : Setting) (h : List Entry) → IsCertificateTime (moment s h) → EachVersion IsDatedObject (writes s h) → IsOfSteps s.script (moment s h) (objects s h) (Brings Any IsDatedObject)
unfolding judge_call answer_call renew_call verdict manual_condition
dated_steps s h timed each = record {
  applies = λ number object version there. (tt, λ named. tt);
  deletes = λ key version. tt;
  judges = λ kind message other key r stands.
      let dated : IsDatedAnswer r.status = stands_so IsDatedObject s h key (Request r) each stands in
      record { conditions = dated_transitioned r.status.conditions (verdict kind message (moment s h)) dated.conditions timed; failure = dated.failure };
  answers = λ row key r stands. dated_answered r.status (signing_of row 1 r (moment s h)) (moment s h) timed (stands_so IsDatedObject s h key (Request r) each stands);
  renews = λ key c stands.
      let dated : IsDatedStatus c.status = stands_so IsDatedObject s h key (Cert c) each stands in
      record {
        conditions = dated_transitioned c.status.conditions (manual_condition (moment s h)) dated.conditions timed;
        last_failure = dated.last_failure;
        not_before = dated.not_before;
        not_after = dated.not_after;
        renewal = dated.renewal;
      };
}

-- ---- histories

dated_if : (x : Option Object) → IfSome x IsDatedObject → IsDated x
dated_if None is = tt
dated_if (Some o) is = is

if_dated : (x : Option Object) → IsDated x → IfSome x IsDatedObject
if_dated None is = tt
if_dated (Some o) is = is

-- each version that an accepted write stored is dated
pub dated_versions : AreSound → (s : Setting) (h : List Entry) → IsFormed s → IsPlayed s h → EachVersion IsDatedObject (writes s h)
dated_versions sound s h formed o =
    carried sound (EachVersion IsDatedObject) s formed
    (record {
      none = no_version IsDatedObject;
      user = λ h call reply o right owes ok each.
          let brought = of_steps (Brings Any IsDatedObject) s h call (dated_steps s h (moment_in_years s h formed o.follows) each) owes in
          kept_more s h call reply (dated_kept (moment s h)) brought each;
      pass = λ h call reply o p each.
          let stood = dated_if (object_at (objects s h) (key_of_call (settled call reply))) (standing_has IsDatedObject s h (key_of_call (settled call reply)) each) in
          one_more IsDatedObject (newest s h call reply) (writes s h) (if_dated (newest s h call reply).object (p.write.dated (in_years p.pass.since p.began) stood)) each;
    })
    h o

-- ---- what is seen

dated_part : (c : Option Certificate) → ((x : Certificate) → c ≡ Some x → IsDated (Some (Cert x))) → IsDatedCertificate c
dated_part None each = tt
dated_part (Some c) each = (each c refl).last_failure

-- of what dated writes stored
pub dated_seen : (ws : List Write) (seen : Views) → EachVersion IsDatedObject ws → AreKnown ws seen → HasDatedFailure seen
dated_seen ws seen each known = dated_part seen.certificate (λ c is. seen_has IsDatedObject ws seen (Cert c) each known (seen_certificate seen c is))
