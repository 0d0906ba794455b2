-- The writes of trigger and readiness lower the measure, where the pass sees what there is to see.
use Rattle.std.proofs.Common.{◌≡◌, ◌+◌, ◌<◌, ℕ, ℤ, List, true, false, Some, refl, sym, ap, subst, ◌∙◌}
use Rattle.cmc_meta.specs.declared.key.Key.{Key}
use Rattle.cmc_objects.specs.declared.certificate.Certificate.{Certificate}
use Rattle.cmc_objects.specs.declared.certificate.CertStatus.{CertStatus}
use Rattle.cmc_objects.specs.declared.object.Object.TheVariants.{Cert}
use Rattle.cmc_objects.specs.declared.call.Call.{Call}
use Rattle.cmc_objects.specs.declared.call.Reply.{Reply}
use Rattle.cmc_objects.specs.declared.entry.Entry.{Entry}
use Rattle.cmc_objects.specs.declared.entry.Entry.TheVariants.{Call as Called}
use Rattle.cmc_objects.specs.declared.entry.Who.TheVariants.{Pass}
use Rattle.cmc_objects.specs.declared.role.Role.{Role}
use Rattle.cmc_objects.specs.declared.role.Role.TheVariants.{Trigger, Readiness}
use Rattle.cmc_objects.specs.Objects.{key_of}
use Rattle.cmc_objects.specs.Informers.{works_on_requests}
use Rattle.cmc_pass.specs.declared.pass.Act.{Act}
use Rattle.cmc_pass.specs.declared.pass.Views.{Views}
use Rattle.cmc_model.specs.Replies.{key_of_call, settled, stored}
use Rattle.cmc_model.specs.Histories.{Setting, moment, objects, accepted}
use Rattle.cmc_rules.specs.Acts.{act, call_after}
use Rattle.cmc_rules.specs.Causes.{IsFirstCall}
use Rattle.cmc_rules.specs.Readiness.{readiness}
use Rattle.cmc_rules.specs.Trigger.{trigger}
use Rattle.cmc_rules.specs.Views.{present_views}
use Rattle.cmc_rules.specs.declared.progress.OpenPass.{OpenPass}
use Rattle.cmc_rules.proofs.Versions.{version_keyed}
use Rattle.cmc_run_laws.specs.Issuances.{certificate_restated, with_certificate}
use Rattle.cmc_load_laws.specs.Frame.{part_for, seen_of}
use Rattle.cmc_load_laws.specs.LoadRuns.{SeesAll, LowersMeasure}
use Rattle.cmc_load_laws.specs.Measure.{acts, measure}
use Rattle.cmc_load_laws.proofs.CertificateWrites.{IsRestated, is_restated, seen_with}
use Rattle.cmc_load_laws.proofs.Elsewhere.{role_sees}
use Rattle.cmc_load_laws.proofs.FirstCalls.{IsAskedFor, IsMadeReady, IsStatusWrite, first_acts, only_first, readiness_write, status_ready, trigger_write}
use Rattle.cmc_load_laws.proofs.LoadHistories.{IsForOneIn}
use Rattle.cmc_load_laws.proofs.MeasureLowers.{status_lowers}
use Rattle.cmc_load_laws.proofs.PassRights.{IsAcceptedBy, call_as, next_as}
use Rattle.cmc_load_laws.proofs.Readied.{readied_falls}
use Rattle.cmc_load_laws.proofs.Triggered.{trigger_falls}

-- ---- what a role sees

pub sees_part : (s : Setting) (h : List Entry) (p : OpenPass) (role : Role) → works_on_requests role ≡ false → p.role ≡ role → SeesAll s h p → p.seen ≡ part_for role (seen_of (objects s h) p.key)
sees_part s h p role works is current = current.sees ∙ ap (λ (r : Role). present_views s h r p.key) is ∙ role_sees role (objects s h) p.key works

-- the act on what is seen is the one on what there is to see
pub on_present : (does : Views → ℤ → Act) (s : Setting) (h : List Entry) (p : OpenPass) (part : Views) (call : Call) → p.seen ≡ part → p.since ≡ moment s h → IsFirstCall (does p.seen p.since) call → IsFirstCall (does part (moment s h)) call
on_present does s h p part call sees now first =
    subst (λ (t : ℤ). IsFirstCall (does part t) call) now (subst (λ (v : Views). IsFirstCall (does v p.since) call) sees first)

-- what the write of a status that is seen comes to
module _ (s : Setting) (h : List Entry) (n : ℕ) (call : Call) (reply : Reply) (a : IsAcceptedBy s h n call reply) (role : Role) (works : works_on_requests role ≡ false) (is_role : a.caller.pass.role ≡ role) (current : SeesAll s h a.caller.pass)
    (P : Certificate → CertStatus → Type 0) (w : IsStatusWrite (seen_of (objects s h) a.caller.pass.key) P call) where
  pub is_seen : a.caller.pass.seen.certificate ≡ Some w.certificate
  is_seen = ap (λ (v : Views). v.certificate) (sees_part s h a.caller.pass role works is_role current) ∙ w.sees

  pub its_key : key_of (Cert w.certificate) ≡ a.caller.pass.key
  its_key = version_keyed s h a.caller.pass.key (Cert w.certificate) a.legal (a.caller.version w.certificate is_seen)

  pub as_restated : IsRestated s h call reply w.certificate w.status
  as_restated = is_restated s h a.caller.pass.seen call reply w.certificate w.status a.legal a.caller.saw.known is_seen a.founded w.is

  pub act_there : (does : Views → Act) → acts (does (seen_of (objects s h) a.caller.pass.key)) ≡ true → acts (does (with_certificate w.certificate (seen_of (objects s h) (key_of (Cert w.certificate))))) ≡ true
  act_there does is =
      subst (λ (v : Views). acts (does v) ≡ true) (seen_with (objects s h) w.certificate as_restated.was) (subst (λ (k : Key). acts (does (seen_of (objects s h) k)) ≡ true) (sym its_key) is)

-- ---- the trigger

pub first_trigger : (s : Setting) (h : List Entry) (n : ℕ) (call : Call) (reply : Reply) (a : IsAcceptedBy s h n call reply) → a.caller.pass.role ≡ Trigger → IsFirstCall (trigger a.caller.pass.seen a.caller.pass.since) call
unfolding act call_after
first_trigger s h n call reply a is =
    only_first a.caller.pass.stage Trigger a.caller.pass.seen a.caller.pass.since (trigger a.caller.pass.seen a.caller.pass.since) (call_after Trigger a.caller.pass.seen a.caller.pass.since) call (λ e. absurd (cc e)) (λ order value. refl)
    (next_as s h n call reply a Trigger is) (call_as s h n call reply a Trigger is)

trigger_part : (seen : Views) (now : ℤ) → trigger (part_for Trigger seen) now ≡ trigger seen now
unfolding trigger
trigger_part seen now = refl

pub trigger_lowers : (s : Setting) (h : List Entry) (n : ℕ) (call : Call) (reply : Reply) (a : IsAcceptedBy s h n call reply) → a.caller.pass.role ≡ Trigger → SeesAll s h a.caller.pass
    → IsForOneIn (objects s h) (key_of_call (settled call reply)) (stored (accepted s h + 1) (moment s h) (objects s h) (settled call reply)) → LowersMeasure s h (Called (Pass n) call reply)
trigger_lowers s h n call reply a is current one =
    let p : OpenPass = a.caller.pass in
    let now : ℤ = moment s h in
    let there : Views = seen_of (objects s h) p.key in
    let first : IsFirstCall (trigger there now) call =
    subst (λ (x : Act). IsFirstCall x call) (trigger_part there now) (on_present trigger s h p (part_for Trigger there) call (sees_part s h p Trigger refl is current) current.now (first_trigger s h n call reply a is)) in
    let w = trigger_write now there call first in
    let c : Certificate = w.certificate in
    let seen : Views = seen_of (objects s h) (key_of (Cert c)) in
    let asks : acts (trigger (with_certificate c seen) now) ≡ true = act_there s h n call reply a Trigger refl is current (IsAskedFor now) w (λ v. trigger v now) (first_acts (trigger there now) call first) in
    status_lowers s h n call reply c w.status a.ok (as_restated s h n call reply a Trigger refl is current (IsAskedFor now) w) one
    (λ desk due rules.
    subst (λ (status : CertStatus). measure desk due now (with_certificate (certificate_restated (accepted s h + 1) status c) seen) < measure desk due now (with_certificate c seen)) (sym w.so.1)
    (trigger_falls desk due now seen c w.so.0 (accepted s h + 1) asks))

-- ---- readiness

first_readiness : (s : Setting) (h : List Entry) (n : ℕ) (call : Call) (reply : Reply) (a : IsAcceptedBy s h n call reply) → a.caller.pass.role ≡ Readiness → IsFirstCall (readiness a.caller.pass.seen a.caller.pass.since) call
unfolding act call_after
first_readiness s h n call reply a is =
    only_first a.caller.pass.stage Readiness a.caller.pass.seen a.caller.pass.since (readiness a.caller.pass.seen a.caller.pass.since) (call_after Readiness a.caller.pass.seen a.caller.pass.since) call (λ e. absurd (cc e)) (λ order value. refl)
    (next_as s h n call reply a Readiness is) (call_as s h n call reply a Readiness is)

readiness_part : (seen : Views) (now : ℤ) → readiness (part_for Readiness seen) now ≡ readiness seen now
unfolding readiness
readiness_part seen now = refl

pub readiness_lowers : (s : Setting) (h : List Entry) (n : ℕ) (call : Call) (reply : Reply) (a : IsAcceptedBy s h n call reply) → a.caller.pass.role ≡ Readiness → SeesAll s h a.caller.pass
    → IsForOneIn (objects s h) (key_of_call (settled call reply)) (stored (accepted s h + 1) (moment s h) (objects s h) (settled call reply)) → LowersMeasure s h (Called (Pass n) call reply)
readiness_lowers s h n call reply a is current one =
    let p : OpenPass = a.caller.pass in
    let now : ℤ = moment s h in
    let there : Views = seen_of (objects s h) p.key in
    let first : IsFirstCall (readiness there now) call =
    subst (λ (x : Act). IsFirstCall x call) (readiness_part there now) (on_present readiness s h p (part_for Readiness there) call (sees_part s h p Readiness refl is current) current.now (first_readiness s h n call reply a is)) in
    let w = readiness_write now there call first in
    let c : Certificate = w.certificate in
    let seen : Views = seen_of (objects s h) (key_of (Cert c)) in
    let asks : acts (readiness (with_certificate c seen) now) ≡ true = act_there s h n call reply a Readiness refl is current (IsMadeReady now there) w (λ v. readiness v now) (first_acts (readiness there now) call first) in
    let key : p.key ≡ key_of (Cert c) = sym (its_key s h n call reply a Readiness refl is current (IsMadeReady now there) w) in
    let status : w.status ≡ status_ready now seen c = w.so ∙ ap (λ (k : Key). status_ready now (seen_of (objects s h) k) c) key in
    status_lowers s h n call reply c w.status a.ok (as_restated s h n call reply a Readiness refl is current (IsMadeReady now there) w) one
    (λ desk due rules.
    subst (λ (x : CertStatus). measure desk due now (with_certificate (certificate_restated (accepted s h + 1) x c) seen) < measure desk due now (with_certificate c seen)) (sym status)
    (readied_falls desk due now seen c (accepted s h + 1) asks))
