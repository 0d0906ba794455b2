-- In the plain order a pass that has written nothing acts on what there is to see, at the moment of its begin.
use Rattle.std.proofs.Common.{◌≡◌, ◌≢◌, ◌==◌, ◌<◌, ◌^◌, ℕ, ℤ, List, [], ◌∷◌, Option, Some, None, Bool, true, false, refl, sym, ap, subst, ◌∙◌}
use Rattle.std.proofs.lemmas.Bool.Decides.{Decides-eqb}
use Rattle.std.specs.Prelude.{if◌then◌else◌, option_map}
use Rattle.cmc_objects.specs.declared.call.Call.{Call}
use Rattle.cmc_objects.specs.declared.call.Reply.{Reply}
use Rattle.cmc_objects.specs.declared.entry.Entry.{Entry}
use Rattle.cmc_objects.specs.declared.entry.Entry.TheVariants.{Call as Called, Begin, Ask, Made, Signed, Answered, Judged, End}
use Rattle.cmc_objects.specs.declared.entry.Who.TheVariants.{User, Pass}
use Rattle.cmc_objects.specs.declared.orders.Order.{Order}
use Rattle.cmc_objects.specs.declared.role.Role.{Role}
use Rattle.cmc_objects.specs.declared.role.Role.TheVariants.{Trigger, KeyManager, RequestManager, Approver, Issuer, Issuing, Readiness, Revision}
use Rattle.cmc_pass.specs.declared.pass.Act.{Act}
use Rattle.cmc_pass.specs.declared.pass.Views.{Views}
use Rattle.cmc_pass.specs.declared.value.Value.{Value}
use Rattle.cmc_model.specs.Replies.{is_accepted}
use Rattle.cmc_model.specs.Histories.{Setting, moment}
use Rattle.cmc_rules.specs.declared.progress.OpenPass.{OpenPass}
use Rattle.cmc_rules.specs.declared.progress.Stage.{Stage}
use Rattle.cmc_rules.specs.declared.progress.Stage.TheVariants.{Fresh, Asked, Given, Read, Saved, Wrote, Refused, Barred}
use Rattle.cmc_rules.specs.Causes.{IsNextCall, act_of, after_of}
use Rattle.cmc_rules.specs.Legality.{IsLegal}
use Rattle.cmc_rules.specs.Passes.{gone_on, open_pass, with_stage}
use Rattle.cmc_rules.specs.Runs.{IsRun}
use Rattle.cmc_rules.specs.Views.{present_views}
use Rattle.cmc_world.specs.Histories.{IsPlain}
use Rattle.cmc_run_laws.specs.Calm.{RunsAlone, is_before_writes, is_calm}
use Rattle.cmc_safety.specs.Formed.{IsFormed}
use Rattle.cmc_safety.proofs.Course.{AreSound}
use Rattle.cmc_safety.proofs.InProgress.{played_below}
use Rattle.cmc_safety.proofs.NextCalls.{IsCallAt}
use Rattle.cmc_load_laws.specs.Loads.{HasFreeCertificates}
use Rattle.cmc_load_laws.specs.LoadRuns.{IsLowering, LowersMeasure, WritesIssued}
use Rattle.cmc_load_laws.proofs.CurrentHistories.{RoleLowers, lowers_at, shorter}
use Rattle.cmc_load_laws.proofs.LoadHistories.{played}
use Rattle.cmc_load_laws.proofs.PassRights.{IsAcceptedBy, accepted_by}

-- ---- the moment of a pass that runs alone

gone_by : (b : Bool) (stage : OpenPass → Stage) (x : Option OpenPass) (p : OpenPass) → (if b then option_map (λ (q : OpenPass). with_stage (stage q) q) x else x) ≡ Some p → (q : OpenPass) × (x ≡ Some q) × (q.since ≡ p.since)
gone_by true stage None p is = absurd (cc is)
gone_by true stage (Some q) p is = let same : with_stage (stage q) q ≡ p = cc is in (q, refl, ap (λ (r : OpenPass). r.since) same)
gone_by false stage x p is = (p, is, refl)

gone_since : (n m : ℕ) (stage : OpenPass → Stage) (x : Option OpenPass) (p : OpenPass) → gone_on n m stage x ≡ Some p → (q : OpenPass) × (x ≡ Some q) × (q.since ≡ p.since)
gone_since n m stage x p is = gone_by (n == m) stage x p is

not_ended : (b : Bool) (x : Option OpenPass) (p : OpenPass) → (if b then None else x) ≡ Some p → x ≡ Some p
not_ended true x p is = absurd (cc is)
not_ended false x p is = is

begun_by : (b : Bool) (new : OpenPass) (x : Option OpenPass) (p : OpenPass) → b ≡ true → (if b then Some new else x) ≡ Some p → new ≡ p
begun_by true new x p on is = cc is
begun_by false new x p on is = absurd (cc on)

pub since_moment : (s : Setting) (h : List Entry) (n : ℕ) (p : OpenPass) → IsLegal s h → open_pass s h n ≡ Some p → RunsAlone n h → p.since ≡ moment s h
unfolding IsLegal
since_moment s [] n p legal opened alone = absurd alone
since_moment s (Begin pass role key at now ∷ h) n p legal opened alone =
    sym (ap (λ (q : OpenPass). q.since) (begun_by (n == pass) _ (open_pass s h n) p ((Decides-eqb n pass).1 alone) opened)) ∙ legal.0.present
since_moment s (Called User call reply ∷ h) n p legal opened alone = absurd (cc alone.0)
since_moment s (Called (Pass m) call reply ∷ h) n p legal opened alone = let q = gone_since n m _ (open_pass s h n) p opened in sym q.2 ∙ since_moment s h n q.0 legal.1 q.1 alone.1
since_moment s (Ask m order ∷ h) n p legal opened alone = let q = gone_since n m _ (open_pass s h n) p opened in sym q.2 ∙ since_moment s h n q.0 legal.1 q.1 alone.1
since_moment s (Made m key ∷ h) n p legal opened alone = let q = gone_since n m _ (open_pass s h n) p opened in sym q.2 ∙ since_moment s h n q.0 legal.1 q.1 alone.1
since_moment s (Signed m signature ∷ h) n p legal opened alone = let q = gone_since n m _ (open_pass s h n) p opened in sym q.2 ∙ since_moment s h n q.0 legal.1 q.1 alone.1
since_moment s (Answered m answer ∷ h) n p legal opened alone = let q = gone_since n m _ (open_pass s h n) p opened in sym q.2 ∙ since_moment s h n q.0 legal.1 q.1 alone.1
since_moment s (Judged m approved ∷ h) n p legal opened alone = let q = gone_since n m _ (open_pass s h n) p opened in sym q.2 ∙ since_moment s h n q.0 legal.1 q.1 alone.1
since_moment s (End m cause ∷ h) n p legal opened alone = since_moment s h n p legal.1 (not_ended (n == m) (open_pass s h n) p opened) alone.1
since_moment s (other ∷ h) n p legal opened alone = absurd (cc alone.0)

-- ---- before its first write

pub before_by : (stage : Stage) (role : Role) (seen : Views) (since : ℤ) (does : Act) (after : Order → Value → Option Call) (call : Call) → role ≢ Issuing → IsNextCall stage does after call → IsCallAt stage role seen since call → is_before_writes stage ≡ true
before_by Fresh role seen since does after call other next at = refl
before_by (Asked order) role seen since does after call other next at = refl
before_by (Given order value) role seen since does after call other next at = refl
before_by Read role seen since does after call other next at = refl
before_by Saved role seen since does after call other next at = absurd (other at.issues.issuing)
before_by Wrote role seen since does after call other next at = absurd next
before_by (Refused entry obstacle) role seen since does after call other next at = absurd next
before_by Barred role seen since does after call other next at = absurd next

before_status : (stage : Stage) (call : Call) → WritesIssued stage call → is_before_writes stage ≡ true
before_status Read call writes = refl
before_status Fresh call writes = absurd writes
before_status (Asked order) call writes = absurd writes
before_status (Given order value) call writes = absurd writes
before_status Saved call writes = absurd writes
before_status Wrote call writes = absurd writes
before_status (Refused entry obstacle) call writes = absurd writes
before_status Barred call writes = absurd writes

before_role : (role : Role) (seen : Views) (stage : Stage) (since : ℤ) (does : Act) (after : Order → Value → Option Call) (call : Call) → IsLowering role seen stage call → IsNextCall stage does after call → IsCallAt stage role seen since call
    → is_before_writes stage ≡ true
before_role Trigger seen stage since does after call lowers next at = before_by stage Trigger seen since does after call (λ is. absurd (cc is)) next at
before_role KeyManager seen stage since does after call lowers next at = before_by stage KeyManager seen since does after call (λ is. absurd (cc is)) next at
before_role RequestManager seen stage since does after call lowers next at = before_by stage RequestManager seen since does after call (λ is. absurd (cc is)) next at
before_role Approver seen stage since does after call lowers next at = before_by stage Approver seen since does after call (λ is. absurd (cc is)) next at
before_role Issuer seen stage since does after call lowers next at = before_by stage Issuer seen since does after call (λ is. absurd (cc is)) next at
before_role Issuing seen stage since does after call lowers next at = before_status stage call lowers
before_role Readiness seen stage since does after call lowers next at = before_by stage Readiness seen since does after call (λ is. absurd (cc is)) next at
before_role Revision seen stage since does after call lowers next at = before_by stage Revision seen since does after call (λ is. absurd (cc is)) next at

-- ---- the plain order

abbrev pub RunAlone : Type 0
RunAlone = (s : Setting) (h : List Entry) → IsPlain s h → is_calm s.script ≡ true → s.events < 2 ^ 64 → (n : ℕ) (p : OpenPass) → open_pass s h n ≡ Some p → RunsAlone n h

abbrev pub SeeAll : Type 0
SeeAll =
    (s : Setting) (h : List Entry) → IsPlain s h → is_calm s.script ≡ true → s.events < 2 ^ 64 → (n : ℕ) (p : OpenPass) → open_pass s h n ≡ Some p → is_before_writes p.stage ≡ true
    → p.seen ≡ present_views s h p.role p.key

before_writes : (s : Setting) (h : List Entry) (n : ℕ) (call : Call) (reply : Reply) (p : OpenPass) → IsAcceptedBy s h n call reply → open_pass s h n ≡ Some p → IsLowering p.role p.seen p.stage call → is_before_writes p.stage ≡ true
before_writes s h n call reply p a opened lowers =
    let some : Some a.caller.pass ≡ Some p = sym a.caller.opened ∙ opened in
    let same : a.caller.pass ≡ p = cc some in
    let q : OpenPass = a.caller.pass in
    let lowers_q : IsLowering q.role q.seen q.stage call = subst (λ (x : OpenPass). IsLowering x.role x.seen x.stage call) (sym same) lowers in
    subst (λ (x : OpenPass). is_before_writes x.stage ≡ true) same
    (before_role q.role q.seen q.stage q.since (act_of s h q) (after_of q) call lowers_q a.next a.caller.at)

pub plain_lowers : AreSound → ((role : Role) → RoleLowers role) → RunAlone → SeeAll → (s : Setting) (h : List Entry) (n : ℕ) (call : Call) (reply : Reply) (p : OpenPass) → IsFormed s → HasFreeCertificates s → is_calm s.script ≡ true → s.events < 2 ^ 64 → IsPlain s h
    → IsRun s (Called (Pass n) call reply ∷ h) → is_accepted reply ≡ true → open_pass s h n ≡ Some p → IsLowering p.role p.seen p.stage call → LowersMeasure s h (Called (Pass n) call reply)
plain_lowers sound each alone sees s h n call reply p formed load calm small plain run ok opened lowers =
    let o = played s (Called (Pass n) call reply ∷ h) run in
    let a = accepted_by sound s h n call reply o ok in
    let below = played_below s (Called (Pass n) call reply) h o in
    lowers_at sound each s h n call reply formed (shorter (Called (Pass n) call reply) h s.events run.short) load o ok p opened
    (record { sees = sees s h plain calm small n p opened (before_writes s h n call reply p a opened lowers); now = since_moment s h n p below.legal opened (alone s h plain calm small n p opened) }) lowers
