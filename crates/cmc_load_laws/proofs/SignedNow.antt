-- In a plain run of a load what is issued for an issuance under way was signed at the present moment.
use Rattle.std.proofs.Common.{◌≡◌, ◌≤◌, ℕ, ℤ, List, [], ◌∷◌, length, true, Some, subst}
use Rattle.cmc_objects.specs.declared.object.Object.TheVariants.{Cert}
use Rattle.cmc_objects.specs.declared.call.Call.{Call}
use Rattle.cmc_objects.specs.declared.call.Reply.{Reply}
use Rattle.cmc_objects.specs.declared.entry.Entry.{Entry}
use Rattle.cmc_objects.specs.declared.entry.Entry.TheVariants.{Call as Called, Tick}
use Rattle.cmc_objects.specs.declared.entry.Who.TheVariants.{User, Pass}
use Rattle.cmc_objects.specs.declared.role.Role.TheVariants.{Issuer}
use Rattle.cmc_model.specs.Histories.{Setting, moment, objects}
use Rattle.cmc_rules.specs.declared.progress.OpenPass.{OpenPass}
use Rattle.cmc_rules.specs.Passes.{open_pass}
use Rattle.cmc_rules.proofs.Versions.{stands_is_version}
use Rattle.cmc_run_laws.specs.Calm.{is_before_writes}
use Rattle.cmc_safety.specs.Formed.{IsFormed}
use Rattle.cmc_safety.proofs.Course.{AreSound}
use Rattle.cmc_safety.proofs.InProgress.{IsPlayed, played_below}
use Rattle.cmc_safety.proofs.MayAct.{may_act_pass}
use Rattle.cmc_load_laws.specs.Loads.{IsLoad}
use Rattle.cmc_load_laws.specs.LoadRuns.{SeesAll}
use Rattle.cmc_load_laws.proofs.AnsweredRequests.{IsSignedAt, signed_alike}
use Rattle.cmc_load_laws.proofs.CurrentHistories.{run_below, shorter}
use Rattle.cmc_load_laws.proofs.FreshRequests.{HaveFresh, fresh_over}
use Rattle.cmc_load_laws.proofs.GoodVersions.{each_good}
use Rattle.cmc_load_laws.proofs.IdleTicks.{HaveIdleTicks, over_user}
use Rattle.cmc_load_laws.proofs.NeverFailing.{never_fails}
use Rattle.cmc_load_laws.proofs.PassRights.{IsAcceptedBy, accepted_by, call_as, next_as}
use Rattle.cmc_load_laws.proofs.PickedCounts.{over_call}
use Rattle.cmc_load_laws.proofs.PlainWrites.{before_by}
use Rattle.cmc_load_laws.proofs.RequestTops.{have_tops}
use Rattle.cmc_load_laws.proofs.SeenHistories.{HaveSeen}

-- the issuer's controller writes at the moment of its begin
writes_now : (s : Setting) (h : List Entry) (n : ℕ) (call : Call) (reply : Reply) (a : IsAcceptedBy s h n call reply) → ((p : OpenPass) → open_pass s h n ≡ Some p → is_before_writes p.stage ≡ true → SeesAll s h p) → a.caller.pass.role ≡ Issuer
    → a.caller.pass.since ≡ moment s h
writes_now s h n call reply a sees is =
    let p : OpenPass = a.caller.pass in
    (sees p a.caller.opened (before_by p.stage Issuer p.seen p.since _ _ call (λ e. absurd (cc e)) (next_as s h n call reply a Issuer is) (call_as s h n call reply a Issuer is))).now

pub signed_now : AreSound → (s : Setting) (h : List Entry) → IsFormed s → IsLoad s → length h ≤ s.events → IsPlayed s h → HaveSeen s h → HaveIdleTicks s h → HaveFresh (IsSignedAt (moment s h)) (objects s h)
signed_now sound s [] formed load short o seen ticks = λ kc kq c r at there owned ready. absurd (stands_is_version s [] kc (Cert c) at)
signed_now sound s (Called User call reply ∷ h) formed load short o seen ticks =
    let fresh = signed_now sound s h formed load (shorter (Called User call reply) h s.events short) (played_below s (Called User call reply) h o) seen ticks in
    over_call (HaveFresh (IsSignedAt (moment s h))) s h User call reply fresh (λ ok. over_user (IsSignedAt (moment s h)) sound s h call reply load o ok fresh)
signed_now sound s (Called (Pass n) call reply ∷ h) formed load short o seen ticks =
    let below = played_below s (Called (Pass n) call reply) h o in
    let less = shorter (Called (Pass n) call reply) h s.events short in
    let fresh = signed_now sound s h formed load less below seen.1 ticks in
    over_call (HaveFresh (IsSignedAt (moment s h))) s h (Pass n) call reply fresh
    (λ ok.
    let a = accepted_by sound s h n call reply o ok in
    fresh_over (IsSignedAt (moment s h)) (λ q r spec certificate ca is. signed_alike (moment s h) q r spec certificate ca is) s h n call reply load below (each_good sound s h load below) a
    (may_act_pass sound s h n a.caller.pass formed (run_below s h n call reply o less) a.caller.opened)
    (have_tops sound s h formed load less (λ k p few. never_fails sound s k formed load few p) below seen.1) fresh
    (λ is r signed. subst (λ (t : ℤ). IsSignedAt t r) (writes_now s h n call reply a seen.0 is) signed))
signed_now sound s (Tick now ∷ h) formed load short o seen ticks = λ kc kq c r at there owned ready. absurd (ticks.0 kc kq c r at there owned ready)
signed_now sound s (other ∷ h) formed load short o seen ticks = signed_now sound s h formed load (shorter other h s.events short) (played_below s other h o) seen ticks
