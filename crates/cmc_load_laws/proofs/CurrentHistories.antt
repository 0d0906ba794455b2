-- What holds of each accepted write of a role that acts on what there is to see holds of all of them in a run.
use Rattle.std.proofs.Common.{◌≡◌, ◌≤◌, ◌+◌, ℕ, List, [], ◌∷◌, length, Some, true, refl, sym, subst, ◌∙◌, arith}
use Rattle.cmc_objects.specs.declared.certificate.Certificate.{Certificate}
use Rattle.cmc_objects.specs.declared.call.Call.{Call}
use Rattle.cmc_objects.specs.declared.call.Reply.{Reply}
use Rattle.cmc_objects.specs.declared.entry.Entry.{Entry}
use Rattle.cmc_objects.specs.declared.entry.Entry.TheVariants.{Call as Called}
use Rattle.cmc_objects.specs.declared.entry.Who.TheVariants.{User, Pass}
use Rattle.cmc_objects.specs.declared.role.Role.{Role}
use Rattle.cmc_model.specs.Replies.{is_accepted, key_of_call, settled, stored}
use Rattle.cmc_model.specs.Histories.{Setting, moment, objects, accepted}
use Rattle.cmc_model.specs.Writes.{writes}
use Rattle.cmc_rules.specs.UserSteps.{Follows}
use Rattle.cmc_rules.specs.NextRequests.{HasNextRevision}
use Rattle.cmc_rules.specs.Passes.{open_pass}
use Rattle.cmc_rules.specs.Runs.{IsRun}
use Rattle.cmc_rules.specs.declared.progress.OpenPass.{OpenPass}
use Rattle.cmc_safety.specs.Formed.{IsFormed}
use Rattle.cmc_safety.proofs.Course.{AreSound}
use Rattle.cmc_safety.proofs.InProgress.{IsPlayed, played_below}
use Rattle.cmc_safety.proofs.MayAct.{may_act_pass}
use Rattle.cmc_load_laws.specs.Loads.{HasFreeCertificates}
use Rattle.cmc_load_laws.specs.LoadRuns.{CurrentWritesLower, SeesAll, IsLowering, IsStanding, LowersMeasure}
use Rattle.cmc_load_laws.proofs.BelongingVersions.{EachIsOf, IsCertificateIn}
use Rattle.cmc_load_laws.proofs.LoadHistories.{IsForOneIn, for_one_in, played}
use Rattle.cmc_load_laws.proofs.LoadVersions.{each_is_of, is_standing}
use Rattle.cmc_load_laws.proofs.PassRights.{IsAcceptedBy, accepted_by}

-- what is known of a history of a load
pub record IsOfLoad (s : Setting) (h : List Entry) : Type 0 where
  pub load : HasFreeCertificates s
  pub played : IsPlayed s h
  pub each : EachIsOf s (writes s h)
  pub standing : (c : Certificate) → IsCertificateIn (writes s h) c → IsStanding (objects s h) c

of_load : AreSound → (s : Setting) (h : List Entry) → HasFreeCertificates s → IsPlayed s h → IsOfLoad s h
of_load sound s h load o =
    let each = each_is_of sound s h load o in
    record { load = load; played = o; each = each; standing = λ c known. is_standing sound s h load o each c known }

-- an accepted write of the role, by a pass on what there is to see
abbrev pub RoleLowers : Role → Type 0
RoleLowers role =
    (s : Setting) (h : List Entry) (n : ℕ) (call : Call) (reply : Reply) (a : IsAcceptedBy s h n call reply) → IsOfLoad s h → HasNextRevision a.caller.pass.seen.certificate → a.caller.pass.role ≡ role → SeesAll s h a.caller.pass
    → IsLowering role a.caller.pass.seen a.caller.pass.stage call
    → IsForOneIn (objects s h) (key_of_call (settled call reply)) (stored (accepted s h + 1) (moment s h) (objects s h) (settled call reply)) → LowersMeasure s h (Called (Pass n) call reply)

pub run_below : (s : Setting) (h : List Entry) (n : ℕ) (call : Call) (reply : Reply) → IsPlayed s (Called (Pass n) call reply ∷ h) → length h ≤ s.events → IsRun s h
unfolding Follows
run_below s h n call reply o short =
    let below = played_below s (Called (Pass n) call reply) h o in
    record { legal = below.legal; caused = below.caused; follows = below.follows; short = short; settled = o.follows.0 }

pub lowers_at : AreSound → ((role : Role) → RoleLowers role) → (s : Setting) (h : List Entry) (n : ℕ) (call : Call) (reply : Reply) → IsFormed s → length h ≤ s.events → HasFreeCertificates s → IsPlayed s (Called (Pass n) call reply ∷ h)
    → is_accepted reply ≡ true → (p : OpenPass) → open_pass s h n ≡ Some p → SeesAll s h p → IsLowering p.role p.seen p.stage call → LowersMeasure s h (Called (Pass n) call reply)
lowers_at sound each s h n call reply formed short load o ok p opened current lowers =
    let a = accepted_by sound s h n call reply o ok in
    let some : Some p ≡ Some a.caller.pass = sym opened ∙ a.caller.opened in
    let same : p ≡ a.caller.pass = cc some in
    let may = may_act_pass sound s h n a.caller.pass formed (run_below s h n call reply o short) a.caller.opened in
    each a.caller.pass.role s h n call reply a (of_load sound s h load (played_below s (Called (Pass n) call reply) h o)) may.revision refl (subst (SeesAll s h) same current)
    (subst (λ (q : OpenPass). IsLowering q.role q.seen q.stage call) same lowers) (for_one_in sound s h n call reply load o ok)

pub shorter : (e : Entry) (h : List Entry) (most : ℕ) → length (e ∷ h) ≤ most → length h ≤ most
shorter e h most short = omega (arith, short)

each_lower : AreSound → ((role : Role) → RoleLowers role) → (s : Setting) (h : List Entry) → IsFormed s → length h ≤ s.events → HasFreeCertificates s → IsPlayed s h → CurrentWritesLower s h
each_lower sound each s [] formed short load o = tt
each_lower sound each s (Called (Pass n) call reply ∷ h) formed short load o =
    let below = shorter (Called (Pass n) call reply) h s.events short in
    (λ ok p opened current lowers. lowers_at sound each s h n call reply formed below load o ok p opened current lowers, each_lower sound each s h formed below load (played_below s (Called (Pass n) call reply) h o))
each_lower sound each s (Called User call reply ∷ h) formed short load o = each_lower sound each s h formed (shorter (Called User call reply) h s.events short) load (played_below s (Called User call reply) h o)
each_lower sound each s (other ∷ h) formed short load o = each_lower sound each s h formed (shorter other h s.events short) load (played_below s other h o)

pub runs_lower : AreSound → ((role : Role) → RoleLowers role) → (s : Setting) (h : List Entry) → IsFormed s → HasFreeCertificates s → IsRun s h → CurrentWritesLower s h
runs_lower sound each s h formed load run = each_lower sound each s h formed run.short load (played s h run)
