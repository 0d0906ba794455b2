-- In a plain run of a load each accepted write of a role lowers the measure.
use Rattle.std.proofs.Common.{◌≡◌, ◌<◌, ◌^◌, ℕ, List, ◌∷◌, true, refl, sym, subst, ◌∙◌}
use Rattle.cmc_objects.specs.declared.call.Call.{Call}
use Rattle.cmc_objects.specs.declared.call.Reply.{Reply}
use Rattle.cmc_objects.specs.declared.entry.Entry.{Entry}
use Rattle.cmc_objects.specs.declared.entry.Entry.TheVariants.{Call as Called}
use Rattle.cmc_objects.specs.declared.entry.Who.TheVariants.{Pass}
use Rattle.cmc_objects.specs.declared.role.Role.{Role}
use Rattle.cmc_objects.specs.declared.role.Role.TheVariants.{Trigger, KeyManager, RequestManager, Approver, Issuer, Issuing, Readiness, Revision}
use Rattle.cmc_pass.specs.declared.pass.Views.{Views}
use Rattle.cmc_model.specs.Replies.{is_accepted}
use Rattle.cmc_model.specs.Histories.{Setting}
use Rattle.cmc_rules.specs.declared.progress.OpenPass.{OpenPass}
use Rattle.cmc_rules.specs.declared.progress.Stage.{Stage}
use Rattle.cmc_rules.specs.declared.progress.Stage.TheVariants.{Fresh, Asked, Given, Read, Saved, Wrote, Refused, Barred}
use Rattle.cmc_rules.specs.Runs.{IsRun}
use Rattle.cmc_world.specs.Histories.{IsPlain}
use Rattle.cmc_safety.specs.Formed.{IsFormed}
use Rattle.cmc_safety.proofs.Course.{AreSound}
use Rattle.cmc_safety.proofs.InProgress.{played_below}
use Rattle.cmc_safety.proofs.NextCalls.{IsCallAt}
use Rattle.cmc_load_laws.specs.Loads.{HasAllRoles, IsLoad}
use Rattle.cmc_load_laws.specs.LoadRuns.{IsPlainLowering, LowersMeasure}
use Rattle.cmc_load_laws.proofs.CurrentHistories.{RoleLowers, shorter}
use Rattle.cmc_load_laws.proofs.CurrentKeys.{MadeKeysFit}
use Rattle.cmc_load_laws.proofs.EndedIssuances.{ended_lowers}
use Rattle.cmc_load_laws.proofs.GoodVersions.{each_good}
use Rattle.cmc_load_laws.proofs.IdleTicks.{idle_ticks}
use Rattle.cmc_load_laws.proofs.LoadHistories.{for_one_in, played}
use Rattle.cmc_load_laws.proofs.LoadLowers.{load_lowers}
use Rattle.cmc_load_laws.proofs.LoadScripts.{calm_script}
use Rattle.cmc_load_laws.proofs.NotDue.{LastsBeyondLead, LeadsBelow}
use Rattle.cmc_load_laws.proofs.PassRights.{IsAcceptedBy, accepted_by}
use Rattle.cmc_load_laws.proofs.PlainWrites.{RunAlone, SeeAll, since_moment}
use Rattle.cmc_load_laws.proofs.SavedPasses.{has_saved}
use Rattle.cmc_load_laws.proofs.SeenHistories.{have_seen}
use Rattle.cmc_load_laws.proofs.SignedNow.{signed_now}

-- ---- what is left of the premise

plain_by : (role : Role) (seen : Views) (stage : Stage) (call : Call) → (stage ≡ Saved → ⊥) → IsPlainLowering role seen stage call
plain_by Issuing seen Saved call unsaved = unsaved refl
plain_by Issuing seen Fresh call unsaved = tt
plain_by Issuing seen (Asked order) call unsaved = tt
plain_by Issuing seen (Given order value) call unsaved = tt
plain_by Issuing seen Read call unsaved = tt
plain_by Issuing seen Wrote call unsaved = tt
plain_by Issuing seen (Refused entry obstacle) call unsaved = tt
plain_by Issuing seen Barred call unsaved = tt
plain_by Revision seen stage call unsaved = tt
plain_by Trigger seen stage call unsaved = tt
plain_by KeyManager seen stage call unsaved = tt
plain_by RequestManager seen stage call unsaved = tt
plain_by Approver seen stage call unsaved = tt
plain_by Issuer seen stage call unsaved = tt
plain_by Readiness seen stage call unsaved = tt

-- ---- all writes

module _ (sound : AreSound) (fit : MadeKeysFit) (alone : RunAlone) (sees : SeeAll) (each : (role : Role) → RoleLowers role) (lasts : LastsBeyondLead) (leads : LeadsBelow) where
  by_end : (s : Setting) (h : List Entry) (n : ℕ) (call : Call) (reply : Reply) → IsFormed s → IsLoad s → HasAllRoles s → s.events < 2 ^ 64 → IsPlain s h → IsRun s (Called (Pass n) call reply ∷ h) → is_accepted reply ≡ true → (a : IsAcceptedBy s h n call reply)
      → a.caller.pass.stage ≡ Saved → LowersMeasure s h (Called (Pass n) call reply)
  by_end s h n call reply formed load all small plain run ok a saved =
      let e : Entry = Called (Pass n) call reply in
      let p : OpenPass = a.caller.pass in
      let o = played s (e ∷ h) run in
      let below = played_below s e h o in
      let short = shorter e h s.events run.short in
      let calm = calm_script s.script load.steps in
      let seen = have_seen alone sees s h calm small plain in
      let own = alone s h plain calm small n p a.caller.opened in
      let at : IsCallAt Saved p.role p.seen p.since call = subst (λ (t : Stage). IsCallAt t p.role p.seen p.since call) saved a.caller.at in
      ended_lowers lasts leads s h n call reply below (each_good sound s h load below) a (signed_now sound s h formed load short below seen (idle_ticks sound s h formed load all plain))
      (since_moment s h n p below.legal a.caller.opened own) (has_saved sound s h n p load.free below seen own a.caller.opened saved) at.issues.issuing saved (for_one_in sound s h n call reply load.free o ok)

  pub each_lowers : (s : Setting) (h : List Entry) (n : ℕ) (call : Call) (reply : Reply) → IsFormed s → IsLoad s → HasAllRoles s → s.events < 2 ^ 64 → IsPlain s h → IsRun s (Called (Pass n) call reply ∷ h) → is_accepted reply ≡ true
      → LowersMeasure s h (Called (Pass n) call reply)
  each_lowers s h n call reply formed load all small plain run ok = by a.caller.pass.stage refl where
    a : IsAcceptedBy s h n call reply
    a = accepted_by sound s h n call reply (played s (Called (Pass n) call reply ∷ h) run) ok

    otherwise : (a.caller.pass.stage ≡ Saved → ⊥) → LowersMeasure s h (Called (Pass n) call reply)
    otherwise unsaved =
        load_lowers sound fit alone sees each s h n call reply a.caller.pass formed load small plain run ok a.caller.opened
        (plain_by a.caller.pass.role a.caller.pass.seen a.caller.pass.stage call unsaved)

    by : (stage : Stage) → a.caller.pass.stage ≡ stage → LowersMeasure s h (Called (Pass n) call reply)
    by Saved at = by_end s h n call reply formed load all small plain run ok a at
    by Fresh at = otherwise (λ is. absurd (let e : Fresh ≡ Saved = sym at ∙ is in cc e))
    by (Asked order) at = otherwise (λ is. absurd (let e : Asked order ≡ Saved = sym at ∙ is in cc e))
    by (Given order value) at = otherwise (λ is. absurd (let e : Given order value ≡ Saved = sym at ∙ is in cc e))
    by Read at = otherwise (λ is. absurd (let e : Read ≡ Saved = sym at ∙ is in cc e))
    by Wrote at = otherwise (λ is. absurd (let e : Wrote ≡ Saved = sym at ∙ is in cc e))
    by (Refused entry obstacle) at = otherwise (λ is. absurd (let e : Refused entry obstacle ≡ Saved = sym at ∙ is in cc e))
    by Barred at = otherwise (λ is. absurd (let e : Barred ≡ Saved = sym at ∙ is in cc e))
