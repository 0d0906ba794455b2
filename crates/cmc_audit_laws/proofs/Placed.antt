-- Each entry of a run has its place, and ticks rise within the time of a run.
use Rattle.std.proofs.Common.{◌≡◌, ℕ, ℤ, ◌+◌, ◌-◌, ◌≤◌, List, [], ◌∷◌, Option, Some, None, refl, sym, ap, subst, ◌∙◌, arith}
use Rattle.std.proofs.lemmas.Int.{ints}
use Rattle.std.specs.Prelude.{◌+ℤ◌, ◌≤ℤ◌, pos, slice_get, option_and_then}
use Rattle.cmc_objects.specs.declared.call.Call.{Call}
use Rattle.cmc_objects.specs.declared.entry.Step.{Step}
use Rattle.cmc_objects.specs.declared.entry.Step.TheVariants as steps
use Rattle.cmc_objects.specs.declared.entry.Entry.{Entry}
use Rattle.cmc_objects.specs.declared.entry.Entry.TheVariants.{Script, Call as Called, Deliver, List as Listed, Begin, Ask, Made, Signed, Answered, Judged, End, Stop, Start, Tick}
use Rattle.cmc_model.specs.Histories.{Setting, moment, objects}
use Rattle.cmc_rules.specs.declared.effect.Effect.{Effect}
use Rattle.cmc_rules.specs.declared.effect.Effect.TheVariants as effects
use Rattle.cmc_rules.specs.Legality.{IsLegalEntry}
use Rattle.cmc_rules.specs.Scripts.{step_at}
use Rattle.cmc_rules.specs.UserSteps.{call_of, call_or, effect_of, owed, FollowsEntry, Follows}
use Rattle.cmc_safety.specs.Formed.{IsFormed}
use Rattle.cmc_safety.proofs.Moments.{moment_in_run}
use Rattle.cmc_audit_ledger.specs.Positions.{IsTick}
use Rattle.cmc_audit_clauses.specs.Clauses.{IsPlaced}

-- each tick of the script has at least a second
abbrev pub HaveSeconds : List Step → Type 0
HaveSeconds script = (number seconds : ℕ) → step_at script number ≡ Some (steps.Tick seconds) → 1 ≤ seconds

-- ---- ticks rise

no_tick : (call : Option Call) (now : ℤ) → call_or call None ≡ Some (effects.Tick now) → ⊥
no_tick None now is = cc is
no_tick (Some call) now is = cc is

-- a step whose effect is a tick is a tick of so many seconds
record TicksBy (s : Setting) (h : List Entry) (step : Step) (now : ℤ) : Type 0 where
  seconds : ℕ
  step_is : step ≡ steps.Tick seconds
  now_is : now ≡ moment s h +ℤ pos seconds

ticks_by : (s : Setting) (h : List Entry) (step : Step) (now : ℤ) → effect_of s h step ≡ Some (effects.Tick now) → TicksBy s h step now
unfolding call_of
ticks_by s h (steps.Tick seconds) now is = record { seconds = seconds; step_is = refl; now_is = (let e : moment s h +ℤ pos seconds ≡ now = cc is in sym e) }
ticks_by s h (steps.Stop role) now is = absurd (cc is)
ticks_by s h (steps.Start role behind) now is = absurd (cc is)
ticks_by s h other now is = absurd (no_tick (call_of (moment s h) (objects s h) other) now is)

rise_by : (s : Setting) (h : List Entry) (number : ℕ) (x : Option Step) (now : ℤ) → HaveSeconds s.script → step_at s.script number ≡ x → option_and_then (effect_of s h) x ≡ Some (effects.Tick now)
    → (moment s h +ℤ pos 1) ≤ℤ now
rise_by s h number None now have at is = absurd (cc is)
rise_by s h number (Some step) now have at is =
    let t = ticks_by s h step now is in
    let least : 1 ≤ t.seconds = have number t.seconds (at ∙ ap Some t.step_is) in
    omega (arith, ints, least, t.now_is)

rise_at : (s : Setting) (h : List Entry) (now : ℤ) → HaveSeconds s.script → owed s h ≡ Some (effects.Tick now) → (moment s h +ℤ pos 1) ≤ℤ now
rise_at s [] now have is = absurd (cc is)
rise_at s (Script number ∷ h) now have is = rise_by s h number (step_at s.script number) now have refl is
rise_at s (other ∷ h) now have is = absurd (cc is)

tick_at : (s : Setting) (h : List Entry) (now : ℤ) → IsFormed s → HaveSeconds s.script → Follows s (Tick now ∷ h) → IsTick s h now
unfolding Follows
tick_at s h now formed have follows = record { rises = rise_at s h now have follows.0; in_run = moment_in_run s (Tick now ∷ h) formed follows }

-- ---- places

pub placed : (s : Setting) (h : List Entry) (e : Entry) → IsFormed s → HaveSeconds s.script → Follows s (e ∷ h) → IsLegalEntry s h e → IsPlaced s h e
placed s h (Script step) formed have follows legal = tt
placed s h (Called who call reply) formed have follows legal = legal.1
placed s h (Deliver role kind to) formed have follows legal = legal
placed s h (Listed role kind to) formed have follows legal = legal
placed s h (Begin pass role key at now) formed have follows legal = legal
placed s h (Ask pass order) formed have follows legal = legal
placed s h (Made pass key) formed have follows legal = legal
placed s h (Signed pass signature) formed have follows legal = legal
placed s h (Answered pass answer) formed have follows legal = legal
placed s h (Judged pass approved) formed have follows legal = legal
placed s h (End pass cause) formed have follows legal = legal
placed s h (Stop role) formed have follows legal = tt
placed s h (Start role at) formed have follows legal = tt
placed s h (Tick now) formed have follows legal = tick_at s h now formed have follows
