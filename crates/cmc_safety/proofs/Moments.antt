-- The moment lies between the first one and what the ticks of the script make of it, and so in the time of a run.
use Rattle.std.proofs.Common.{◌≡◌, ◌==◌, ◌&&◌, ℕ, ℤ, pos, ◌+◌, ◌-◌, ◌≤◌, ◌+ℤ◌, true, List, [], ◌∷◌, length, take, zero, suc, Option, Some, None, refl, sym, ap, subst, ◌∙◌, arith, int_le}
use Rattle.std.specs.Prelude.{◌≤ℤ◌, neg_ℤ, option_and_then, slice_get, IfSome}
use Rattle.std.proofs.lemmas.Int.{ints}
use Rattle.std.proofs.lemmas.List.Sums.{sum_by-cons, sum_by-take-le}
use Rattle.std.proofs.lemmas.Bool.{and_parts}
use Rattle.cmc_objects.specs.declared.call.Call.{Call}
use Rattle.cmc_objects.specs.declared.entry.Who.TheVariants.{User, Pass}
use Rattle.cmc_objects.specs.declared.entry.Step.{Step}
use Rattle.cmc_objects.specs.declared.entry.Step.TheVariants as steps
use Rattle.cmc_objects.specs.declared.entry.Entry.{Entry}
use Rattle.cmc_objects.specs.declared.entry.Entry.TheVariants.{Script, Call as Called, Begin, Ask, Made, Signed, Answered, Judged, End, Stop, Tick}
use Rattle.cmc_objects.specs.Requests.{is_run_time}
use Rattle.cmc_pass.specs.declared.value.Value.TheVariants as values
use Rattle.cmc_policies.specs.Renewal.{IsCertificateTime}
use Rattle.cmc_rules.specs.declared.effect.Effect.{Effect}
use Rattle.cmc_rules.specs.declared.effect.Effect.TheVariants as effects
use Rattle.cmc_rules.specs.declared.progress.OpenPass.{OpenPass}
use Rattle.cmc_model.specs.Histories.{Setting, moment, objects}
use Rattle.cmc_rules.specs.Views.{views}
use Rattle.cmc_rules.specs.Passes.{open_pass, new_pass, stage_after}
use Rattle.cmc_rules.specs.Legality.{IsLegal}
use Rattle.cmc_rules.specs.Scripts.{scripted, step_at}
use Rattle.cmc_rules.specs.UserSteps.{call_of, call_or, effect_of, owed, Follows}
use Rattle.cmc_rules.proofs.Carrying.{over_call, over_ask, over_given, over_begin, over_end, over_stop}
use Rattle.cmc_setup.specs.Setups.{step_seconds, seconds_ticked}
use Rattle.cmc_safety.specs.Formed.{IsFormed}
use borrow.Author.Differences.{le-true}

-- ---- the ticks of the first steps

-- one step more
ticked_step : (script : List Step) (n : ℕ) (other : Step) → seconds_ticked (take (suc n) (other ∷ script)) ≡ step_seconds other + seconds_ticked (take n script)
ticked_step script n other = sum_by-cons step_seconds other (take n script)

ticked_later : (script : List Step) (n : ℕ) (other : Step) → seconds_ticked (take (n + 1) (other ∷ script)) ≡ step_seconds other + seconds_ticked (take n script)
ticked_later script n other = let more : n + 1 ≡ suc n = omega arith in ap (λ (m : ℕ). seconds_ticked (take m (other ∷ script))) more ∙ ticked_step script n other

ticked_next : (script : List Step) (n : ℕ) (step : Step) → slice_get script n ≡ Some step → seconds_ticked (take (n + 1) script) ≡ seconds_ticked (take n script) + step_seconds step
ticked_next [] n step is = absurd (cc is)
ticked_next (other ∷ script) zero step is = let same : other ≡ step = cc is in omega (arith, ap step_seconds same, ticked_later script zero other)
ticked_next (other ∷ script) (suc n) step is =
    let more : suc n ≡ n + 1 = omega arith in
    let there : seconds_ticked (take (suc n) script) ≡ seconds_ticked (take (n + 1) script) = ap (λ (m : ℕ). seconds_ticked (take m script)) more in
    omega (arith, ticked_next script n step is, ticked_later script (suc n) other, ticked_step script n other, there)

ticked_none : (n : ℕ) → seconds_ticked (take n []) ≡ 0
ticked_none zero = refl
ticked_none (suc n) = refl

ticked_more : (script : List Step) (n : ℕ) → seconds_ticked (take n script) ≤ seconds_ticked (take (n + 1) script)
ticked_more [] n = omega (arith, ticked_none n, ticked_none (n + 1))
ticked_more (step ∷ script) zero = omega arith
ticked_more (step ∷ script) (suc n) =
    let more : suc n ≡ n + 1 = omega arith in
    let there : seconds_ticked (take (suc n) script) ≡ seconds_ticked (take (n + 1) script) = ap (λ (m : ℕ). seconds_ticked (take m script)) more in
    omega (arith, ticked_more script n, ticked_later script (suc n) step, ticked_step script n step, there)

pub ticked_all : (script : List Step) (n : ℕ) → seconds_ticked (take n script) ≤ seconds_ticked script
ticked_all script n = sum_by-take-le step_seconds script n

-- ---- what they make of the moment

-- the moment lies within what the first n steps make of the first one
abbrev pub IsWithinTicks : ℤ → List Step → ℕ → ℤ → Type 0
IsWithinTicks first script n at = (first ≤ℤ at) × (at ≤ℤ (first +ℤ pos (seconds_ticked (take n script))))

within_more : (first : ℤ) (script : List Step) (n : ℕ) (at : ℤ) → IsWithinTicks first script n at → IsWithinTicks first script (n + 1) at
within_more first script n at within = (within.0, omega (arith, ints, within.1, ticked_more script n))

within_tick : (first : ℤ) (script : List Step) (n : ℕ) (at : ℤ) (seconds : ℕ) → slice_get script n ≡ Some (steps.Tick seconds)
    → IsWithinTicks first script n at → IsWithinTicks first script (n + 1) (at +ℤ pos seconds)
within_tick first script n at seconds is within =
    let more : seconds_ticked (take (n + 1) script) ≡ seconds_ticked (take n script) + seconds = ticked_next script n (steps.Tick seconds) is in
    (omega (arith, ints, within.0), omega (arith, ints, within.1, more))

-- the moment of a tick that is owed lies there too
abbrev IsTimely : ℤ → List Step → ℕ → Option Effect → Type 0
IsTimely first script n None = Unit {0}
IsTimely first script n (Some (effects.Call call)) = Unit {0}
IsTimely first script n (Some (effects.Tick now)) = IsWithinTicks first script n now
IsTimely first script n (Some (effects.Stop role)) = Unit {0}
IsTimely first script n (Some (effects.Start role at)) = Unit {0}

-- a call takes no time
timely_call : (first : ℤ) (script : List Step) (n : ℕ) (call : Option Call) → IsTimely first script n (call_or call None)
timely_call first script n None = tt
timely_call first script n (Some call) = tt

timely_effect : (s : Setting) (h : List Entry) (n : ℕ) (step : Step) → slice_get s.script n ≡ Some step → IsWithinTicks s.now s.script n (moment s h)
    → IsTimely s.now s.script (n + 1) (effect_of s h step)
unfolding call_of
timely_effect s h n (steps.Tick seconds) is within = within_tick s.now s.script n (moment s h) seconds is within
timely_effect s h n (steps.Stop role) is within = tt
timely_effect s h n (steps.Start role behind) is within = tt
timely_effect s h n other is within = timely_call s.now s.script (n + 1) (call_of (moment s h) (objects s h) other)

timely_step : (s : Setting) (h : List Entry) (n : ℕ) (step : Option Step) → slice_get s.script n ≡ step → IsWithinTicks s.now s.script n (moment s h)
    → IsTimely s.now s.script (n + 1) (option_and_then (effect_of s h) step)
timely_step s h n None is within = tt
timely_step s h n (Some step) is within = timely_effect s h n step is within

-- the moment and the tick that is owed, if one is
abbrev IsOnTime : Setting → List Entry → Type 0
IsOnTime s h = IsWithinTicks s.now s.script (scripted h) (moment s h) × IsTimely s.now s.script (scripted h) (owed s h)

on_time : (s : Setting) (h : List Entry) → Follows s h → IsOnTime s h
unfolding Follows
on_time s [] follows = ((omega (arith, ints), omega (arith, ints)), tt)
on_time s (Script step ∷ h) follows =
    let before = (on_time s h follows.1).0 in
    let place : scripted h ≡ step - 1 = omega (arith, follows.0.numbered) in (
      within_more s.now s.script (scripted h) (moment s h) before,
      timely_step s h (scripted h) (step_at s.script step) (ap (slice_get s.script) place) before,
    )
on_time s (Tick now ∷ h) follows = (subst (λ (e : Option Effect). IsTimely s.now s.script (scripted h) e) follows.0 (on_time s h follows.1).1, tt)
on_time s (other ∷ h) follows = ((on_time s h follows.1).0, tt)

-- the moment lies between the first one and what all ticks make of it
pub moments_within : (s : Setting) (h : List Entry) → Follows s h → (s.now ≤ℤ moment s h) × (moment s h ≤ℤ (s.now +ℤ pos (seconds_ticked s.script)))
moments_within s h follows =
    let within = (on_time s h follows).0 in
    (within.0, omega (arith, ints, within.1, ticked_all s.script (scripted h)))

-- no more steps are made than the script has
pub scripted_low : (s : Setting) (h : List Entry) → Follows s h → scripted h ≤ length s.script
unfolding Follows
scripted_low s [] follows = omega arith
scripted_low s (Script step ∷ h) follows = omega (arith, follows.0.numbered, follows.0.stands)
scripted_low s (Called User call reply ∷ h) follows = scripted_low s h follows.1
scripted_low s (Called (Pass pass) call reply ∷ h) follows = scripted_low s h follows.1
scripted_low s (other ∷ h) follows = scripted_low s h follows.1

-- ---- the time of a run

pub moment_in_run : (s : Setting) (h : List Entry) → IsFormed s → Follows s h → is_run_time (moment s h) ≡ true
moment_in_run s h formed follows = let within = moments_within s h follows in formed.times (moment s h) within.0 within.1

-- it lies in the years 1950 to 9999
pub in_years : (at : ℤ) → is_run_time at ≡ true → IsCertificateTime at
in_years at is =
    let holds = and_parts (int_le (neg_ℤ (pos 599616000)) at) (int_le at (pos 250246627200)) is in
    let low = le-true (neg_ℤ (pos 599616000)) at holds.0 in
    let high = le-true at (pos 250246627200) holds.1 in
    (omega (arith, ints, low), omega (arith, ints, high))

pub moment_in_years : (s : Setting) (h : List Entry) → IsFormed s → Follows s h → IsCertificateTime (moment s h)
moment_in_years s h formed follows = in_years (moment s h) (moment_in_run s h formed follows)

-- the pass began then
abbrev pub BeganInRun : OpenPass → Type 0
BeganInRun p = is_run_time p.since ≡ true

pub began_in_run : (s : Setting) (h : List Entry) (n : ℕ) → IsFormed s → IsLegal s h → Follows s h → IfSome (open_pass s h n) BeganInRun
unfolding IsLegal Follows
began_in_run s [] n formed legal follows = tt
began_in_run s (Called User call reply ∷ h) n formed legal follows = began_in_run s h n formed legal.1 follows.1
began_in_run s (Called (Pass pass) call reply ∷ h) n formed legal follows =
    over_call BeganInRun n (Pass pass) (stage_after s h call reply) (open_pass s h n) (λ p began. began) (began_in_run s h n formed legal.1 follows.1)
began_in_run s (Begin pass role key at now ∷ h) n formed legal follows =
    over_begin BeganInRun (n == pass) (new_pass role key (views s h role key) now) (open_pass s h n)
    (subst (λ (t : ℤ). is_run_time t ≡ true) (sym legal.0.present) (moment_in_run s h formed follows.1)) (began_in_run s h n formed legal.1 follows.1)
began_in_run s (Ask pass order ∷ h) n formed legal follows = over_ask BeganInRun n pass order (open_pass s h n) (λ p began. began) (began_in_run s h n formed legal.1 follows.1)
began_in_run s (Made pass key ∷ h) n formed legal follows = over_given BeganInRun n pass (values.Made key) (open_pass s h n) (λ p began. began) (began_in_run s h n formed legal.1 follows.1)
began_in_run s (Signed pass signature ∷ h) n formed legal follows = over_given BeganInRun n pass (values.Signed signature) (open_pass s h n) (λ p began. began) (began_in_run s h n formed legal.1 follows.1)
began_in_run s (Answered pass answer ∷ h) n formed legal follows = over_given BeganInRun n pass (values.Answered answer) (open_pass s h n) (λ p began. began) (began_in_run s h n formed legal.1 follows.1)
began_in_run s (Judged pass approved ∷ h) n formed legal follows = over_given BeganInRun n pass (values.Judged approved) (open_pass s h n) (λ p began. began) (began_in_run s h n formed legal.1 follows.1)
began_in_run s (End pass cause ∷ h) n formed legal follows = over_end BeganInRun (n == pass) (open_pass s h n) (began_in_run s h n formed legal.1 follows.1)
began_in_run s (Stop role ∷ h) n formed legal follows = over_stop BeganInRun role (open_pass s h n) (began_in_run s h n formed legal.1 follows.1)
began_in_run s (other ∷ h) n formed legal follows = began_in_run s h n formed legal.1 follows.1
