-- What the script waits for, and when the run is finished.
use Rattle.std.proofs.Common.{◌≡◌, ◌⊎◌, ◌+◌, ◌-◌, ◌<◌, ◌≤◌, ℕ, List, length, Option, Some, None, Bool, refl, sym, subst, inl, inr, arith, get_or}
use Rattle.std.proofs.lemmas.Option.{slice_get_cases}
use Rattle.std.specs.Prelude.{◌↔◌, IsTrue, slice_get}
use Rattle.cmc_objects.specs.declared.entry.Entry.{Entry}
use Rattle.cmc_objects.specs.declared.entry.Step.{Step}
use Rattle.cmc_model.specs.Histories.{Setting}
use Rattle.cmc_rules.specs.UserSteps.{IsReady}
use Rattle.cmc_rules.specs.Rest.{IsAtRest}
use Rattle.cmc_rules.specs.Scripts.{scripted, step_at}
use Rattle.cmc_world.specs.declared.scripts.Awaits.{Awaits}
use Rattle.cmc_world.specs.declared.scripts.Awaits.TheVariants.{Rest}
use Rattle.cmc_kernel.specs.Plain.{IsStepReady, HasNoScript}
use Rattle.cmc_world.specs.Searches.{IsAwaiting}

-- ---- one step

-- ---- the next step

step_left : (s : Setting) (i : ℕ) (x : Step) → slice_get s.script i ≡ Some x
    → ((y : Step) × (i < length s.script) × (slice_get s.script i ≡ Some y) × (get_or s.script i y ≡ y)) ⊎ ((length s.script ≤ i) × (slice_get s.script i ≡ None)) → i < length s.script
step_left s i x is (inl found) = found.1
step_left s i x is (inr beyond) = let none = beyond.1 in absurd (cc (is, none))

ready_by : (s : Setting) (h : List Entry) (step : Step) → step_at s.script (scripted h + 1) ≡ Some step → IsReady s h (Some step) ↔ IsStepReady s h
ready_by s h step is = (
  λ on. record {
    left = let i : ℕ = scripted h + 1 - 1 in let low = step_left s i step is (slice_get_cases s.script i).1 in omega (arith, low);
    ready = subst (IsReady s h) (sym is) on;
  },
  λ ready. subst (IsReady s h) is ready.ready,
)

step_beyond : (s : Setting) (i : ℕ) → slice_get s.script i ≡ None
    → ((y : Step) × (i < length s.script) × (slice_get s.script i ≡ Some y) × (get_or s.script i y ≡ y)) ⊎ ((length s.script ≤ i) × (slice_get s.script i ≡ None)) → length s.script ≤ i
step_beyond s i is (inl found) = let some = found.2 in absurd (cc (is, some))
step_beyond s i is (inr beyond) = beyond.0

pub none_left : (s : Setting) (h : List Entry) → step_at s.script (scripted h + 1) ≡ None → HasNoScript s h
none_left s h is ready = let i : ℕ = scripted h + 1 - 1 in let low = step_beyond s i is (slice_get_cases s.script i).1 in let left = ready.left in absurd (omega (arith, low, left))

-- ---- whether it is ready

ready_step : (s : Setting) (h : List Entry) (next : Option Step) → step_at s.script (scripted h + 1) ≡ next → IsReady s h next → IsStepReady s h
ready_step s h None is ready = absurd ready
ready_step s h (Some step) is ready = (ready_by s h step is).0 ready

-- a test that tells whether a step is left and ready tells whether the next one is ready
pub ready_next : (s : Setting) (h : List Entry) (b : Bool) → (IsTrue b ↔ IsStepReady s h) → IsTrue b ↔ IsReady s h (step_at s.script (scripted h + 1))
ready_next s h b test = (λ on. (test.0 on).ready, λ ready. test.1 (ready_step s h (step_at s.script (scripted h + 1)) refl ready))

pub ready_at_rest : (s : Setting) (h : List Entry) (a : Awaits) (b : Bool) → IsAwaiting s h a → a ≡ Rest → (IsTrue b ↔ IsAtRest s h) → IsTrue b ↔ IsStepReady s h
ready_at_rest s h a b waits is rest = let w = subst (IsAwaiting s h) is waits in ((λ on. w.0 (rest.0 on)), (λ ready. rest.1 (w.1 ready)))
