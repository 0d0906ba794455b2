-- In a calm script nothing is held, and no step is ready while a pass is open.
use Rattle.std.proofs.Common.{◌≡◌, ℕ, zero, suc, ◌+◌, ◌-◌, ◌<◌, List, [], ◌∷◌, length, Option, Some, None, Bool, true, false, refl, subst}
use Rattle.std.proofs.lemmas.Bool.{and_parts}
use Rattle.std.specs.Prelude.{IfSome, slice_get, if◌then◌else◌}
use Rattle.cmc_meta.specs.declared.key.Kind.{Kind}
use Rattle.cmc_objects.specs.declared.role.Role.{Role}
use Rattle.cmc_objects.specs.declared.entry.Step.{Step}
use Rattle.cmc_objects.specs.declared.entry.Step.TheVariants as steps
use Rattle.cmc_objects.specs.declared.entry.Entry.{Entry}
use Rattle.cmc_objects.specs.declared.entry.Entry.TheVariants.{Script}
use Rattle.cmc_model.specs.Histories.{Setting}
use Rattle.cmc_rules.specs.Positions.{is_informer}
use Rattle.cmc_rules.specs.Scripts.{scripted, step_at, held, held_by}
use Rattle.cmc_rules.specs.UserSteps.{IsReady}
use Rattle.cmc_rules.specs.Rest.{IsAtRest}
use Rattle.cmc_kernel.specs.Plain.{HasNoScript}
use Rattle.cmc_run_laws.specs.Calm.{lets_be, is_calm}

abbrev LetsBe : Step → Type 0
LetsBe step = lets_be step ≡ true

each_lets_be : (script : List Step) (i : ℕ) → is_calm script ≡ true → IfSome (slice_get script i) LetsBe
each_lets_be [] i calm = tt
each_lets_be (step ∷ script) zero calm = (and_parts (lets_be step) (is_calm script) calm).0
each_lets_be (step ∷ script) (suc i) calm = each_lets_be script i (and_parts (lets_be step) (is_calm script) calm).1

-- ---- nothing is held

free_by : (r : Role) (k : Kind) (before : Bool) (step : Option Step) → IfSome step LetsBe → before ≡ false → held_by r k before step ≡ false
free_by r k before None calm free = free
free_by r k before (Some (steps.Hold role kind)) calm free = absurd (cc calm)
free_by r k before (Some (steps.Release role kind)) calm free = either (is_informer role kind r k) where
  either : (b : Bool) → (if b then false else before) ≡ false
  either true = refl
  either false = free
free_by r k before (Some other) calm free = free

pub none_is_held : (s : Setting) (h : List Entry) (role : Role) (kind : Kind) → is_calm s.script ≡ true → held s h role kind ≡ false
none_is_held s [] role kind calm = refl
none_is_held s (Script step ∷ h) role kind calm =
    free_by role kind (held s h role kind) (step_at s.script step) (each_lets_be s.script (step - 1) calm) (none_is_held s h role kind calm)
none_is_held s (other ∷ h) role kind calm = none_is_held s h role kind calm

-- ---- no step is ready while a pass is open

ready_before : (s : Setting) (h k : List Entry) (step : Option Step) → IfSome step LetsBe → (IsAtRest s k → ⊥) → IsReady s k step → IsReady s h step
ready_before s h k None calm busy ready = ready
ready_before s h k (Some (steps.Apply object version)) calm busy ready = tt
ready_before s h k (Some (steps.Delete key version)) calm busy ready = tt
ready_before s h k (Some (steps.Approve certificate revision)) calm busy ready = tt
ready_before s h k (Some (steps.Deny certificate revision)) calm busy ready = tt
ready_before s h k (Some (steps.Answer certificate revision row)) calm busy ready = tt
ready_before s h k (Some (steps.Renew certificate)) calm busy ready = tt
ready_before s h k (Some (steps.Tick seconds)) calm busy ready = tt
ready_before s h k (Some (steps.Stop role)) calm busy ready = tt
ready_before s h k (Some (steps.Start role behind)) calm busy ready = tt
ready_before s h k (Some (steps.Hold role kind)) calm busy ready = tt
ready_before s h k (Some (steps.Release role kind)) calm busy ready = tt
ready_before s h k (Some (steps.Until role kind writes)) calm busy ready = absurd (cc calm)
ready_before s h k (Some steps.Settle) calm busy ready = absurd (busy ready)

-- where no step was ready, and none was made since, none is ready while something is left to do
pub none_is_ready : (s : Setting) (h k : List Entry) → is_calm s.script ≡ true → scripted k ≡ scripted h → (IsAtRest s k → ⊥) → HasNoScript s h → HasNoScript s k
none_is_ready s h k calm same busy none step =
    let left : scripted h < length s.script = subst (λ (n : ℕ). n < length s.script) same step.left in
    let ready : IsReady s k (step_at s.script (scripted h + 1)) = subst (λ (n : ℕ). IsReady s k (step_at s.script (n + 1))) same step.ready in
    none (record {
      left = left;
      ready = ready_before s h k (step_at s.script (scripted h + 1)) (each_lets_be s.script (scripted h + 1 - 1) calm) busy ready;
    })
