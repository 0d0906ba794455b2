-- Which steps of the script were made, and which informers they hold.
use Rattle.std.specs.Prelude.{ℕ, ◌+◌, ◌-◌, Bool, true, false, ◌||◌, List, [], ◌∷◌, Option, Some, None, slice_get, if◌then◌else◌}
use Rattle.cmc_meta.specs.declared.key.Kind.{Kind}
use Rattle.cmc_meta.specs.declared.key.Kind.TheVariants.{Certificate, CertificateRequest, Secret}
use Rattle.cmc_objects.specs.declared.role.Role.{Role}
use Rattle.cmc_objects.specs.declared.entry.Step.{Step}
use Rattle.cmc_objects.specs.declared.entry.Step.TheVariants as steps
use Rattle.cmc_objects.specs.declared.entry.Entry.{Entry}
use Rattle.cmc_objects.specs.declared.entry.Entry.TheVariants.{Script}
use Rattle.cmc_model.specs.Histories.{Setting}
use Rattle.cmc_rules.specs.Positions.{is_informer}

abbrev pub scripted_with : ℕ → Entry → ℕ
scripted_with n (Script step) = n + 1
scripted_with n other = n

-- how many steps of the script were made
abbrev pub scripted : List Entry → ℕ
scripted [] = 0
scripted (e ∷ h) = scripted_with (scripted h) e

-- the step of this number, from 1
abbrev pub step_at : List Step → ℕ → Option Step
step_at script number = slice_get script (number - 1)

abbrev pub held_by : Role → Kind → Bool → Option Step → Bool
held_by r k before None = before
held_by r k before (Some (steps.Hold role kind)) = if is_informer role kind r k then true else before
held_by r k before (Some (steps.Release role kind)) = if is_informer role kind r k then false else before
held_by r k before (Some other) = before

abbrev pub held_with : List Step → Role → Kind → Bool → Entry → Bool
held_with script r k before (Script step) = held_by r k before (step_at script step)
held_with script r k before other = before

-- whether the informer is held: no step has released it since the last one that holds it
abbrev pub held : Setting → List Entry → Role → Kind → Bool
held s [] r k = false
held s (e ∷ h) r k = held_with s.script r k (held s h r k) e

abbrev pub has_held : Setting → List Entry → Role → Bool
has_held s h role = held s h role Certificate || (held s h role CertificateRequest || held s h role Secret)
