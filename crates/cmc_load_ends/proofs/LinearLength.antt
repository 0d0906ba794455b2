-- A plain run of a load is no longer than its steps and its writes allow, so many for each.
use Rattle.std.proofs.Common.{◌≡◌, ℕ, ◌+◌, ◌*◌, ◌<◌, ◌≤◌, ◌^◌, List, [], ◌∷◌, length, true, Some, refl, arith}
use Rattle.std.proofs.lemmas.Bool.{and_parts}
use Rattle.std.specs.Prelude.{slice_get, ◌-◌, zero, suc}
use Rattle.cmc_objects.specs.declared.object.Object.TheVariants.{Cert}
use Rattle.cmc_objects.specs.declared.entry.Entry.{Entry}
use Rattle.cmc_objects.specs.declared.entry.Step.{Step}
use Rattle.cmc_objects.specs.declared.entry.Step.TheVariants as steps
use Rattle.cmc_model.specs.Histories.{Setting}
use Rattle.cmc_rules.specs.Scripts.{scripted}
use Rattle.cmc_world.specs.Histories.{IsPlain}
use Rattle.cmc_world.proofs.Determined.{is_run}
use Rattle.cmc_safety.specs.Formed.{IsFormed}
use Rattle.cmc_run_laws.specs.Begins.{count_of}
use Rattle.cmc_run_laws.specs.Calm.{is_calm, lets_be}
use Rattle.cmc_run_laws.specs.Lengths.{is_begin, is_delivery, is_effect, is_of_pass}
use Rattle.cmc_run_laws.proofs.RunningAlone.{NamesLaw}
use Rattle.cmc_run_laws.proofs.ShortRuns.{by_sorts, effects_few, owes}
use Rattle.cmc_rules.specs.UserSteps.{owed}
use Rattle.cmc_load_laws.specs.Loads.{IsLoad, are_load_steps, is_load_step}
use Rattle.cmc_load_laws.proofs.LoadHistories.{played}
use Rattle.cmc_load_ends.specs.LoadLengths.{HasLinearLength, is_role_write, is_user_write}
use Rattle.cmc_load_ends.proofs.FewTellings.{few_tellings}
use Rattle.cmc_load_ends.proofs.PaidRuns.{entries_paid}
use Rattle.cmc_load_ends.proofs.PlainEntries.{HasLoadSteps, IsLoadStep, all_plain}
use Rattle.cmc_load_ends.proofs.BegunWaits.{idle_begins}
use Rattle.cmc_load_ends.proofs.Waiting.{few_idle}

-- ---- the steps of a load

load_lets_be : (step : Step) → is_load_step step ≡ true → lets_be step ≡ true
load_lets_be (steps.Hold role kind) is = absurd (cc is)
load_lets_be (steps.Until role kind writes) is = absurd (cc is)
load_lets_be other is = refl

pub calm_steps : (script : List Step) → are_load_steps script ≡ true → is_calm script ≡ true
calm_steps [] is = refl
calm_steps (step ∷ script) is =
    let both = and_parts (is_load_step step) (are_load_steps script) is in
    rw (load_lets_be step both.0, calm_steps script both.1) refl

of_load : (step : Step) → is_load_step step ≡ true → IsLoadStep (Some step)
of_load (steps.Apply (Cert c) version) is = tt
of_load (steps.Tick seconds) is = tt
of_load steps.Settle is = tt
of_load other is = absurd (cc is)

each_of_load : (script : List Step) (i : ℕ) → are_load_steps script ≡ true → IsLoadStep (slice_get script i)
each_of_load [] i is = tt
each_of_load (step ∷ script) zero is = of_load step (and_parts (is_load_step step) (are_load_steps script) is).0
each_of_load (step ∷ script) (suc i) is = each_of_load script i (and_parts (is_load_step step) (are_load_steps script) is).1

pub load_steps : (s : Setting) → are_load_steps s.script ≡ true → HasLoadSteps s
load_steps s is number = each_of_load s.script (number - 1) is

-- ---- the sum

summed : (n steps effects owes told begins rest idle u r : ℕ) → n ≡ steps + effects + told + begins + rest → effects + owes ≤ steps → told ≤ 7 * r + 6 * u → begins + rest ≤ 2 * idle + (5 * r + 3) → idle ≤ 8 * r + 6 * u
    → n ≤ (steps + steps) + 18 * u + 28 * r + 3
summed n steps effects owes told begins rest idle u r is few seldom paid low = omega (arith, is, few, seldom, paid, low)

pub linear_length : NamesLaw → (s : Setting) (h : List Entry) → IsFormed s → IsLoad s → s.events < 2 ^ 64 → IsPlain s h → HasLinearLength h
linear_length names s h formed load room plain =
    let run = is_run s h plain in
    let o = played s h run in
    let all = all_plain names s h (load_steps s load.steps) (calm_steps s.script load.steps) room plain in
    summed (length h) (scripted h) (count_of is_effect h) (owes (owed s h)) (count_of is_delivery h) (count_of is_begin h) (count_of is_of_pass h) (idle_begins s h) (count_of is_user_write h) (count_of is_role_write h)
    (by_sorts h) (effects_few s h run.follows) (few_tellings s h all) (entries_paid s h formed load.faults o all) (few_idle s h load.free o all)
