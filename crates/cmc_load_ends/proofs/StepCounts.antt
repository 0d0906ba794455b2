-- How often users write and time goes on: no more often than steps of the script say so.
use Rattle.std.proofs.Common.{◌≡◌, ◌≤◌, ◌+◌, ◌-◌, ◌∷◌, ℕ, zero, suc, List, [], Option, Some, None, Bool, true, false, refl, ap, subst, arith}
use Rattle.std.specs.Prelude.{option_and_then, slice_get, if◌then◌else◌}
use Rattle.cmc_objects.specs.declared.object.Object.TheVariants.{Cert}
use Rattle.cmc_objects.specs.declared.entry.Entry.{Entry}
use Rattle.cmc_objects.specs.declared.entry.Entry.TheVariants.{Script, Call as Called, Tick}
use Rattle.cmc_objects.specs.declared.entry.Step.{Step}
use Rattle.cmc_objects.specs.declared.entry.Step.TheVariants as steps
use Rattle.cmc_objects.specs.declared.entry.Who.TheVariants.{User}
use Rattle.cmc_model.specs.Histories.{Setting}
use Rattle.cmc_model.specs.Replies.{is_accepted}
use Rattle.cmc_rules.specs.declared.effect.Effect.{Effect}
use Rattle.cmc_rules.specs.declared.effect.Effect.TheVariants as effects
use Rattle.cmc_rules.specs.Scripts.{scripted, step_at}
use Rattle.cmc_rules.specs.UserSteps.{Follows, call_of, effect_of, owed}
use Rattle.cmc_run_laws.specs.Begins.{count_of}
use Rattle.cmc_load_ends.specs.LoadLengths.{is_user_write}
use Rattle.cmc_load_ends.proofs.PlainEntries.{HasLoadSteps, IsLoadStep}

-- time goes on
abbrev pub is_tick_entry : Entry → Bool
is_tick_entry (Tick now) = true
is_tick_entry other = false

-- ---- counts of steps

abbrev pub is_apply_step : Step → Bool
is_apply_step (steps.Apply object version) = true
is_apply_step other = false

abbrev pub is_tick_step : Step → Bool
is_tick_step (steps.Tick seconds) = true
is_tick_step other = false

abbrev one_if : Bool → ℕ
one_if true = 1
one_if false = 0

abbrev one_at : (Step → Bool) → Option Step → ℕ
one_at p None = 0
one_at p (Some step) = one_if (p step)

-- how many of the first k steps are so, and of all
abbrev pub counted_first : (Step → Bool) → ℕ → List Step → ℕ
counted_first p zero xs = 0
counted_first p (suc k) [] = 0
counted_first p (suc k) (x ∷ xs) = one_if (p x) + counted_first p k xs

abbrev pub counted_steps : (Step → Bool) → List Step → ℕ
counted_steps p [] = 0
counted_steps p (x ∷ xs) = one_if (p x) + counted_steps p xs

one_more : (p : Step → Bool) (k : ℕ) (xs : List Step) → counted_first p (suc k) xs ≡ counted_first p k xs + one_at p (slice_get xs k)
one_more p zero [] = refl
one_more p zero (x ∷ xs) = omega arith
one_more p (suc k) [] = refl
one_more p (suc k) (x ∷ xs) = let rest = one_more p k xs in omega (arith, rest)

next_counted : (p : Step → Bool) (k : ℕ) (xs : List Step) → counted_first p (k + 1) xs ≡ counted_first p k xs + one_at p (slice_get xs k)
next_counted p k xs =
    let same : suc k ≡ k + 1 = omega arith in
    subst (λ (n : ℕ). counted_first p n xs ≡ counted_first p k xs + one_at p (slice_get xs k)) same (one_more p k xs)

pub all_counted : (p : Step → Bool) (k : ℕ) (xs : List Step) → counted_first p k xs ≤ counted_steps p xs
all_counted p zero xs = omega arith
all_counted p (suc k) [] = omega arith
all_counted p (suc k) (x ∷ xs) = let rest = all_counted p k xs in omega (arith, rest)

-- ---- what a step brings about

abbrev owes_call : Option Effect → ℕ
owes_call (Some (effects.Call call)) = 1
owes_call other = 0

abbrev owes_tick : Option Effect → ℕ
owes_tick (Some (effects.Tick now)) = 1
owes_tick other = 0

call_owed : (s : Setting) (h : List Entry) (step : Option Step) → IsLoadStep step → owes_call (option_and_then (effect_of s h) step) ≤ one_at is_apply_step step
unfolding call_of
call_owed s h None load = omega arith
call_owed s h (Some (steps.Apply (Cert c) version)) load = omega arith
call_owed s h (Some (steps.Tick seconds)) load = omega arith
call_owed s h (Some steps.Settle) load = omega arith
call_owed s h (Some other) load = absurd load

tick_owed : (s : Setting) (h : List Entry) (step : Option Step) → IsLoadStep step → owes_tick (option_and_then (effect_of s h) step) ≤ one_at is_tick_step step
unfolding call_of
tick_owed s h None load = omega arith
tick_owed s h (Some (steps.Apply (Cert c) version)) load = omega arith
tick_owed s h (Some (steps.Tick seconds)) load = omega arith
tick_owed s h (Some steps.Settle) load = omega arith
tick_owed s h (Some other) load = absurd load

more : (n owes owed_before k next one : ℕ) → n + owed_before ≤ k → next ≡ k + one → owes ≤ one → n + owes ≤ next
more n owes owed_before k next one low is few = omega (arith, low, is, few)

step_before : (step n : ℕ) → step ≡ n + 1 → step - 1 ≡ n
step_before step n is = omega (arith, is)

paid_by : (b : Bool) (n owes k : ℕ) → n + owes ≤ k → owes ≡ 1 → (if b then n + 1 else n) + 0 ≤ k
paid_by true n owes k low one = omega (arith, low, one)
paid_by false n owes k low one = omega (arith, low)

less : (n owes k : ℕ) → n + owes ≤ k → n + 0 ≤ k
less n owes k low = omega (arith, low)

users_by_steps : (s : Setting) (h : List Entry) → HasLoadSteps s → Follows s h → count_of is_user_write h + owes_call (owed s h) ≤ counted_first is_apply_step (scripted h) s.script
unfolding Follows
users_by_steps s [] load follows = omega arith
users_by_steps s (Script step ∷ h) load follows =
    let at : step_at s.script step ≡ slice_get s.script (scripted h) = ap (slice_get s.script) (step_before step (scripted h) follows.0.numbered) in
    let few : owes_call (option_and_then (effect_of s h) (step_at s.script step)) ≤ one_at is_apply_step (slice_get s.script (scripted h)) =
    subst (λ (x : Option Step). owes_call (option_and_then (effect_of s h) (step_at s.script step)) ≤ one_at is_apply_step x) at (call_owed s h (step_at s.script step) (load step)) in
    more (count_of is_user_write h) (owes_call (option_and_then (effect_of s h) (step_at s.script step))) (owes_call (owed s h)) (counted_first is_apply_step (scripted h) s.script) (counted_first is_apply_step (scripted h + 1) s.script)
    (one_at is_apply_step (slice_get s.script (scripted h))) (users_by_steps s h load follows.1) (next_counted is_apply_step (scripted h) s.script) few
users_by_steps s (Called User call reply ∷ h) load follows =
    paid_by (is_accepted reply) (count_of is_user_write h) (owes_call (owed s h)) (counted_first is_apply_step (scripted h) s.script) (users_by_steps s h load follows.1) (ap owes_call follows.0)
users_by_steps s (other ∷ h) load follows = less (count_of is_user_write h) (owes_call (owed s h)) (counted_first is_apply_step (scripted h) s.script) (users_by_steps s h load follows.1)

ticks_by_steps : (s : Setting) (h : List Entry) → HasLoadSteps s → Follows s h → count_of is_tick_entry h + owes_tick (owed s h) ≤ counted_first is_tick_step (scripted h) s.script
unfolding Follows
ticks_by_steps s [] load follows = omega arith
ticks_by_steps s (Script step ∷ h) load follows =
    let at : step_at s.script step ≡ slice_get s.script (scripted h) = ap (slice_get s.script) (step_before step (scripted h) follows.0.numbered) in
    let few : owes_tick (option_and_then (effect_of s h) (step_at s.script step)) ≤ one_at is_tick_step (slice_get s.script (scripted h)) =
    subst (λ (x : Option Step). owes_tick (option_and_then (effect_of s h) (step_at s.script step)) ≤ one_at is_tick_step x) at (tick_owed s h (step_at s.script step) (load step)) in
    more (count_of is_tick_entry h) (owes_tick (option_and_then (effect_of s h) (step_at s.script step))) (owes_tick (owed s h)) (counted_first is_tick_step (scripted h) s.script) (counted_first is_tick_step (scripted h + 1) s.script)
    (one_at is_tick_step (slice_get s.script (scripted h))) (ticks_by_steps s h load follows.1) (next_counted is_tick_step (scripted h) s.script) few
ticks_by_steps s (Tick now ∷ h) load follows =
    paid_by true (count_of is_tick_entry h) (owes_tick (owed s h)) (counted_first is_tick_step (scripted h) s.script) (ticks_by_steps s h load follows.1) (ap owes_tick follows.0)
ticks_by_steps s (other ∷ h) load follows = less (count_of is_tick_entry h) (owes_tick (owed s h)) (counted_first is_tick_step (scripted h) s.script) (ticks_by_steps s h load follows.1)

low_by : (n owes k all : ℕ) → n + owes ≤ k → k ≤ all → n ≤ all
low_by n owes k all low few = omega (arith, low, few)

pub users_few : (s : Setting) (h : List Entry) → HasLoadSteps s → Follows s h → count_of is_user_write h ≤ counted_steps is_apply_step s.script
users_few s h load follows =
    low_by (count_of is_user_write h) (owes_call (owed s h)) (counted_first is_apply_step (scripted h) s.script) (counted_steps is_apply_step s.script) (users_by_steps s h load follows) (all_counted is_apply_step (scripted h) s.script)

pub ticks_few : (s : Setting) (h : List Entry) → HasLoadSteps s → Follows s h → count_of is_tick_entry h ≤ counted_steps is_tick_step s.script
ticks_few s h load follows =
    low_by (count_of is_tick_entry h) (owes_tick (owed s h)) (counted_first is_tick_step (scripted h) s.script) (counted_steps is_tick_step s.script) (ticks_by_steps s h load follows) (all_counted is_tick_step (scripted h) s.script)
