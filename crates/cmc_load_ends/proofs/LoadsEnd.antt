-- The plain run of a generated load does not fill its history.
use Rattle.std.proofs.Common.{◌≡◌, ◌≤◌, ◌<◌, ◌+◌, ◌*◌, ◌∷◌, ◌++◌, ℕ, zero, suc, List, [], length, Bool, refl, arith}
use Rattle.cmc_objects.specs.declared.entry.Entry.{Entry}
use Rattle.cmc_objects.specs.declared.entry.Step.{Step}
use Rattle.cmc_model.specs.Histories.{Setting}
use Rattle.cmc_rules.specs.Scripts.{scripted}
use Rattle.cmc_kernel.specs.Kept.{setting_of}
use Rattle.cmc_kernel.proofs.Starting.{formed}
use Rattle.cmc_moves.proofs.Sounds.{each_sound}
use Rattle.cmc_world.specs.Histories.{IsFull, IsPlain, entries_for}
use Rattle.cmc_world.proofs.Determined.{is_run}
use Rattle.cmc_safety.specs.Formed.{IsFormed}
use Rattle.cmc_safety.proofs.Moments.{scripted_low}
use Rattle.cmc_scenario.specs.Loads.{load_setup, load_step, loads, rests}
use Rattle.cmc_scenario.proofs.LoadLaws.{is_setup}
use Rattle.cmc_run_laws.specs.Begins.{count_of}
use Rattle.cmc_run_laws.proofs.RunningAlone.{NamesLaw}
use Rattle.cmc_load_laws.specs.Loads.{HasAllRoles, IsLoad}
use Rattle.cmc_load_laws.proofs.LoadHistories.{played, write_for_one}
use Rattle.cmc_load_ends.specs.LoadLengths.{is_role_write, is_user_write}
use Rattle.cmc_load_ends.specs.LoadWrites.{HasFewRoleWrites}
use Rattle.cmc_load_ends.proofs.FewRoleWrites.{few_role_writes}
use Rattle.cmc_load_ends.proofs.EachWriteLowers.{EachLowers, role_writes_lower}
use Rattle.cmc_load_ends.proofs.LoadRoom.{script_length, small, two_at_most}
use Rattle.cmc_load_ends.proofs.GeneratedLoads.{generated_is_load, generated_roles}
use Rattle.cmc_load_ends.proofs.LinearLength.{calm_steps, linear_length, load_steps}
use Rattle.cmc_load_ends.proofs.OneTick.{few_with_one_tick}
use Rattle.cmc_load_ends.proofs.PlainEntries.{HasLoadSteps, all_plain}
use Rattle.cmc_load_ends.proofs.StepCounts.{counted_steps, is_apply_step, is_tick_entry, is_tick_step, ticks_few, users_few}

-- ---- any load

pub role_writes_few : NamesLaw → EachLowers → (s : Setting) (h : List Entry) → IsFormed s → IsLoad s → HasAllRoles s → IsPlain s h → HasFewRoleWrites s h
role_writes_few names law s h form load roles plain =
    few_role_writes s h load.free (played s h (is_run s h plain)) (role_writes_lower law s h form load roles (small s.events form.short) plain) (all_plain names s h (load_steps s load.steps) (calm_steps s.script load.steps) (small s.events form.short) plain)

-- ---- the steps of a generated load

counted_both : (p : Step → Bool) (xs ys : List Step) → counted_steps p (xs ++ ys) ≡ counted_steps p xs + counted_steps p ys
counted_both p [] ys = omega arith
counted_both p (x ∷ xs) ys = let rest = counted_both p xs ys in omega (arith, rest)

applied_loads : (n : ℕ) → counted_steps is_apply_step (loads n) ≡ n
applied_loads zero = refl
applied_loads (suc n) = let both = counted_both is_apply_step (loads n) (load_step (n + 1) ∷ []) in let rest = applied_loads n in omega (arith, both, rest)

no_ticks : (n : ℕ) → counted_steps is_tick_step (loads n) ≡ 0
no_ticks zero = refl
no_ticks (suc n) = let both = counted_both is_tick_step (loads n) (load_step (n + 1) ∷ []) in let rest = no_ticks n in omega (arith, both, rest)

applies_of : (n : ℕ) → counted_steps is_apply_step (loads n ++ rests) ≡ n
applies_of n = let both = counted_both is_apply_step (loads n) rests in let first = applied_loads n in omega (arith, both, first)

ticks_of : (n : ℕ) → counted_steps is_tick_step (loads n ++ rests) ≡ 1
ticks_of n = let both = counted_both is_tick_step (loads n) rests in let first = no_ticks n in omega (arith, both, first)

-- ---- the law

room_left : (count n steps users roles more : ℕ) → n ≤ (steps + steps) + 18 * users + 28 * roles + 3 → users ≤ count → steps ≤ count + 3 → roles ≤ 35 * users → more ≤ 2 → 1000 * count + 1000 < n + more → ⊥
room_left count n steps users roles more low few short rare two full = omega (arith, low, few, short, rare, two, full)

pub loads_end : NamesLaw → EachLowers → (count : ℕ) (h : List Entry) → 1 ≤ count → count ≤ 200 → IsPlain (setting_of (load_setup count)) h → IsFull (setting_of (load_setup count)) h → ⊥
loads_end names law count h some few plain full =
    let s : Setting = setting_of (load_setup count) in
    let form : IsFormed s = formed (load_setup count) (is_setup count some few) in
    let load : IsLoad s = generated_is_load count in
    let run = is_run s h plain in
    let o = played s h run in
    let fits = small s.events form.short in
    let steps : HasLoadSteps s = load_steps s load.steps in
    let lowers = role_writes_lower law s h form load (generated_roles count) fits plain in
    let all = all_plain names s h steps (calm_steps s.script load.steps) fits plain in
    let users = users_few s h steps run.follows in
    let applies = applies_of count in
    let ticks = ticks_few s h steps run.follows in
    let ticked = ticks_of count in
    let once : count_of is_tick_entry h ≤ 1 = omega (arith, ticks, ticked) in
    let short = scripted_low s h run.follows in
    let script = script_length count in
    room_left count (length h) (scripted h) (count_of is_user_write h) (count_of is_role_write h) (entries_for s h full.move) (linear_length names s h form load fits plain) (omega (arith, users, applies))
    (omega (arith, short, script)) (few_with_one_tick s h load.free o (write_for_one each_sound s h load.free o) lowers all once) (two_at_most s h full.move) full.spent
