-- Steps that may be made when their turn comes make an orderly script that ends in time.
use Rattle.std.proofs.Common.{◌≡◌, ℕ, ◌+◌, Bool, true, false, List, [], ◌∷◌, refl, arith}
use Rattle.std.specs.Prelude.{◌&&◌, ℤ, pos, ◌+ℤ◌, ◌≤ℤ◌, int_le}
use Rattle.std.proofs.lemmas.Int.{ints}
use Rattle.std.proofs.lemmas.List.Sums.{sum_by-cons}
use Rattle.cmc_objects.specs.declared.entry.Step.{Step}
use Rattle.cmc_setup.specs.Setups.{IsOrderlyFrom, switch_of, step_seconds, seconds_ticked, last_moment}
use Rattle.cmc_setup.specs.Holds.{AreHeldInTurn, grip_of, may_grip}
use Rattle.cmc_setup.specs.Stages.{Stage, AreInTurn, is_in_turn, may_switch, moment_after, stage_after_step}
use Rattle.cmc_setup.proofs.Orderly.{in_turn}

all_three : (a b c : Bool) → (a && (b && c)) ≡ true → (a ≡ true) × ((b ≡ true) × (c ≡ true))
all_three true true true is = (refl, (refl, refl))
all_three true true false is = absurd (cc)
all_three true false c is = absurd (cc)
all_three false b c is = absurd (cc)

parts : (stage : Stage) (step : Step) → is_in_turn stage step ≡ true
    → (may_switch stage.running (switch_of step) ≡ true) × ((may_grip stage.held (grip_of step) ≡ true) × (int_le (moment_after stage.moment step) last_moment ≡ true))
parts stage step is = all_three (may_switch stage.running (switch_of step)) (may_grip stage.held (grip_of step)) (int_le (moment_after stage.moment step) last_moment) is

pub orderly : (stage : Stage) (steps : List Step) → AreInTurn stage steps → IsOrderlyFrom stage.running steps
orderly stage [] turns = tt
orderly stage (step ∷ rest) turns = (in_turn stage.running (switch_of step) (parts stage step turns.0).0, orderly (stage_after_step stage step) rest turns.1)

pub held : (stage : Stage) (steps : List Step) → AreInTurn stage steps → AreHeldInTurn stage.held steps
held stage [] turns = tt
held stage (step ∷ rest) turns = ((parts stage step turns.0).1.0, held (stage_after_step stage step) rest turns.1)

later_sum : (m : ℤ) (a b : ℕ) → (m +ℤ pos (a + b)) ≡ ((m +ℤ pos a) +ℤ pos b)
later_sum m a b = omega (arith, ints)

in_time : (a b : ℤ) → int_le a b ≡ true → a ≤ℤ b
in_time a b is = grind (arith, ints)

no_later : (m : ℤ) → m ≤ℤ last_moment → (m +ℤ pos 0) ≤ℤ last_moment
no_later m is = omega (arith, ints)

pub ends : (stage : Stage) (steps : List Step) → stage.moment ≤ℤ last_moment → AreInTurn stage steps → (stage.moment +ℤ pos (seconds_ticked steps)) ≤ℤ last_moment
ends stage [] at turns = no_later stage.moment at
ends stage (step ∷ rest) at turns =
    let here : moment_after stage.moment step ≤ℤ last_moment = in_time (moment_after stage.moment step) last_moment (parts stage step turns.0).1.1 in
    let later : (moment_after stage.moment step +ℤ pos (seconds_ticked rest)) ≤ℤ last_moment = ends (stage_after_step stage step) rest here turns.1 in
    let sum : seconds_ticked (step ∷ rest) ≡ step_seconds step + seconds_ticked rest = sum_by-cons step_seconds step rest in
    rw (sum, later_sum stage.moment (step_seconds step) (seconds_ticked rest)) later
