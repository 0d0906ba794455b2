-- What is kept of a stage, from one step of a script to the next.
use Rattle.std.proofs.Common.{◌≡◌, Bool, true, refl, ◌∙◌, subst}
use Rattle.std.specs.Prelude.{◌&&◌, ℤ, ℕ, pos, ◌+ℤ◌, int_le}
use Rattle.cmc_objects.specs.declared.entry.Step.{Step}
use Rattle.cmc_setup.specs.declared.flags.RoleFlags.{RoleFlags}
use Rattle.cmc_setup.specs.declared.holding.Holding.{Holding}
use Rattle.cmc_setup.specs.Setups.{running_after, switch_of, step_seconds, last_moment}
use Rattle.cmc_setup.specs.Holds.{grip_of, may_grip, held_after}
use Rattle.cmc_setup.specs.Flags.{Tells, flag_of}
use Rattle.cmc_setup.specs.HeldInformers.{held_of}
use Rattle.cmc_setup.specs.Stages.{Stage, IsStage, is_in_turn, may_switch, moment_after, stage_after_step}
use Rattle.cmc_setup.proofs.Grips.{AreSame}

all_three : (a b c : Bool) → a ≡ true → b ≡ true → c ≡ true → (a && (b && c)) ≡ true
all_three a b c x y z = rw (x, y, z) refl

-- the step is in turn, and the stage after it
pub kept : (before : Stage) (step : Step) (running : RoleFlags) (held : Holding) (now : ℤ) (seconds : ℕ) (moment m : ℤ) → now ≡ before.moment → seconds ≡ step_seconds step
    → (may_switch before.running (switch_of step) ≡ true) × Tells (flag_of running) (running_after before.running (switch_of step))
    → (may_grip before.held (grip_of step) ≡ true) × AreSame (held_of held) (held_after before.held (grip_of step))
    → (int_le (now +ℤ pos seconds) last_moment ≡ true) × (m ≡ now +ℤ pos seconds) → moment ≡ m
    → (is_in_turn before step ≡ true) × IsStage (record { running = running; held = held; moment = moment }) (stage_after_step before step)
kept before step running held now seconds moment m at lets first second third kept_moment =
    let same : now +ℤ pos seconds ≡ moment_after before.moment step = rw (at, lets) refl in
    let in_time : int_le (moment_after before.moment step) last_moment ≡ true = subst (λ (z : ℤ). int_le z last_moment ≡ true) same third.0 in (
      all_three (may_switch before.running (switch_of step)) (may_grip before.held (grip_of step)) (int_le (moment_after before.moment step) last_moment) first.0 second.0 in_time,
      record { running = first.1; held = second.1; moment = kept_moment ∙ third.1 ∙ same },
    )
