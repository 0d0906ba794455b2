-- Whether a step of a script may be made when its turn comes.
use Rattle.std.specs.Prelude.{◌≡◌, ℤ, pos, ◌+ℤ◌, int_le, ◌&&◌, Bool, true, not, if◌then◌else◌, List, [], ◌∷◌, Some, None}
use Rattle.std.specs.declared.option.Option.{Option}
use Rattle.cmc_objects.specs.declared.role.Role.{Role}
use Rattle.cmc_meta.specs.declared.key.Kind.{Kind}
use Rattle.cmc_objects.specs.declared.entry.Step.{Step}
use Rattle.cmc_setup.specs.Setups.{is_among, running_after, switch_of, step_seconds, last_moment}
use Rattle.cmc_setup.specs.Holds.{Held, none_held, grip_of, may_grip, held_after}
use Rattle.cmc_setup.specs.Flags.{Tells, flag_of}
use Rattle.cmc_setup.specs.declared.stage.Stage.{Stage as Code}
use Rattle.cmc_setup.specs.HeldInformers.{held_of}

-- what runs, what is held, and the moment
pub record Stage : Type 0 where
  pub running : List Role
  pub held : Held
  pub moment : ℤ

-- the stage before the first step
abbrev pub first_stage : List Role → ℤ → Stage
first_stage roles now = record { running = roles; held = none_held; moment = now }

-- a role that runs may be stopped, and one that does not may be started
abbrev pub may_switch : List Role → Option (Role × Bool) → Bool
may_switch running None = true
may_switch running (Some (role, on)) = if on then not (is_among running role) else is_among running role

abbrev pub moment_after : ℤ → Step → ℤ
moment_after now step = now +ℤ pos (step_seconds step)

-- the step stops or starts, holds or releases what it may, and its seconds end in time
abbrev pub is_in_turn : Stage → Step → Bool
is_in_turn stage step =
    may_switch stage.running (switch_of step)
    && (may_grip stage.held (grip_of step)
    && int_le (moment_after stage.moment step) last_moment)

abbrev pub stage_after_step : Stage → Step → Stage
stage_after_step stage step = record {
  running = running_after stage.running (switch_of step);
  held = held_after stage.held (grip_of step);
  moment = moment_after stage.moment step;
}

-- each step of the script may be made when its turn comes
abbrev pub AreInTurn : Stage → List Step → Type 0
AreInTurn stage [] = Unit {0}
AreInTurn stage (step ∷ rest) = (is_in_turn stage step ≡ true) × AreInTurn (stage_after_step stage step) rest

-- what is kept of a stage is the stage
pub record IsStage (code : Code) (stage : Stage) : Type 0 where
  pub running : Tells (flag_of code.running) stage.running
  pub held : (kind : Kind) → (role : Role) → held_of code.held kind role ≡ stage.held kind role
  pub moment : code.moment ≡ stage.moment
