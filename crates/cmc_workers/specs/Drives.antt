-- What many hands make of a scenario, and what a thread that leaves the lock takes along.
use Rattle.std.specs.Prelude.{◌≡◌, ℕ, Bool, Option, true, false, Some, length, option_map}
use Rattle.cmc_objects.specs.declared.entry.Step.{Step}
use Rattle.cmc_objects.specs.declared.entry.Step.TheVariants as steps
use Rattle.cmc_objects.specs.declared.orders.Order.{Order}
use Rattle.cmc_rules.specs.Passes.{open_pass}
use Rattle.cmc_rules.specs.Runs.{IsFinished}
use Rattle.cmc_setup.specs.Setups.{Setup}
use Rattle.cmc_moves.specs.Answers.{kept_of}
use Rattle.cmc_moves.specs.Decisions.{BegunPass, begun_of, decides_alone}
use Rattle.cmc_kernel.specs.Kept.{Seen, setting_of}
use Rattle.cmc_world.specs.Questions.{ask_number, work_of}
use Rattle.cmc_world.specs.declared.gate.Point.{Point}
use Rattle.cmc_world.specs.declared.gate.Work.TheVariants as works
use Rattle.cmc_world.specs.Turns.{CanBeMade, EndsPlainly}
use Rattle.cmc_world.specs.Histories.{IsFull}
use Rattle.cmc_world.specs.declared.run.Driven.{Driven}
use Rattle.cmc_world.specs.declared.run.Driven.TheVariants.{Finished, Spent}
use Rattle.cmc_workers.specs.declared.errands.Errand.{Errand}
use Rattle.cmc_workers.specs.declared.errands.Task.{Task}
use Rattle.cmc_workers.specs.declared.errands.Task.TheVariants.{Value, Decision}

-- the step waits for a count of writes, which each move may reach
abbrev pub waits_for_count : Option Step → Bool
waits_for_count (Some (steps.Until role kind writes)) = true
waits_for_count other = false

-- the pass waits for the value of this question, which can be made, and the point says where it asked
pub record IsAskedAt (world : Seen) (pass : ℕ) (at : Point) (order : Order) : Type 0 where
  pub waits : kept_of (open_pass (setting_of world.scenario) world.history pass) ≡ Some order
  pub made : CanBeMade order
  pub point : at ≡ record { work = work_of order; entry = ask_number pass world.history }

-- the pass stands as it began, its role is one that decides by what it saw alone, and the point names the newest entry
pub record IsToDecide (world : Seen) (pass : ℕ) (at : Point) (begun : BegunPass) : Type 0 where
  pub alone : decides_alone begun.role ≡ true
  pub saw : option_map begun_of (open_pass (setting_of world.scenario) world.history pass) ≡ Some begun
  pub point : at ≡ record { work = works.Decide; entry = length world.history }

-- the task is what the pass waits for
abbrev pub IsTask : Seen → ℕ → Point → Task → Type 0
IsTask world pass at (Value order) = IsAskedAt world pass at order
IsTask world pass at (Decision begun) = IsToDecide world pass at begun

abbrev pub IsErrand : Seen → Errand → Type 0
IsErrand world errand = IsTask world errand.taken.pass errand.point errand.task

-- it can be done where there is no world
abbrev pub CanBeDone : Task → Type 0
CanBeDone (Value order) = CanBeMade order
CanBeDone (Decision begun) = Unit {0}

-- a world of the scenario whose run is finished
pub record IsFinishedOn (setup : Setup) (world : Seen) : Type 0 where
  pub same : world.scenario ≡ setup
  pub finished : IsFinished (setting_of setup) world.history

-- the run is finished, by whatever interleaving, or the plain run came to the end of its room
abbrev pub Drives : Setup → Driven → Type 0
Drives setup (Finished world) = IsFinishedOn setup world
Drives setup (Spent world) = EndsPlainly setup IsFull world
