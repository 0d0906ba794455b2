-- How a run by the plain order goes on, and ends.
use Rattle.std.specs.Prelude.{◌≡◌, ℕ, ◌+◌, ◌≤◌, Bool, true, false, List, length, Option, Some, None, IfSome, if◌then◌else◌}
use Rattle.cmc_objects.specs.declared.entry.Entry.{Entry}
use Rattle.cmc_objects.specs.declared.orders.Order.{Order}
use Rattle.cmc_objects.specs.declared.orders.Order.TheVariants.{Key}
use Rattle.cmc_keys.specs.Kinds.{allows_size}
use Rattle.cmc_pass.specs.GivenValues.{order_of}
use Rattle.cmc_pass.specs.declared.given.Given.{Given}
use Rattle.cmc_model.specs.Histories.{Setting}
use Rattle.cmc_rules.specs.Passes.{open_pass}
use Rattle.cmc_rules.specs.Runs.{IsFinished}
use Rattle.cmc_setup.specs.Setups.{Setup}
use Rattle.cmc_moves.specs.Answers.{kept_of}
use Rattle.cmc_moves.specs.declared.moves.Move.{Move}
use Rattle.cmc_moves.specs.declared.moves.Move.TheVariants.{Next, Give}
use Rattle.cmc_moves.specs.declared.moves.Stepped.{Stepped}
use Rattle.cmc_moves.specs.declared.moves.Stepped.TheVariants.{Done, Order as Tells}
use Rattle.cmc_kernel.specs.Kept.{Seen, setting_of}
use Rattle.cmc_world.specs.declared.run.Turn.{Turn}
use Rattle.cmc_world.specs.declared.run.Turn.TheVariants as turns
use Rattle.cmc_world.specs.declared.run.Driven.{Driven}
use Rattle.cmc_world.specs.declared.run.Driven.TheVariants.{Finished, Spent}
use Rattle.cmc_world.specs.Histories.{IsPlainStep, IsPlain, IsFull}

-- ---- values

-- a key that is asked for is one that can be made
abbrev pub CanBeMade : Order → Type 0
CanBeMade (Key order) = allows_size order.algorithm order.size ≡ true
CanBeMade other = Unit {0}

abbrev pub CanBeKept : Option Order → Type 0
CanBeKept kept = IfSome kept CanBeMade

-- a pass that waits for the value of a question is given one
abbrev pub IsNextWith : ℕ → ℕ → Option Order → Move → Type 0
IsNextWith n named None move = move ≡ Next n named
IsNextWith n named (Some order) move = (given : Given) × (order_of given ≡ order) × (move ≡ Give n named given)

-- what is made for the plain move
abbrev pub IsMadeFor : Setting → List Entry → Move → Move → Type 0
IsMadeFor s h (Next n named) move = IsNextWith n named (kept_of (open_pass s h n)) move
IsMadeFor s h other move = move ≡ other

-- ---- turns

-- the move was made: a question that is told is recorded by it
abbrev pub goes_on : Stepped → Bool
goes_on Done = true
goes_on (Tells pass order) = true
goes_on other = false

-- what came of a turn by what its move was answered
abbrev pub turn_after : Stepped → Turn
turn_after answer = if goes_on answer then turns.On else turns.Spent

-- the plain move was made, and the history grew
pub record GrowsByMove (s : Setting) (h k : List Entry) : Type 0 where
  pub move : Move
  pub step : IsPlainStep s h move k
  pub longer : length h + 1 ≤ length k

-- what one turn of the plain order does
abbrev pub IsTurn : Setting → List Entry → List Entry → Turn → Type 0
IsTurn s h k turns.On = GrowsByMove s h k
IsTurn s h k turns.Finished = IsFinished s h × (k ≡ h)
IsTurn s h k turns.Spent = IsFull s h × (k ≡ h)

-- a world of the scenario whose history is plain, and has this end
pub record EndsPlainly (setup : Setup) (End : Setting → List Entry → Type 0) (world : Seen) : Type 0 where
  pub same : world.scenario ≡ setup
  pub plain : IsPlain (setting_of setup) world.history
  pub comes : End (setting_of setup) world.history

-- the run came to its end, or to the end of its room
abbrev pub IsDriven : Setup → Driven → Type 0
IsDriven setup (Finished world) = EndsPlainly setup IsFinished world
IsDriven setup (Spent world) = EndsPlainly setup IsFull world

-- A world of the same scenario with this end, to which plain moves led from the one at the start.
pub record EndsFrom (start : Seen) (End : Setting → List Entry → Type 0) (world : Seen) : Type 0 where
  pub same : world.scenario ≡ start.scenario
  pub plain : IsPlain (setting_of start.scenario) start.history → IsPlain (setting_of start.scenario) world.history
  pub comes : End (setting_of start.scenario) world.history

-- what was begun came to its end, or to the end of its room
abbrev pub IsDrained : Seen → Driven → Type 0
IsDrained start (Finished world) = EndsFrom start IsFinished world
IsDrained start (Spent world) = EndsFrom start IsFull world

-- so many turns were taken, and the run goes on
pub record IsDriving (start : Seen) (world : Seen) (turns : ℕ) : Type 0 where
  pub same : world.scenario ≡ start.scenario
  pub plain : IsPlain (setting_of start.scenario) start.history → IsPlain (setting_of start.scenario) world.history
  pub long : turns ≤ length world.history
