-- Plain histories: the plain moves make them, one after another.
use Rattle.std.specs.Prelude.{◌≡◌, ◌≢◌, ◌⊎◌, ℕ, ◌+◌, ◌<◌, false, List, [], ◌∷◌, length, Some}
use Rattle.cmc_objects.specs.declared.entry.Entry.{Entry}
use Rattle.cmc_objects.specs.declared.entry.Entry.TheVariants as entries
use Rattle.cmc_objects.specs.declared.orders.Order.{Order}
use Rattle.cmc_objects.specs.declared.orders.Order.TheVariants.{Key, Csr, Sign, Judge}
use Rattle.cmc_objects.specs.declared.rows.KeyRow.TheVariants as rows
use Rattle.cmc_answers.specs.Answers.{is_left_open}
use Rattle.cmc_pass.specs.declared.value.Value.{Value}
use Rattle.cmc_model.specs.Histories.{Setting}
use Rattle.cmc_rules.specs.Causes.{MayAsk, MayGive}
use Rattle.cmc_rules.specs.Passes.{open_pass}
use Rattle.cmc_rules.specs.Runs.{IsRun, IsFinished}
use Rattle.cmc_moves.specs.declared.moves.Move.{Move}
use Rattle.cmc_moves.specs.declared.moves.Move.TheVariants as moves
use Rattle.cmc_moves.specs.Answers.{Grows, IsOfPass, next_effect, entries_of, value_entry}
use Rattle.cmc_kernel.specs.Plain.{IsPlainMove}

-- one entry of the pass: its call or end, its question, or a right value of the question that it waits for
abbrev pub IsOfCourse : Setting → List Entry → ℕ → Entry → Type 0
IsOfCourse s h n e =
    IsOfPass s h n e ⊎ (((order : Order) × MayAsk s h (open_pass s h n) order × (e ≡ entries.Ask n order)) ⊎ ((value : Value) × MayGive (open_pass s h n) value × (e ≡ value_entry n value)))

-- The entries that the plain move adds. A pass that waits for a value is given one: this is its next phase.
abbrev pub GrowsPlainly : Setting → List Entry → Move → List Entry → Type 0
GrowsPlainly s h (moves.Next n named) k = (e : Entry) × IsOfCourse s h n e × (k ≡ e ∷ h)
GrowsPlainly s h other k = Grows s h other k

-- the entries of the plain move of the history, and what they leave is the history of a run
pub record IsPlainStep (s : Setting) (h : List Entry) (move : Move) (k : List Entry) : Type 0 where
  pub plain : IsPlainMove s h (Some move)
  pub grows : GrowsPlainly s h move k
  pub run : IsRun s k

-- the moves, each the plain one of the history before it, lead from the one history to the other
abbrev pub LeadsPlainly : Setting → List Move → List Entry → List Entry → Type 0
LeadsPlainly s [] h k = k ≡ h
LeadsPlainly s (move ∷ moves) h k = (g : List Entry) × IsPlainStep s h move g × LeadsPlainly s moves g k

-- plain moves lead to the history from the empty one
abbrev pub IsPlain : Setting → List Entry → Type 0
IsPlain s h = (moves : List Move) × LeadsPlainly s moves [] h

-- the entries that a move adds: a step of the script has one more for what it brings about
abbrev pub entries_for : Setting → List Entry → Move → ℕ
entries_for s h moves.Script = entries_of (next_effect s h)
entries_for s h other = 1

-- the plain move of the history does not fit below the scenario's number of entries
pub record IsFull (s : Setting) (h : List Entry) : Type 0 where
  pub move : Move
  pub plain : IsPlainMove s h (Some move)
  pub spent : s.events < length h + entries_for s h move

-- the run has come to its end, or to the end of its room
abbrev pub IsEnd : Setting → List Entry → Type 0
IsEnd s h = IsFinished s h ⊎ IsFull s h

-- ---- questions with one value

-- the row of the question leaves its value not open
abbrev pub IsBound : Order → Type 0
IsBound (Key order) = order.row ≢ rows.Free
IsBound (Csr order) = Unit {0}
IsBound (Sign order) = is_left_open order.row ≡ false
IsBound (Judge order) = Unit {0}

abbrev pub IsBoundEntry : Entry → Type 0
IsBoundEntry (entries.Ask pass order) = IsBound order
IsBoundEntry other = Unit {0}

-- no question of the history has a free row
abbrev pub HasNoFree : List Entry → Type 0
HasNoFree [] = Unit {0}
HasNoFree (e ∷ h) = IsBoundEntry e × HasNoFree h
