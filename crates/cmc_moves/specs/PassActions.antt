-- What a pass does next.
use Rattle.std.specs.Prelude.{◌≡◌, ◌<◌, ℕ, Bool, true, false, List, length, Option, Some, None, IsSome}
use Rattle.cmc_objects.specs.declared.call.Call.{Call}
use Rattle.cmc_objects.specs.declared.orders.Order.{Order}
use Rattle.cmc_pass.specs.declared.value.Value.{Value}
use Rattle.cmc_objects.specs.declared.entry.Entry.{Entry}
use Rattle.cmc_pass.specs.declared.pass.Act.{Act}
use Rattle.cmc_pass.specs.declared.pass.Desk.{Desk}
use Rattle.cmc_pass.specs.declared.pass.Act.TheVariants.{Issue, Temporary}
use Rattle.cmc_rules.specs.declared.progress.Stage.{Stage}
use Rattle.cmc_rules.specs.declared.progress.Stage.TheVariants.{Fresh, Asked, Given, Read, Saved, Barred}
use Rattle.cmc_model.specs.Histories.{Setting}
use Rattle.cmc_rules.specs.Passes.{open_pass}
use Rattle.cmc_pass.specs.Values.{IsValue}
use Rattle.cmc_next.specs.Questions.{IsQuestionOf}
use Rattle.cmc_rules.specs.Causes.{IsNextCall, AsksBy, EndsBy, MayCall, MayAsk, MayEnd}
use Rattle.cmc_rules.specs.Legality.{IsOpen}
use Rattle.cmc_moves.specs.Answers.{kept_of, new_of, next_answer, AnswersGoing, AnswersNext, AnswersDecided, AnswersDecide}
use Rattle.cmc_moves.specs.Decisions.{Decision}
use Rattle.cmc_moves.specs.declared.moves.Stepped.{Stepped}
use Rattle.cmc_moves.specs.declared.moves.Stepped.TheVariants.{Done, Order as Tells}
use Rattle.cmc_moves.specs.declared.doing.Judged.{Judged}
use Rattle.cmc_moves.specs.declared.doing.Judged.TheVariants.{Answer, Does}
use Rattle.cmc_moves.specs.declared.doing.Doing.{Doing}
use Rattle.cmc_moves.specs.declared.doing.Doing.TheVariants.{Call as Makes, Ask as Asks, End as Ends}

-- what a pass of this stage needs to go on: a value of its question that a call follows, or a plan of which a call is left
abbrev pub HasSecret : Act → Type 0
HasSecret (Issue plan) = Unit {0}
HasSecret (Temporary plan) = Unit {0}
HasSecret other = ⊥

abbrev pub HasStatus : Act → Type 0
HasStatus (Issue plan) = Unit {0}
HasStatus other = ⊥

abbrev pub HasNext : Stage → Act → (Order → Value → Option Call) → Type 0
HasNext (Asked order) does after = ⊥
HasNext (Given order value) does after = IsSome (after order value)
HasNext Read does after = HasSecret does
HasNext Saved does after = HasStatus does
HasNext Barred does after = ⊥
HasNext other does after = Unit {0}

-- The question of a pass that has asked is one that its act, which hangs so on the desk, asks by some desk; and a value that was given
-- is a right one of that question.
abbrev pub HasOwnQuestion : Stage → (Desk → Act) → Type 0
HasOwnQuestion (Asked order) act = IsQuestionOf act order
HasOwnQuestion (Given order value) act = IsQuestionOf act order × IsValue order value
HasOwnQuestion other act = Unit {0}

-- whether what comes next of a pass that has come so far hangs on its act
abbrev pub hangs_on_act : Stage → Bool
hangs_on_act Fresh = true
hangs_on_act Read = true
hangs_on_act Saved = true
hangs_on_act other = false

-- what comes next of a pass that has come so far, with this act, and with the calls that follow its questions
abbrev pub IsDoingBy : Stage → Act → (Order → Value → Option Call) → Doing → Type 0
IsDoingBy stage does after (Makes call) = IsNextCall stage does after call
IsDoingBy stage does after (Asks order) = AsksBy stage does order
IsDoingBy stage does after (Ends cause) = EndsBy stage does cause

-- what comes next of the pass of this number
abbrev pub IsDoing : Setting → List Entry → ℕ → Doing → Type 0
IsDoing s h pass (Makes call) = MayCall s h (open_pass s h pass) call
IsDoing s h pass (Asks order) = MayAsk s h (open_pass s h pass) order
IsDoing s h pass (Ends cause) = MayEnd s h (open_pass s h pass) cause

-- the question, where it is one
abbrev pub asked_in : Doing → Option Order
asked_in (Asks order) = Some order
asked_in other = None

-- the pass of this number waits for no value, this comes next of it, and its entry fits
pub record MayGoOn (s : Setting) (h : List Entry) (pass : ℕ) (d : Doing) : Type 0 where
  pub free : kept_of (open_pass s h pass) ≡ None
  pub new : new_of s h (open_pass s h pass) ≡ asked_in d
  pub does : IsDoing s h pass d
  pub room : length h < s.events

-- the answer leaves the history as it was: a question is told again, or the move is not made
abbrev pub IsNoMove : Option Order → Stepped → Type 0
IsNoMove kept Done = ⊥
IsNoMove kept (Tells pass order) = kept ≡ Some order
IsNoMove kept other = Unit {0}

-- an answer that leaves all as it was, or what the move has the open pass do
abbrev pub IsGoingOn : Setting → List Entry → ℕ → Judged → Type 0
IsGoingOn s h pass (Answer answer) = AnswersGoing s h pass (kept_of (open_pass s h pass)) (new_of s h (open_pass s h pass)) answer × IsNoMove (kept_of (open_pass s h pass)) answer
IsGoingOn s h pass (Does d) = AnswersGoing s h pass (kept_of (open_pass s h pass)) (new_of s h (open_pass s h pass)) (next_answer pass (asked_in d)) × MayGoOn s h pass d

-- the same of the pass of this number, which need not be open
abbrev pub IsJudged : Setting → List Entry → ℕ → ℕ → Judged → Type 0
IsJudged s h pass named (Answer answer) = AnswersNext s h pass named answer × IsNoMove (kept_of (open_pass s h pass)) answer
IsJudged s h pass named (Does d) = AnswersNext s h pass named (next_answer pass (asked_in d)) × (IsOpen (open_pass s h pass) × MayGoOn s h pass d)

-- what a decision for the open pass comes to
abbrev pub IsTaking : Setting → List Entry → ℕ → Decision → Judged → Type 0
IsTaking s h pass d (Answer answer) = AnswersDecided s h pass d answer × IsNoMove (kept_of (open_pass s h pass)) answer
IsTaking s h pass d (Does doing) = AnswersDecided s h pass d (next_answer pass (asked_in doing)) × MayGoOn s h pass doing

-- the same of the pass of this number, which need not be open
abbrev pub IsTaken : Setting → List Entry → ℕ → ℕ → Decision → Judged → Type 0
IsTaken s h pass named d (Answer answer) = AnswersDecide s h pass named d answer × IsNoMove (kept_of (open_pass s h pass)) answer
IsTaken s h pass named d (Does doing) = AnswersDecide s h pass named d (next_answer pass (asked_in doing)) × (IsOpen (open_pass s h pass) × MayGoOn s h pass doing)
