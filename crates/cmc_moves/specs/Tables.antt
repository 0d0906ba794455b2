-- The rows of a step's answers, as tests: the first one that fits gives the answer.
use Rattle.std.specs.Prelude.{◌≡◌, ℕ, Bool, Option, Some, None, if◌then◌else◌, nat_le}
use Rattle.cmc_objects.specs.declared.orders.Order.{Order}
use Rattle.cmc_moves.specs.declared.moves.Lack.TheVariants.{ScriptOver, ScriptWaits, Stopped, NoInformer, Held, Current, NotAWrite, NotQueued, InProcess, SameViews, OwnWrite}
use Rattle.cmc_moves.specs.declared.moves.Stepped.{Stepped}
use Rattle.cmc_moves.specs.declared.moves.Stepped.TheVariants.{Done, NotNow, NotMine, Spent}
use Rattle.cmc_moves.specs.Answers.{Need}

abbrev pub fitting : ℕ → Bool → Stepped
fitting entries room = if room then Done else Spent entries

abbrev pub delivery_answer : Bool → Bool → Bool → ℕ → ℕ → ℕ → Bool → ℕ → Bool → Stepped
delivery_answer running informed held position newest to is_write entries room =
    if running then
    (if informed then
    (if held then NotNow Held
    else (if nat_le newest position then NotNow (Current position)
    else (if is_write then fitting entries room else NotNow (NotAWrite to))))
    else NotNow NoInformer)
    else NotNow Stopped

abbrev pub own_answer : Option ℕ → Stepped → Stepped
own_answer None rest = rest
own_answer (Some version) rest = NotNow (OwnWrite version)

abbrev pub begin_answer : Bool → Bool → Option ℕ → Bool → Bool → ℕ → Bool → Stepped
begin_answer running working own same queued entries room =
    if running then
    (if working then NotNow InProcess
    else own_answer own (if same then NotNow SameViews else (if queued then fitting entries room else NotNow NotQueued)))
    else NotNow Stopped

abbrev pub script_answer : Bool → Bool → ℕ → Bool → Stepped
script_answer left ready entries room = if left then (if ready then fitting entries room else NotNow ScriptWaits) else NotNow ScriptOver

-- a value is taken only for the question that is kept
abbrev pub IsValueAnswer : Order → Order → ℕ → Bool → Stepped → Type 0
IsValueAnswer kept given entries room answer = Need (kept ≡ given) (NotMine kept given) answer (answer ≡ fitting entries room)
