-- What a step answers: a move is made where all its needs are met and nothing bars it, and the first of these that is not so is the answer.
-- And what a move that is made adds to the history.
use Rattle.std.specs.Prelude.{◌≡◌, ◌⊎◌, ℕ, ◌+◌, ◌<◌, ◌≤◌, ◌==◌, Bool, true, false, ◌&&◌, nat_le, List, ◌∷◌, length, Option, Some, None, option_and_then, if◌then◌else◌}
use Rattle.cmc_meta.specs.declared.key.Key.{Key}
use Rattle.cmc_meta.specs.declared.key.Kind.{Kind}
use Rattle.cmc_objects.specs.declared.call.Call.{Call}
use Rattle.cmc_objects.specs.declared.call.Reply.{Reply}
use Rattle.cmc_objects.specs.declared.role.Role.{Role}
use Rattle.cmc_objects.specs.declared.entry.Who.TheVariants.{User, Pass}
use Rattle.cmc_objects.specs.declared.entry.Cause.{Cause}
use Rattle.cmc_objects.specs.declared.entry.Entry.{Entry}
use Rattle.cmc_objects.specs.declared.entry.Entry.TheVariants as entries
use Rattle.cmc_objects.specs.declared.orders.Order.{Order}
use Rattle.cmc_pass.specs.GivenValues.{order_of, value_of}
use Rattle.cmc_pass.specs.declared.given.Given.{Given}
use Rattle.cmc_pass.specs.declared.pass.Act.{Act}
use Rattle.cmc_pass.specs.declared.pass.Act.TheVariants.{Ask}
use Rattle.cmc_pass.specs.declared.value.Value.{Value}
use Rattle.cmc_pass.specs.declared.value.Value.TheVariants as values
use Rattle.cmc_model.specs.Replies.{IsReply}
use Rattle.cmc_model.specs.Histories.{state}
use Rattle.cmc_rules.specs.Causes.{act_of, MayCall, MayEnd}
use Rattle.cmc_objects.specs.declared.entry.Who.{Who}
use Rattle.cmc_rules.specs.declared.effect.Effect.{Effect}
use Rattle.cmc_rules.specs.declared.effect.Effect.TheVariants as effects
use Rattle.cmc_rules.specs.declared.progress.OpenPass.{OpenPass}
use Rattle.cmc_rules.specs.declared.progress.Origin.{Origin}
use Rattle.cmc_rules.specs.declared.progress.Stage.{Stage}
use Rattle.cmc_rules.specs.declared.progress.Stage.TheVariants.{Fresh, Asked}
use Rattle.cmc_model.specs.Histories.{Setting, moment, accepted, runs, incarnation}
use Rattle.cmc_model.specs.Writes.{writes, write_at, last_of_kind, is_known}
use Rattle.cmc_objects.specs.Informers.{has_informer, kind_of_work}
use Rattle.cmc_rules.specs.Positions.{position, positions}
use Rattle.cmc_rules.specs.Views.{views}
use Rattle.cmc_rules.specs.Passes.{open_pass, IsWorking}
use Rattle.cmc_rules.specs.Origins.{origins, begun, origin_at}
use Rattle.cmc_rules.specs.Memory.{past}
use Rattle.cmc_rules.specs.Sameness.{IsSame}
use Rattle.cmc_rules.specs.Legality.{IsOfKind, IsOpen}
use Rattle.cmc_rules.specs.Scripts.{scripted, step_at, held}
use Rattle.cmc_rules.specs.UserSteps.{effect_of, IsReady}
use Rattle.cmc_rules.specs.Sameness.{own_above}
use Rattle.cmc_moves.specs.declared.moves.Move.{Move}
use Rattle.cmc_moves.specs.declared.moves.Move.TheVariants.{Script, Deliver, Begin, Next, Give, Decide}
use Rattle.cmc_moves.specs.declared.moves.Lack.TheVariants.{ScriptOver, ScriptWaits, Stopped, NoInformer, Held, Current, NotAWrite, NotQueued, InProcess, SameViews, OwnWrite, NoPass, NotAsked, Settled}
use Rattle.cmc_moves.specs.declared.moves.Stepped.{Stepped}
use Rattle.cmc_moves.specs.declared.moves.Stepped.TheVariants.{Done, Order as Asks, NotNow, Ended, NotMine, OtherViews, Spent}
use Rattle.cmc_moves.specs.Quiet.{IsQuiet}
use Rattle.cmc_moves.specs.Decisions.{Decision, IsUndecided, SawSame}

abbrev pub is_done : Stepped → Bool
is_done Done = true
is_done other = false

-- the question that is told, with the number of the pass that asks it
abbrev pub told_order : Stepped → Option (ℕ × Order)
told_order (Asks pass order) = Some (pass, order)
told_order other = None

-- ---- tables of answers

-- A need of a move: where it is not met, this is the answer; else what comes after it decides.
abbrev pub Need : Type 0 → Stepped → Stepped → Type 0 → Type 0
Need fact refusal answer rest = ((fact → ⊥) × (answer ≡ refusal)) ⊎ (fact × rest)

-- what keeps a move from being made: where it is so, this is the answer
abbrev pub Bar : Type 0 → Stepped → Stepped → Type 0 → Type 0
Bar fact refusal answer rest = (fact × (answer ≡ refusal)) ⊎ ((fact → ⊥) × rest)

-- a bar that there is where there is a number, which is answered
abbrev pub BarOf : Option ℕ → (ℕ → Stepped) → Stepped → Type 0 → Type 0
BarOf None refusal answer rest = rest
BarOf (Some number) refusal answer rest = answer ≡ refusal number

-- the last need of each move: so many entries more fit
abbrev pub FitsLimit : Setting → List Entry → ℕ → Stepped → Type 0
FitsLimit s h more answer = Need (length h + more ≤ s.events) (Spent (length h)) answer (answer ≡ Done)

-- ---- the script

-- what the next step brings about
abbrev pub next_effect : Setting → List Entry → Option Effect
next_effect s h = option_and_then (effect_of s h) (step_at s.script (scripted h + 1))

-- a step is an entry, and one more for what it brings about
abbrev pub entries_of : Option Effect → ℕ
entries_of None = 1
entries_of (Some effect) = 2

abbrev pub AnswersScript : Setting → List Entry → Stepped → Type 0
AnswersScript s h answer =
    Need (scripted h < length s.script) (NotNow ScriptOver) answer
    (Need (IsReady s h (step_at s.script (scripted h + 1))) (NotNow ScriptWaits) answer
    (FitsLimit s h (entries_of (next_effect s h)) answer))

-- the call, answered as a plain store answers
abbrev pub IsCalled : Setting → List Entry → Who → Call → Entry → Type 0
IsCalled s h who call e = (reply : Reply) × IsReply s.faults (state s h) call reply × (e ≡ entries.Call who call reply)

-- the entry of what a step brings about
abbrev pub IsEffect : Setting → List Entry → Effect → Entry → Type 0
IsEffect s h (effects.Call call) e = IsCalled s h User call e
IsEffect s h (effects.Tick now) e = e ≡ entries.Tick now
IsEffect s h (effects.Stop role) e = e ≡ entries.Stop role
IsEffect s h (effects.Start role at) e = e ≡ entries.Start role at

-- these entries stand above the history, the second where there is one
abbrev pub GrowsBy : Setting → List Entry → Option Effect → List Entry → Type 0
GrowsBy s h None k = k ≡ h
GrowsBy s h (Some effect) k = (e : Entry) × IsEffect s h effect e × (k ≡ e ∷ h)

abbrev pub GrowsByScript : Setting → List Entry → List Entry → Type 0
GrowsByScript s h k = GrowsBy s (entries.Script (scripted h + 1) ∷ h) (next_effect s h) k

-- ---- deliveries

-- the version of an accepted write of the kind above the position
abbrev pub IsWatchEvent : Setting → List Entry → Role → Kind → ℕ → Type 0
IsWatchEvent s h role kind to = (position h role kind < to) × IsOfKind kind (write_at to (writes s h))

abbrev pub AnswersDelivery : Setting → List Entry → Role → Kind → ℕ → Stepped → Type 0
AnswersDelivery s h role kind to answer =
    Need (runs s h role ≡ true) (NotNow Stopped) answer
    (Need (has_informer role kind ≡ true) (NotNow NoInformer) answer
    (Need (held s h role kind ≡ false) (NotNow Held) answer
    (Bar (last_of_kind kind (writes s h) ≤ position h role kind) (NotNow (Current (position h role kind))) answer
    (Need (IsWatchEvent s h role kind to) (NotNow (NotAWrite to)) answer (FitsLimit s h 1 answer)))))

-- the role is told so far, or lists what stands where the watch no longer reaches back to its position
abbrev pub delivered : Setting → List Entry → Role → Kind → ℕ → Entry
delivered s h role kind to =
    if nat_le (accepted s h) (position h role kind + s.window) then entries.Deliver role kind to else entries.List role kind (accepted s h)

-- ---- begins

-- The key is in the role's work queue: it is one of its kind of work, an accepted write named it, and the role has something to do there, or
-- sees something new. So no wake-up is lost: a key leaves the queue where there is nothing to do, and comes back with whatever gives something.
pub record IsQueued (s : Setting) (h : List Entry) (role : Role) (key : Key) : Type 0 where
  pub work : key.kind ≡ kind_of_work role
  pub known : is_known key (writes s h) ≡ true
  pub worth : IsQuiet s h role key → ⊥

abbrev pub AnswersBegin : Setting → List Entry → Role → Key → Stepped → Type 0
AnswersBegin s h role key answer =
    Need (runs s h role ≡ true) (NotNow Stopped) answer
    (Bar (IsWorking s h role key) (NotNow InProcess) answer
    (BarOf (own_above (past s h role key).own (positions h role)) (λ version. NotNow (OwnWrite version)) answer
    (Bar (IsSame (past s h role key).last (views s h role key) (moment s h) (positions h role)) (NotNow SameViews) answer
    (Need (IsQueued s h role key) (NotNow NotQueued) answer (FitsLimit s h 1 answer)))))

abbrev pub beginning : Setting → List Entry → Role → Key → Entry
beginning s h role key = entries.Begin (begun s h + 1) role key (positions h role) (moment s h)

-- ---- passes that go on

-- the present incarnation of the role of this origin, where it is another than the pass's or the move's
abbrev pub outdated_at : ℕ → ℕ → ℕ → Option ℕ
outdated_at present began named = if (began == present) && (named == present) then None else Some present

abbrev pub outdated : Setting → List Entry → ℕ → Option Origin → Option ℕ
outdated s h named None = None
outdated s h named (Some origin) = outdated_at (incarnation s h origin.role) origin.incarnation named

-- the question whose value a pass of this stage waits for
abbrev pub kept_at : Stage → Option Order
kept_at (Asked order) = Some order
kept_at other = None

abbrev pub kept_of : Option OpenPass → Option Order
kept_of None = None
kept_of (Some p) = kept_at p.stage

-- the question that a pass which has only begun asks
abbrev pub asked_by : Act → Option Order
asked_by (Ask order) = Some order
asked_by other = None

abbrev pub new_at : Stage → Act → Option Order
new_at Fresh does = asked_by does
new_at other does = None

abbrev pub new_of : Setting → List Entry → Option OpenPass → Option Order
new_of s h None = None
new_of s h (Some p) = new_at p.stage (act_of s h p)

-- a question is told, a call or an end is made
abbrev pub next_answer : ℕ → Option Order → Stepped
next_answer pass None = Done
next_answer pass (Some order) = Asks pass order

-- A question whose value is waited for is told again; else the next entry of the pass has to fit: a question, a call or the end.
abbrev pub AnswersGoing : Setting → List Entry → ℕ → Option Order → Option Order → Stepped → Type 0
AnswersGoing s h pass (Some kept) new answer = answer ≡ Asks pass kept
AnswersGoing s h pass None new answer = Need (length h + 1 ≤ s.events) (Spent (length h)) answer (answer ≡ next_answer pass new)

-- the pass of the number is open, and it and the move are of the role's present incarnation
abbrev pub AnswersOpen : Setting → List Entry → ℕ → ℕ → Stepped → Type 0 → Type 0
AnswersOpen s h pass named answer rest =
    BarOf (outdated s h named (origin_at pass (origins s h))) (λ present. Ended present) answer (Need (IsOpen (open_pass s h pass)) (NotNow (NoPass pass)) answer rest)

abbrev pub AnswersNext : Setting → List Entry → ℕ → ℕ → Stepped → Type 0
AnswersNext s h pass named answer = AnswersOpen s h pass named answer (AnswersGoing s h pass (kept_of (open_pass s h pass)) (new_of s h (open_pass s h pass)) answer)

-- A decision is taken by a pass that has done nothing yet, of a role that decides alone, and only on what this pass saw. Then the pass goes
-- on as without one.
abbrev pub AnswersDecided : Setting → List Entry → ℕ → Decision → Stepped → Type 0
AnswersDecided s h pass d answer =
    Need (IsUndecided (open_pass s h pass)) (NotNow Settled) answer
    (Need (SawSame d (open_pass s h pass)) (OtherViews pass) answer
    (AnswersGoing s h pass (kept_of (open_pass s h pass)) (new_of s h (open_pass s h pass)) answer))

abbrev pub AnswersDecide : Setting → List Entry → ℕ → ℕ → Decision → Stepped → Type 0
AnswersDecide s h pass named d answer = AnswersOpen s h pass named answer (AnswersDecided s h pass d answer)

-- what is given has to answer the question whose value is waited for
abbrev pub AnswersGiven : Setting → List Entry → Option Order → Order → Stepped → Type 0
AnswersGiven s h None given answer = answer ≡ NotNow NotAsked
AnswersGiven s h (Some kept) given answer = Need (kept ≡ given) (NotMine kept given) answer (FitsLimit s h 1 answer)

abbrev pub AnswersGive : Setting → List Entry → ℕ → ℕ → Given → Stepped → Type 0
AnswersGive s h pass named given answer = AnswersOpen s h pass named answer (AnswersGiven s h (kept_of (open_pass s h pass)) (order_of given) answer)

-- the call that the pass makes next, or its end
abbrev pub IsOfPass : Setting → List Entry → ℕ → Entry → Type 0
IsOfPass s h pass e =
    ((call : Call) × MayCall s h (open_pass s h pass) call × IsCalled s h (Pass pass) call e) ⊎ ((cause : Cause) × MayEnd s h (open_pass s h pass) cause × (e ≡ entries.End pass cause))

-- the entry of a value that is given
abbrev pub value_entry : ℕ → Value → Entry
value_entry pass (values.Made key) = entries.Made pass key
value_entry pass (values.Signed signature) = entries.Signed pass signature
value_entry pass (values.Answered answer) = entries.Answered pass answer
value_entry pass (values.Judged approved) = entries.Judged pass approved

-- a question is recorded where it is told for the first time
abbrev pub asked_once : Option Order → ℕ → Order → List Entry → List Entry
asked_once None pass order h = entries.Ask pass order ∷ h
asked_once (Some kept) pass order h = h

-- ---- all moves

-- what each move is answered
abbrev pub Answers : Setting → List Entry → Move → Stepped → Type 0
Answers s h Script answer = AnswersScript s h answer
Answers s h (Deliver role kind to) answer = AnswersDelivery s h role kind to answer
Answers s h (Begin role key) answer = AnswersBegin s h role key answer
Answers s h (Next pass named) answer = AnswersNext s h pass named answer
Answers s h (Give pass named given) answer = AnswersGive s h pass named given answer
Answers s h (Decide pass named d) answer = AnswersDecide s h pass named d answer

-- the entries that the move adds, below which the old history stands
abbrev pub Grows : Setting → List Entry → Move → List Entry → Type 0
Grows s h Script k = GrowsByScript s h k
Grows s h (Deliver role kind to) k = k ≡ delivered s h role kind to ∷ h
Grows s h (Begin role key) k = k ≡ beginning s h role key ∷ h
Grows s h (Next pass named) k = (e : Entry) × IsOfPass s h pass e × (k ≡ e ∷ h)
Grows s h (Give pass named given) k = k ≡ value_entry pass (value_of given) ∷ h
Grows s h (Decide pass named d) k = (e : Entry) × IsOfPass s h pass e × (k ≡ e ∷ h)

-- a question that is told stands once
abbrev pub LeavesAsked : Setting → List Entry → Move → Order → List Entry → Type 0
LeavesAsked s h (Next pass named) order k = k ≡ asked_once (kept_of (open_pass s h pass)) pass order h
LeavesAsked s h (Decide pass named d) order k = k ≡ asked_once (kept_of (open_pass s h pass)) pass order h
LeavesAsked s h other order k = k ≡ h

-- a move that is made adds its entries, and a question that is told its own, once; any other answer leaves the history as it was
abbrev pub Leaves : Setting → List Entry → Move → Stepped → List Entry → Type 0
Leaves s h move Done k = Grows s h move k
Leaves s h move (Asks pass order) k = LeavesAsked s h move order k
Leaves s h move other k = k ≡ h
