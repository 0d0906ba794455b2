-- The plain move is made, where it fits.
use Rattle.std.proofs.Common.{◌≡◌, ◌⊎◌, ◌==◌, ◌+◌, ◌<◌, ◌≤◌, ℕ, List, Option, Some, None, Bool, true, false, length, refl, sym, ap, subst, ◌∙◌, inl, inr, arith}
use Rattle.std.proofs.lemmas.Bool.Decides.{nat_tests, Decides-eqb}
use Rattle.std.specs.Prelude.{◌↔◌, ◌∷◌, [], IsTrue, if◌then◌else◌}
use Rattle.cmc_meta.specs.declared.key.Key.{Key}
use Rattle.cmc_meta.specs.declared.key.Kind.{Kind}
use Rattle.cmc_objects.specs.declared.role.Role.{Role}
use Rattle.cmc_objects.specs.declared.entry.Entry.{Entry}
use Rattle.cmc_objects.specs.declared.entry.Entry.TheVariants.{Ask}
use Rattle.cmc_objects.specs.declared.orders.Order.{Order}
use Rattle.cmc_pass.specs.GivenValues.{order_of, value_of}
use Rattle.cmc_pass.specs.declared.given.Given.{Given}
use Rattle.cmc_pass.specs.declared.value.Value.{Value}
use Rattle.cmc_pass.specs.declared.value.Value.TheVariants.{Made, Signed, Answered, Judged}
use Rattle.cmc_rules.specs.declared.progress.OpenPass.{OpenPass}
use Rattle.cmc_model.specs.declared.write.Write.{Write}
use Rattle.cmc_model.specs.Histories.{Setting, incarnation}
use Rattle.cmc_model.specs.Writes.{writes, kind_eq, write_at, last_of_kind}
use Rattle.cmc_rules.specs.Positions.{position}
use Rattle.cmc_rules.specs.Passes.{open_pass}
use Rattle.cmc_rules.specs.Origins.{origins, origin_at}
use Rattle.cmc_rules.specs.Causes.{IsCausedEntry, IsCaused, MayGive}
use Rattle.cmc_rules.specs.Legality.{IsOfKind, IsOpen}
use Rattle.cmc_rules.specs.Runs.{IsRun}
use Rattle.cmc_moves.specs.declared.moves.Move.{Move}
use Rattle.cmc_moves.specs.declared.moves.Move.TheVariants.{Script, Deliver, Begin, Next, Give, Decide}
use Rattle.cmc_moves.specs.declared.moves.Stepped.{Stepped}
use Rattle.cmc_moves.specs.declared.moves.Stepped.TheVariants.{Done, NotNow, Ended, NotMine, Spent}
use Rattle.cmc_moves.specs.declared.moves.Lack.TheVariants.{ScriptOver, ScriptWaits, Stopped, NoInformer, Held, Current, NotAWrite, InProcess, OwnWrite, SameViews, NotQueued, NoPass}
use Rattle.cmc_moves.specs.Answers.{Need, Bar, BarOf, FitsLimit as HasRoom, outdated, entries_of, next_effect, kept_of, new_of, next_answer, asked_once, value_entry, AnswersScript, AnswersDelivery, AnswersBegin, AnswersOpen, AnswersGoing, AnswersGiven, Answers, Leaves}
use Rattle.cmc_kernel.proofs.Leading.{new_may}
use Rattle.cmc_kernel.proofs.SameKeys.{same_kind}
use Rattle.cmc_kernel.specs.Plain.{IsStepReady, IsBehind, IsOfPresent, Fits, IsChosen}
use Rattle.cmc_world.specs.Turns.{IsNextWith, IsMadeFor, goes_on}
use Rattle.cmc_world.specs.Histories.{GrowsPlainly, entries_for}
use Rattle.cmc_world.specs.Searches.{is_possible}
use Rattle.cmc_kernel.proofs.OneKind.{last_low}

-- ---- tables

-- a need that is met, and a bar that is not there
met : {fact rest : Type 0} (refusal answer : Stepped) → fact → Need fact refusal answer rest → rest
met refusal answer is (inl x) = absurd (x.0 is)
met refusal answer is (inr x) = x.1

clear : {fact rest : Type 0} (refusal answer : Stepped) → (fact → ⊥) → Bar fact refusal answer rest → rest
clear refusal answer not (inl x) = absurd (not x.0)
clear refusal answer not (inr x) = x.1

clear_of : {rest : Type 0} (number : Option ℕ) (refusal : ℕ → Stepped) (answer : Stepped) → number ≡ None → BarOf number refusal answer rest → rest
clear_of None refusal answer is x = x
clear_of (Some n) refusal answer is x = absurd (cc is)

-- a move that is possible is made, or does not fit
abbrev pub IsMade : Setting → List Entry → ℕ → Stepped → Type 0
IsMade s h more answer = (answer ≡ Done) ⊎ ((answer ≡ Spent (length h)) × (s.events < length h + more))

over : (a b : ℕ) → (a ≤ b → ⊥) → b < a
over a b not = grind (arith, not)

fitted : (s : Setting) (h : List Entry) (more : ℕ) (answer : Stepped) → HasRoom s h more answer → IsMade s h more answer
fitted s h more answer (inl x) = inr (x.1, over (length h + more) s.events x.0)
fitted s h more answer (inr x) = inl x.1

-- ---- the last write of a kind

last_at : (here : Bool) (kind : Kind) (w : Write) (ws : List Write) → kind_eq w.key.kind kind ≡ here
    → (1 ≤ last_of_kind kind ws → IsOfKind kind (write_at (last_of_kind kind ws) ws)) → 1 ≤ (if here then length (w ∷ ws) else last_of_kind kind ws)
    → IsOfKind kind (write_at (if here then length (w ∷ ws) else last_of_kind kind ws) (w ∷ ws))
unfolding write_at
last_at true kind w ws same below some =
    subst (λ (b : Bool). IsOfKind kind (if b then Some w else write_at (length (w ∷ ws)) ws)) (sym ((Decides-eqb (length (w ∷ ws)) (length (w ∷ ws))).1 refl)) (same_kind w.key.kind kind same)
last_at false kind w ws other below some =
    let low = last_low kind ws in
    let later : (length (w ∷ ws) == last_of_kind kind ws) ≡ false = grind (arith, nat_tests) in
    subst (λ (b : Bool). IsOfKind kind (if b then Some w else write_at (last_of_kind kind ws) ws)) (sym later) (below some)

-- it is of the kind, if there is one
last_is : (kind : Kind) (ws : List Write) → 1 ≤ last_of_kind kind ws → IsOfKind kind (write_at (last_of_kind kind ws) ws)
unfolding last_of_kind
last_is kind [] some = absurd (omega (arith, some))
last_is kind (w ∷ ws) some = last_at (kind_eq w.key.kind kind) kind w ws refl (last_is kind ws) some

-- ---- each move

pub script_made : (s : Setting) (h : List Entry) (answer : Stepped) → IsStepReady s h → AnswersScript s h answer → IsMade s h (entries_of (next_effect s h)) answer
script_made s h answer c a = fitted s h (entries_of (next_effect s h)) answer (met (NotNow ScriptWaits) answer c.ready (met (NotNow ScriptOver) answer c.left a))

pub delivery_made : (s : Setting) (h : List Entry) (role : Role) (kind : Kind) (answer : Stepped) → IsBehind s h role kind
    → AnswersDelivery s h role kind (last_of_kind kind (writes s h)) answer → IsMade s h 1 answer
delivery_made s h role kind answer c a =
    let above = c.behind in
    fitted s h 1 answer
    (met (NotNow (NotAWrite (last_of_kind kind (writes s h)))) answer (above, last_is kind (writes s h) (omega (arith, above)))
    (clear (NotNow (Current (position h role kind))) answer (λ le. absurd (omega (arith, above, le)))
    (met (NotNow Held) answer c.free (met (NotNow NoInformer) answer c.informed (met (NotNow Stopped) answer c.running a)))))

begin_made : (s : Setting) (h : List Entry) (role : Role) (key : Key) (answer : Stepped) → Fits s h role key → AnswersBegin s h role key answer → IsMade s h 1 answer
begin_made s h role key answer f a =
    let m = f.may in
    fitted s h 1 answer
    (met (NotNow NotQueued) answer (record { work = m.work; known = m.known; worth = f.worth })
    (clear (NotNow SameViews) answer m.due.other
    (clear_of _ (λ version. NotNow (OwnWrite version)) answer m.due.told (clear (NotNow InProcess) answer m.idle (met (NotNow Stopped) answer m.running a)))))

-- the origin of each open pass is of the present incarnation of its role
abbrev pub ArePresent : Setting → List Entry → Type 0
ArePresent s h = (n : ℕ) (p : OpenPass) → open_pass s h n ≡ Some p → outdated s h (incarnation s h p.role) (origin_at n (origins s h)) ≡ None

-- a move of an open pass of the present incarnation is answered by what the pass may do
open_now : (s : Setting) (h : List Entry) (n named : ℕ) (answer : Stepped) (rest : Type 0) (o : Option OpenPass) → open_pass s h n ≡ o → ArePresent s h → IsOfPresent s h named o → AnswersOpen s h n named answer rest → rest
open_now s h n named answer rest None is present of a = absurd of
open_now s h n named answer rest (Some p) is present of a =
    let now = subst (λ (m : ℕ). outdated s h m (origin_at n (origins s h)) ≡ None) (sym of) (present n p is) in
    met (NotNow (NoPass n)) answer (subst IsOpen (sym is) tt) (clear_of _ (λ present. Ended present) answer now a)

-- ---- what a move comes to

-- it goes on with its entries, or they do not fit and all is as it was
abbrev pub ComesTo : Setting → List Entry → Move → Stepped → List Entry → Type 0
ComesTo s h move answer k = ((goes_on answer ≡ true) × GrowsPlainly s h move k) ⊎ ((goes_on answer ≡ false) × (s.events < length h + entries_for s h move) × (k ≡ h))

-- no entry more fits
spent_comes : (s : Setting) (h : List Entry) (move step : Move) (answer : Stepped) (k : List Entry) → answer ≡ Spent (length h) → s.events < length h + entries_for s h move → Leaves s h step answer k → ComesTo s h move answer k
spent_comes s h move step answer k is spent left = inr (ap goes_on is, spent, subst (λ (a : Stepped). Leaves s h step a k) is left)

made_comes : (s : Setting) (h : List Entry) (move step : Move) (answer : Stepped) (k : List Entry) → (Leaves s h step Done k → GrowsPlainly s h move k) → IsMade s h (entries_for s h move) answer → Leaves s h step answer k
    → ComesTo s h move answer k
made_comes s h move step answer k grows (inl done) left = inl (ap goes_on done, grows (subst (λ (a : Stepped). Leaves s h step a k) done left))
made_comes s h move step answer k grows (inr is) left = spent_comes s h move step answer k is.0 is.1 left

-- the pass calls or ends, or asks
told_comes : (s : Setting) (h : List Entry) (n named : ℕ) (k : List Entry) (new : Option Order) → kept_of (open_pass s h n) ≡ None → new_of s h (open_pass s h n) ≡ new → Leaves s h (Next n named) (next_answer n new) k
    → ComesTo s h (Next n named) (next_answer n new) k
told_comes s h n named k None free new (e, may, is) = inl (refl, (e, inl may, is))
told_comes s h n named k (Some order) free new left =
    inl (refl, (Ask n order, inr (inl (order, new_may s h (open_pass s h n) order new, refl)), left ∙ ap (λ (o : Option Order). asked_once o n order h) free))

going_comes : (s : Setting) (h : List Entry) (n named : ℕ) (answer : Stepped) (k : List Entry) → kept_of (open_pass s h n) ≡ None
    → Need (length h + 1 ≤ s.events) (Spent (length h)) answer (answer ≡ next_answer n (new_of s h (open_pass s h n))) → Leaves s h (Next n named) answer k → ComesTo s h (Next n named) answer k
going_comes s h n named answer k free (inl x) left = spent_comes s h (Next n named) (Next n named) answer k x.1 (over (length h + 1) s.events x.0) left
going_comes s h n named answer k free (inr x) left =
    subst (λ (a : Stepped). ComesTo s h (Next n named) a k) (sym x.1)
    (told_comes s h n named k (new_of s h (open_pass s h n)) free refl (subst (λ (a : Stepped). Leaves s h (Next n named) a k) x.1 left))

-- an entry of a value in a caused history is one that the pass may be given
may_be_given : (s : Setting) (h : List Entry) (n : ℕ) (value : Value) → IsCausedEntry s h (value_entry n value) → MayGive (open_pass s h n) value
may_be_given s h n (Made key) caused = caused
may_be_given s h n (Signed signature) caused = caused
may_be_given s h n (Answered answer) caused = caused
may_be_given s h n (Judged approved) caused = caused

caused_first : (s : Setting) (h : List Entry) (e : Entry) → IsRun s (e ∷ h) → IsCausedEntry s h e
unfolding IsCaused
caused_first s h e run = run.caused.0

given_grows : (s : Setting) (h : List Entry) (n named : ℕ) (value : Value) (k : List Entry) → IsRun s k → k ≡ value_entry n value ∷ h → GrowsPlainly s h (Next n named) k
given_grows s h n named value k run is =
    (value_entry n value, inr (inr (value, may_be_given s h n value (caused_first s h (value_entry n value) (subst (IsRun s) is run)), refl)), is)

-- the pass that waits is given a value of its question
given_comes : (s : Setting) (h : List Entry) (n named : ℕ) (given : Given) (answer : Stepped) (k : List Entry) → IsRun s k → AnswersGiven s h (Some (order_of given)) (order_of given) answer
    → Leaves s h (Give n named given) answer k → ComesTo s h (Next n named) answer k
given_comes s h n named given answer k run a left =
    made_comes s h (Next n named) (Give n named given) answer k (λ grown. given_grows s h n named (value_of given) k run grown) (fitted s h 1 answer (met (NotMine (order_of given) (order_of given)) answer refl a)) left

-- the next phase of a pass, by what it waits for
phase_comes : (s : Setting) (h : List Entry) (n named : ℕ) (kept : Option Order) (step : Move) (answer : Stepped) (k : List Entry) → kept_of (open_pass s h n) ≡ kept → ArePresent s h → IsOfPresent s h named (open_pass s h n)
    → IsNextWith n named kept step → IsRun s k → Answers s h step answer → Leaves s h step answer k → ComesTo s h (Next n named) answer k
phase_comes s h n named None step answer k free present of is run a left =
    let asks : Answers s h (Next n named) answer = subst (λ (m : Move). Answers s h m answer) is a in
    let going = open_now s h n named answer (AnswersGoing s h n (kept_of (open_pass s h n)) (new_of s h (open_pass s h n)) answer) (open_pass s h n) refl present of asks in
    going_comes s h n named answer k free (subst (λ (o : Option Order). AnswersGoing s h n o (new_of s h (open_pass s h n)) answer) free going) (subst (λ (m : Move). Leaves s h m answer k) is left)
phase_comes s h n named (Some order) step answer k waits present of (given, same, is) run a left =
    let gives : Answers s h (Give n named given) answer = subst (λ (m : Move). Answers s h m answer) is a in
    let takes = open_now s h n named answer (AnswersGiven s h (kept_of (open_pass s h n)) (order_of given) answer) (open_pass s h n) refl present of gives in
    given_comes s h n named given answer k run (subst (λ (o : Option Order). AnswersGiven s h o (order_of given) answer) (waits ∙ ap Some (sym same)) takes) (subst (λ (m : Move). Leaves s h m answer k) is left)

-- a move that is made as it is
other_comes : (s : Setting) (h : List Entry) (move step : Move) (answer : Stepped) (k : List Entry) → (Leaves s h move Done k → GrowsPlainly s h move k) → step ≡ move → (Answers s h move answer → IsMade s h (entries_for s h move) answer)
    → Answers s h step answer → Leaves s h step answer k → ComesTo s h move answer k
other_comes s h move step answer k grows is made a left =
    made_comes s h move move answer k grows (made (subst (λ (m : Move). Answers s h m answer) is a)) (subst (λ (m : Move). Leaves s h m answer k) is left)

-- the chosen move, or the value that is given in its place
pub chosen_comes : (s : Setting) (h : List Entry) (move step : Move) (answer : Stepped) (k : List Entry) → ArePresent s h → IsChosen s h move → IsMadeFor s h move step → IsRun s k → Answers s h step answer → Leaves s h step answer k
    → ComesTo s h move answer k
chosen_comes s h Script step answer k present c is run a left = other_comes s h Script step answer k (λ grown. grown) is (script_made s h answer c) a left
chosen_comes s h (Next n named) step answer k present c is run a left = phase_comes s h n named (kept_of (open_pass s h n)) step answer k refl present c.2 is run a left
chosen_comes s h (Deliver role kind to) step answer k present c is run a left =
    other_comes s h (Deliver role kind to) step answer k (λ grown. grown) is (λ asks. delivery_made s h role kind answer c.2.behind (subst (λ (m : ℕ). AnswersDelivery s h role kind m answer) c.3 asks)) a left
chosen_comes s h (Begin role key) step answer k present c is run a left = other_comes s h (Begin role key) step answer k (λ grown. grown) is (begin_made s h role key answer c.3.fits) a left
chosen_comes s h (Give n named given) step answer k present c is run a left = absurd c
chosen_comes s h (Decide n named d) step answer k present c is run a left = absurd c

-- ---- and what an answer tells

never : false ≡ true → ⊥
never is = absurd (cc is)

passed_need : {fact rest : Type 0} (refusal answer : Stepped) → (is_possible refusal ≡ true → ⊥) → is_possible answer ≡ true → Need fact refusal answer rest → fact × rest
passed_need refusal answer bad good (inl x) = absurd (bad (ap is_possible (sym x.1) ∙ good))
passed_need refusal answer bad good (inr x) = x

passed_bar : {fact rest : Type 0} (refusal answer : Stepped) → (is_possible refusal ≡ true → ⊥) → is_possible answer ≡ true → Bar fact refusal answer rest → (fact → ⊥) × rest
passed_bar refusal answer bad good (inl x) = absurd (bad (ap is_possible (sym x.1) ∙ good))
passed_bar refusal answer bad good (inr x) = x

accepted_made : (s : Setting) (h : List Entry) (more : ℕ) (answer : Stepped) → IsMade s h more answer → is_possible answer ≡ true
accepted_made s h more answer (inl is) = ap is_possible is
accepted_made s h more answer (inr is) = ap is_possible is.0

-- the answer to the next step of the script tells whether it is ready
pub ready_by : (s : Setting) (h : List Entry) (answer : Stepped) (b : Bool) → AnswersScript s h answer → b ≡ is_possible answer → IsTrue b ↔ IsStepReady s h
ready_by s h answer b a test = (on, λ c. test ∙ (accepted_made s h _ answer (script_made s h answer c a))) where
  on : IsTrue b → IsStepReady s h
  on is =
      let one = passed_need (NotNow ScriptOver) answer never (sym test ∙ is) a in
      let two = passed_need (NotNow ScriptWaits) answer never (sym test ∙ is) one.1 in
      record { left = one.0; ready = two.0 }

-- and that to a delivery of the newest write whether the role is behind
pub behind_by : (s : Setting) (h : List Entry) (role : Role) (kind : Kind) (answer : Stepped) (b : Bool) → AnswersDelivery s h role kind (last_of_kind kind (writes s h)) answer
    → b ≡ is_possible answer → IsTrue b ↔ IsBehind s h role kind
behind_by s h role kind answer b a test = (on, λ c. test ∙ (accepted_made s h 1 answer (delivery_made s h role kind answer c a))) where
  on : IsTrue b → IsBehind s h role kind
  on is =
      let good = sym test ∙ is in
      let one = passed_need (NotNow Stopped) answer never good a in
      let two = passed_need (NotNow NoInformer) answer never good one.1 in
      let three = passed_need (NotNow Held) answer never good two.1 in
      let four = passed_bar (NotNow (Current (position h role kind))) answer never good three.1 in
      let five = passed_need (NotNow (NotAWrite (last_of_kind kind (writes s h)))) answer never good four.1 in
      record { running = one.0; informed = two.0; free = three.0; behind = five.0.0 }
