-- The tests of the tables of answers decide what the tables say.
use Rattle.std.proofs.Common.{◌≡◌, ℕ, ◌+◌, ◌<◌, ◌≤◌, Bool, true, false, Option, Some, None, List, length, refl, sym, ap, subst, inl, inr, arith}
use Rattle.std.proofs.lemmas.Bool.Decides.{nat_tests}
use Rattle.std.specs.Prelude.{◌↔◌, ◌⊎◌, IsTrue, nat_le, if◌then◌else◌}
use Rattle.cmc_meta.specs.declared.key.Key.{Key}
use Rattle.cmc_meta.specs.declared.key.Kind.{Kind}
use Rattle.cmc_objects.specs.declared.role.Role.{Role}
use Rattle.cmc_objects.specs.declared.orders.Order.{Order}
use Rattle.cmc_pass.specs.GivenValues.{order_of}
use Rattle.cmc_pass.specs.declared.given.Given.{Given}
use Rattle.cmc_rules.specs.declared.progress.OpenPass.{OpenPass}
use Rattle.cmc_objects.specs.declared.entry.Entry.{Entry}
use Rattle.cmc_model.specs.Histories.{Setting, moment, runs}
use Rattle.cmc_model.specs.Writes.{writes, last_of_kind}
use Rattle.cmc_objects.specs.Informers.{has_informer}
use Rattle.cmc_rules.specs.Positions.{position, positions}
use Rattle.cmc_rules.specs.Views.{views}
use Rattle.cmc_rules.specs.Passes.{open_pass}
use Rattle.cmc_rules.specs.Origins.{origins, origin_at}
use Rattle.cmc_rules.specs.Memory.{past}
use Rattle.cmc_rules.specs.Sameness.{IsSame}
use Rattle.cmc_rules.specs.Legality.{IsOpen}
use Rattle.cmc_rules.specs.Scripts.{scripted, step_at, held}
use Rattle.cmc_rules.specs.UserSteps.{IsReady}
use Rattle.cmc_rules.specs.Sameness.{own_above}
use Rattle.cmc_moves.specs.declared.moves.Lack.{Lack}
use Rattle.cmc_moves.specs.declared.moves.Lack.TheVariants.{ScriptOver, ScriptWaits, Stopped, NoInformer, Held, Current, NotAWrite, NotQueued, InProcess, SameViews, OwnWrite, NoPass, Settled}
use Rattle.cmc_moves.specs.declared.moves.Stepped.{Stepped}
use Rattle.cmc_moves.specs.declared.moves.Stepped.TheVariants.{Done, Order as Asks, NotNow, Ended, NotMine, OtherViews, Spent}
use Rattle.cmc_moves.specs.Answers.{is_done, Need, Bar, BarOf, FitsLimit, IsWatchEvent, IsQueued, outdated, entries_of, next_effect, AnswersScript, AnswersDelivery, AnswersBegin, AnswersOpen, AnswersGoing, AnswersNext, AnswersDecided, AnswersDecide, AnswersGiven, AnswersGive, kept_of, new_of, next_answer}
use Rattle.cmc_rules.specs.Passes.{IsWorking}
use Rattle.cmc_moves.specs.Decisions.{Decision}
use Rattle.cmc_moves.specs.Tables.{fitting, own_answer, delivery_answer, begin_answer, script_answer}

-- a test decides whether a fact holds
pub record Decides (fact : Type 0) (test : Bool) : Type 0 where
  pub yes : test ≡ true → fact
  pub no : test ≡ false → fact → ⊥

pub decided : (fact : Type 0) (test : Bool) → (IsTrue test ↔ fact) → Decides fact test
decided fact test e = record { yes = λ is. e.0 is; no = λ is so. let not = e.1 so in absurd (cc (is, not)) }

fitted : (s : Setting) (h : List Entry) (more : ℕ) (answer : Stepped) (room : Bool) → Decides (length h + more ≤ s.events) room → answer ≡ fitting (length h) room → FitsLimit s h more answer
fitted s h more answer true d a = inr (d.yes refl, a)
fitted s h more answer false d a = inl (d.no refl, a)

newer : (s : Setting) (h : List Entry) (role : Role) (kind : Kind) (to : ℕ) (answer : Stepped) (is_news room : Bool)
    → Decides (IsWatchEvent s h role kind to) is_news → Decides (length h + 1 ≤ s.events) room → answer ≡ (if is_news then fitting (length h) room else NotNow (NotAWrite to))
    → Need (IsWatchEvent s h role kind to) (NotNow (NotAWrite to)) answer (FitsLimit s h 1 answer)
newer s h role kind to answer true room news d a = inr (news.yes refl, fitted s h 1 answer room d a)
newer s h role kind to answer false room news d a = inl (news.no refl, a)

behind : (s : Setting) (h : List Entry) (role : Role) (kind : Kind) (to : ℕ) (answer : Stepped) (late is_news room : Bool)
    → nat_le (last_of_kind kind (writes s h)) (position h role kind) ≡ late
    → Decides (IsWatchEvent s h role kind to) is_news → Decides (length h + 1 ≤ s.events) room
    → answer ≡ (if late then NotNow (Current (position h role kind)) else (if is_news then fitting (length h) room else NotNow (NotAWrite to)))
    → Bar (last_of_kind kind (writes s h) ≤ position h role kind) (NotNow (Current (position h role kind))) answer (Need (IsWatchEvent s h role kind to) (NotNow (NotAWrite to)) answer (FitsLimit s h 1 answer))
behind s h role kind to answer true is_news room e news d a = inl (grind (arith, nat_tests), a)
behind s h role kind to answer false is_news room e news d a = inr ((λ le. absurd (grind (arith, nat_tests))), newer s h role kind to answer is_news room news d a)

pub delivery_answers : (s : Setting) (h : List Entry) (role : Role) (kind : Kind) (to : ℕ) (answer : Stepped) (running informed kept is_news room : Bool)
    → runs s h role ≡ running → has_informer role kind ≡ informed → held s h role kind ≡ kept
    → Decides (IsWatchEvent s h role kind to) is_news → Decides (length h + 1 ≤ s.events) room
    → answer ≡ delivery_answer running informed kept (position h role kind) (last_of_kind kind (writes s h)) to is_news (length h) room
    → AnswersDelivery s h role kind to answer
delivery_answers s h role kind to answer false informed kept is_news room on has stays news d a = inl ((λ off. absurd (cc (on, off))), a)
delivery_answers s h role kind to answer true false kept is_news room on has stays news d a = inr (on, inl ((λ none. absurd (cc (has, none))), a))
delivery_answers s h role kind to answer true true true is_news room on has stays news d a = inr (on, inr (has, inl ((λ other. absurd (cc (stays, other))), a)))
delivery_answers s h role kind to answer true true false is_news room on has stays news d a =
    inr (on, inr (has, inr (stays, behind s h role kind to answer (nat_le (last_of_kind kind (writes s h)) (position h role kind)) is_news room refl news d a)))

queued : (s : Setting) (h : List Entry) (role : Role) (key : Key) (answer : Stepped) (is_queued room : Bool)
    → Decides (IsQueued s h role key) is_queued → Decides (length h + 1 ≤ s.events) room → answer ≡ (if is_queued then fitting (length h) room else NotNow NotQueued)
    → Need (IsQueued s h role key) (NotNow NotQueued) answer (FitsLimit s h 1 answer)
queued s h role key answer true room q d a = inr (q.yes refl, fitted s h 1 answer room d a)
queued s h role key answer false room q d a = inl (q.no refl, a)

anew : (s : Setting) (h : List Entry) (role : Role) (key : Key) (answer : Stepped) (same is_queued room : Bool)
    → Decides (IsSame (past s h role key).last (views s h role key) (moment s h) (positions h role)) same
    → Decides (IsQueued s h role key) is_queued → Decides (length h + 1 ≤ s.events) room → answer ≡ (if same then NotNow SameViews else (if is_queued then fitting (length h) room else NotNow NotQueued))
    → Bar (IsSame (past s h role key).last (views s h role key) (moment s h) (positions h role)) (NotNow SameViews) answer (Need (IsQueued s h role key) (NotNow NotQueued) answer (FitsLimit s h 1 answer))
anew s h role key answer true is_queued room is q d a = inl (is.yes refl, a)
anew s h role key answer false is_queued room is q d a = inr (is.no refl, queued s h role key answer is_queued room q d a)

owning : (s : Setting) (h : List Entry) (role : Role) (key : Key) (answer : Stepped) (own : Option ℕ) (same is_queued room : Bool)
    → Decides (IsSame (past s h role key).last (views s h role key) (moment s h) (positions h role)) same
    → Decides (IsQueued s h role key) is_queued → Decides (length h + 1 ≤ s.events) room
    → answer ≡ own_answer own (if same then NotNow SameViews else (if is_queued then fitting (length h) room else NotNow NotQueued))
    → BarOf own (λ version. NotNow (OwnWrite version)) answer
    (Bar (IsSame (past s h role key).last (views s h role key) (moment s h) (positions h role)) (NotNow SameViews) answer (Need (IsQueued s h role key) (NotNow NotQueued) answer (FitsLimit s h 1 answer)))
owning s h role key answer None same is_queued room is q d a = anew s h role key answer same is_queued room is q d a
owning s h role key answer (Some version) same is_queued room is q d a = a

pub begin_answers : (s : Setting) (h : List Entry) (role : Role) (key : Key) (answer : Stepped) (running working same is_queued room : Bool)
    → runs s h role ≡ running → Decides (IsWorking s h role key) working
    → Decides (IsSame (past s h role key).last (views s h role key) (moment s h) (positions h role)) same
    → Decides (IsQueued s h role key) is_queued → Decides (length h + 1 ≤ s.events) room
    → answer ≡ begin_answer running working (own_above (past s h role key).own (positions h role)) same is_queued (length h) room
    → AnswersBegin s h role key answer
begin_answers s h role key answer false working same is_queued room on busy is q d a = inl ((λ off. absurd (cc (on, off))), a)
begin_answers s h role key answer true true same is_queued room on busy is q d a = inr (on, inl (busy.yes refl, a))
begin_answers s h role key answer true false same is_queued room on busy is q d a =
    inr (on, inr (busy.no refl, owning s h role key answer (own_above (past s h role key).own (positions h role)) same is_queued room is q d a))

-- ---- the pass of a number

pub no_pass : (s : Setting) (h : List Entry) (pass named : ℕ) (rest : Type 0) → outdated s h named (origin_at pass (origins s h)) ≡ None → open_pass s h pass ≡ None → AnswersOpen s h pass named (NotNow (NoPass pass)) rest
no_pass s h pass named rest present none = rw present (inl (λ is. subst IsOpen none is, refl))

pub of_open_pass : (s : Setting) (h : List Entry) (pass named : ℕ) (p : OpenPass) (answer : Stepped) (rest : Type 0) → outdated s h named (origin_at pass (origins s h)) ≡ None → open_pass s h pass ≡ Some p → rest
    → AnswersOpen s h pass named answer rest
of_open_pass s h pass named p answer rest present is holds = rw present (inr (subst IsOpen (sym is) tt, holds))

pub script_answers : (s : Setting) (h : List Entry) (answer : Stepped) (left ready room : Bool)
    → Decides (scripted h < length s.script) left → Decides (IsReady s h (step_at s.script (scripted h + 1))) ready
    → Decides (length h + entries_of (next_effect s h) ≤ s.events) room
    → answer ≡ script_answer left ready (length h) room
    → AnswersScript s h answer
script_answers s h answer false ready room l r d a = inl (l.no refl, a)
script_answers s h answer true false room l r d a = inr (l.yes refl, inl (r.no refl, a))
script_answers s h answer true true room l r d a = inr (l.yes refl, inr (r.yes refl, fitted s h (entries_of (next_effect s h)) answer room d a))

-- ---- what a move that is made was given

met : {fact rest : Type 0} → (refusal : Stepped) → (Done ≡ refusal → ⊥) → Need fact refusal Done rest → fact × rest
met refusal other (inl bad) = absurd (other bad.1)
met refusal other (inr good) = good

free : {fact rest : Type 0} → (refusal : Stepped) → (Done ≡ refusal → ⊥) → Bar fact refusal Done rest → (fact → ⊥) × rest
free refusal other (inl bad) = absurd (other bad.1)
free refusal other (inr good) = good

not_now : (lack : Lack) → Done ≡ NotNow lack → ⊥
not_now lack e = absurd (cc e)

not_spent : (n : ℕ) → Done ≡ Spent n → ⊥
not_spent n e = absurd (cc e)

pub record MayDeliver (s : Setting) (h : List Entry) (role : Role) (kind : Kind) (to : ℕ) : Type 0 where
  pub running : runs s h role ≡ true
  pub informed : has_informer role kind ≡ true
  pub free : held s h role kind ≡ false
  pub news : IsWatchEvent s h role kind to
  pub room : length h + 1 ≤ s.events

pub may_deliver : (s : Setting) (h : List Entry) (role : Role) (kind : Kind) (to : ℕ) → AnswersDelivery s h role kind to Done → MayDeliver s h role kind to
may_deliver s h role kind to a =
    let one = met (NotNow Stopped) (not_now Stopped) a in
    let two = met (NotNow NoInformer) (not_now NoInformer) one.1 in
    let three = met (NotNow Held) (not_now Held) two.1 in
    let four = free (NotNow (Current (position h role kind))) (not_now (Current (position h role kind))) three.1 in
    let five = met (NotNow (NotAWrite to)) (not_now (NotAWrite to)) four.1 in
    let six = met (Spent (length h)) (not_spent (length h)) five.1 in
    record { running = one.0; informed = two.0; free = three.0; news = five.0; room = six.0 }

own_free : {rest : Type 0} → (own : Option ℕ) → BarOf own (λ version. NotNow (OwnWrite version)) Done rest → (own ≡ None) × rest
own_free None a = (refl, a)
own_free (Some version) a = absurd (not_now (OwnWrite version) a)

pub record MayBegin (s : Setting) (h : List Entry) (role : Role) (key : Key) : Type 0 where
  pub running : runs s h role ≡ true
  pub idle : IsWorking s h role key → ⊥
  pub own : own_above (past s h role key).own (positions h role) ≡ None
  pub other : IsSame (past s h role key).last (views s h role key) (moment s h) (positions h role) → ⊥
  pub queued : IsQueued s h role key
  pub room : length h + 1 ≤ s.events

pub may_begin : (s : Setting) (h : List Entry) (role : Role) (key : Key) → AnswersBegin s h role key Done → MayBegin s h role key
may_begin s h role key a =
    let one = met (NotNow Stopped) (not_now Stopped) a in
    let two = free (NotNow InProcess) (not_now InProcess) one.1 in
    let three = own_free (own_above (past s h role key).own (positions h role)) two.1 in
    let four = free (NotNow SameViews) (not_now SameViews) three.1 in
    let five = met (NotNow NotQueued) (not_now NotQueued) four.1 in
    let six = met (Spent (length h)) (not_spent (length h)) five.1 in
    record { running = one.0; idle = two.0; own = three.0; other = four.0; queued = five.0; room = six.0 }

pub record MayStep (s : Setting) (h : List Entry) : Type 0 where
  pub left : scripted h < length s.script
  pub ready : IsReady s h (step_at s.script (scripted h + 1))
  pub room : length h + entries_of (next_effect s h) ≤ s.events

pub may_step : (s : Setting) (h : List Entry) → AnswersScript s h Done → MayStep s h
may_step s h a =
    let one = met (NotNow ScriptOver) (not_now ScriptOver) a in
    let two = met (NotNow ScriptWaits) (not_now ScriptWaits) one.1 in
    let three = met (Spent (length h)) (not_spent (length h)) two.1 in
    record { left = one.0; ready = two.0; room = three.0 }

-- an answer that is no refusal of the pass is one of an open pass
in_present : (s : Setting) (h : List Entry) (pass : ℕ) (out : Option ℕ) (answer : Stepped) (rest : Type 0) → ((present : ℕ) → answer ≡ Ended present → ⊥) → (answer ≡ NotNow (NoPass pass) → ⊥)
    → BarOf out (λ present. Ended present) answer (Need (IsOpen (open_pass s h pass)) (NotNow (NoPass pass)) answer rest) → IsOpen (open_pass s h pass) × rest
in_present s h pass None answer rest ended closed (inl bad) = absurd (closed bad.1)
in_present s h pass None answer rest ended closed (inr good) = good
in_present s h pass (Some present) answer rest ended closed a = absurd (ended present a)

pub open_of : (s : Setting) (h : List Entry) (pass named : ℕ) (answer : Stepped) (rest : Type 0) → ((present : ℕ) → answer ≡ Ended present → ⊥) → (answer ≡ NotNow (NoPass pass) → ⊥)
    → AnswersOpen s h pass named answer rest → IsOpen (open_pass s h pass) × rest
open_of s h pass named answer rest ended closed a = in_present s h pass (outdated s h named (origin_at pass (origins s h))) answer rest ended closed a

not_ended : (present : ℕ) → Done ≡ Ended present → ⊥
not_ended present e = absurd (cc e)

going_done : (s : Setting) (h : List Entry) (pass : ℕ) (kept new : Option Order) → AnswersGoing s h pass kept new Done → length h + 1 ≤ s.events
going_done s h pass (Some order) new a = absurd (cc a)
going_done s h pass None new a = (met (Spent (length h)) (not_spent (length h)) a).0

-- there is room for the entry of a pass that goes on
pub room_next : (s : Setting) (h : List Entry) (pass named : ℕ) → AnswersNext s h pass named Done → length h + 1 ≤ s.events
room_next s h pass named a =
    going_done s h pass (kept_of (open_pass s h pass)) (new_of s h (open_pass s h pass))
    (open_of s h pass named Done (AnswersGoing s h pass (kept_of (open_pass s h pass)) (new_of s h (open_pass s h pass)) Done) not_ended (not_now (NoPass pass)) a).1

-- the question that is told is kept already, or new, with room for its entry
abbrev pub MayTell : Setting → List Entry → Option Order → Option Order → Order → Type 0
MayTell s h kept new order = (kept ≡ Some order) ⊎ ((kept ≡ None) × (new ≡ Some order) × (length h + 1 ≤ s.events))

told_new : (s : Setting) (h : List Entry) (pass number : ℕ) (new : Option Order) (order : Order) → Need (length h + 1 ≤ s.events) (Spent (length h)) (Asks number order) (Asks number order ≡ next_answer pass new)
    → (new ≡ Some order) × (length h + 1 ≤ s.events)
told_new s h pass number new order (inl bad) = absurd (cc (bad.1))
told_new s h pass number None order (inr good) = absurd (cc (good.1))
told_new s h pass number (Some other) order (inr good) = let same : other ≡ order = cc (good.1) in (ap (λ (o : Order). Some o) same, good.0)

going_told : (s : Setting) (h : List Entry) (pass number : ℕ) (kept new : Option Order) (order : Order) → AnswersGoing s h pass kept new (Asks number order) → MayTell s h kept new order
going_told s h pass number (Some other) new order a = let same : other ≡ order = cc a in inl (ap (λ (o : Order). Some o) same)
going_told s h pass number None new order a = let found = told_new s h pass number new order a in inr (refl, found.0, found.1)

pub may_tell : (s : Setting) (h : List Entry) (pass named number : ℕ) (order : Order) → AnswersNext s h pass named (Asks number order)
    → IsOpen (open_pass s h pass) × MayTell s h (kept_of (open_pass s h pass)) (new_of s h (open_pass s h pass)) order
may_tell s h pass named number order a =
    let found = open_of s h pass named (Asks number order) (AnswersGoing s h pass (kept_of (open_pass s h pass)) (new_of s h (open_pass s h pass)) (Asks number order)) (λ present e. absurd (cc e)) (λ e. absurd (cc e)) a in
    (found.0, going_told s h pass number (kept_of (open_pass s h pass)) (new_of s h (open_pass s h pass)) order found.1)

-- ---- decisions

-- what is known of a pass that is open may be exchanged
open_on : {one other : Type 0} → (s : Setting) (h : List Entry) (pass : ℕ) (out : Option ℕ) (answer : Stepped) → (one → other)
    → BarOf out (λ present. Ended present) answer (Need (IsOpen (open_pass s h pass)) (NotNow (NoPass pass)) answer one)
    → BarOf out (λ present. Ended present) answer (Need (IsOpen (open_pass s h pass)) (NotNow (NoPass pass)) answer other)
open_on s h pass None answer on (inl bad) = inl bad
open_on s h pass None answer on (inr good) = inr (good.0, on good.1)
open_on s h pass (Some present) answer on a = a

going_taken : (s : Setting) (h : List Entry) (pass : ℕ) (d : Decision) (answer : Stepped) → (answer ≡ NotNow Settled → ⊥) → (answer ≡ OtherViews pass → ⊥) → AnswersDecided s h pass d answer
    → AnswersGoing s h pass (kept_of (open_pass s h pass)) (new_of s h (open_pass s h pass)) answer
going_taken s h pass d answer settled others (inl bad) = absurd (settled bad.1)
going_taken s h pass d answer settled others (inr (is, inl bad)) = absurd (others bad.1)
going_taken s h pass d answer settled others (inr (is, inr (same, going))) = going

-- a decision that is taken is answered as the move without one
next_answers : (s : Setting) (h : List Entry) (pass named : ℕ) (d : Decision) (answer : Stepped) → (answer ≡ NotNow Settled → ⊥) → (answer ≡ OtherViews pass → ⊥) → AnswersDecide s h pass named d answer
    → AnswersNext s h pass named answer
next_answers s h pass named d answer settled others a =
    open_on s h pass (outdated s h named (origin_at pass (origins s h))) answer (going_taken s h pass d answer settled others) a

pub next_done : (s : Setting) (h : List Entry) (pass named : ℕ) (d : Decision) → AnswersDecide s h pass named d Done → AnswersNext s h pass named Done
next_done s h pass named d a = next_answers s h pass named d Done (not_now Settled) (λ e. absurd (cc e)) a

pub next_told : (s : Setting) (h : List Entry) (pass named number : ℕ) (d : Decision) (order : Order) → AnswersDecide s h pass named d (Asks number order) → AnswersNext s h pass named (Asks number order)
next_told s h pass named number d order a = next_answers s h pass named d (Asks number order) (λ e. absurd (cc e)) (λ e. absurd (cc e)) a

-- ---- values

given_done : (s : Setting) (h : List Entry) (kept : Option Order) (given : Order) → AnswersGiven s h kept given Done → (kept ≡ Some given) × (length h + 1 ≤ s.events)
given_done s h None given a = absurd (cc a)
given_done s h (Some order) given a =
    let one = met (NotMine order given) (λ e. absurd (cc e)) a in
    (ap (λ (o : Order). Some o) one.0, (met (Spent (length h)) (not_spent (length h)) one.1).0)

-- what is given answers the question that is kept, and there is room for its entry
pub may_give : (s : Setting) (h : List Entry) (pass named : ℕ) (given : Given) → AnswersGive s h pass named given Done → (kept_of (open_pass s h pass) ≡ Some (order_of given)) × (length h + 1 ≤ s.events)
may_give s h pass named given a =
    given_done s h (kept_of (open_pass s h pass)) (order_of given) (open_of s h pass named Done (AnswersGiven s h (kept_of (open_pass s h pass)) (order_of given) Done) not_ended (not_now (NoPass pass)) a).1

pub the_done : (answer : Stepped) → is_done answer ≡ true → answer ≡ Done
the_done Done e = refl
the_done other e = absurd (cc e)
