-- Lists of moves lead from runs to runs: answers and what they leave are enough.
use Rattle.std.proofs.Common.{◌≡◌, ◌∙◌, ◌+◌, ◌<◌, ◌≤◌, ℕ, List, [], ◌∷◌, ◌++◌, Option, Some, None, Bool, true, false, length, refl, sym, ap, subst, inl, inr, arith}
use Rattle.std.proofs.lemmas.Bool.Decides.{nat_tests}
use Rattle.std.specs.Prelude.{nat_le, if◌then◌else◌, option_and_then}
use Rattle.cmc_meta.specs.declared.key.Kind.{Kind}
use Rattle.cmc_objects.specs.declared.role.Role.{Role}
use Rattle.cmc_objects.specs.declared.call.Call.{Call}
use Rattle.cmc_objects.specs.declared.orders.Order.{Order}
use Rattle.cmc_pass.specs.GivenValues.{order_of, value_of}
use Rattle.cmc_pass.specs.Values.{IsValue}
use Rattle.cmc_pass.specs.declared.pass.Act.{Act}
use Rattle.cmc_pass.specs.declared.pass.Act.TheVariants.{Ask as Asks}
use Rattle.cmc_pass.specs.declared.value.Value.{Value}
use Rattle.cmc_rules.specs.declared.progress.Stage.{Stage}
use Rattle.cmc_rules.specs.declared.progress.Stage.TheVariants.{Fresh, Asked}
use Rattle.cmc_objects.specs.declared.entry.Cause.{Cause}
use Rattle.cmc_objects.specs.declared.entry.Step.{Step}
use Rattle.cmc_objects.specs.declared.entry.Who.TheVariants.{Pass}
use Rattle.cmc_objects.specs.declared.entry.Entry.{Entry}
use Rattle.cmc_objects.specs.declared.entry.Entry.TheVariants.{Script, Call as Called, Deliver, List as Listed, Ask, End}
use Rattle.cmc_model.specs.Histories.{Setting, accepted}
use Rattle.cmc_rules.specs.declared.effect.Effect.{Effect}
use Rattle.cmc_rules.specs.declared.effect.Effect.TheVariants as effects
use Rattle.cmc_rules.specs.declared.progress.OpenPass.{OpenPass}
use Rattle.cmc_rules.specs.Positions.{position}
use Rattle.cmc_rules.specs.Passes.{open_pass}
use Rattle.cmc_rules.specs.Legality.{IsLegalEntry, IsLegal, IsOpen}
use Rattle.cmc_rules.specs.Causes.{IsCausedEntry, IsCaused, act_of, IsAsked, AsksBy, IsGivenBy, MayCall, MayAsk, MayGive, MayEnd}
use Rattle.cmc_rules.specs.Scripts.{scripted, step_at}
use Rattle.cmc_rules.specs.UserSteps.{FollowsEntry, Follows, effect_of, owed}
use Rattle.cmc_rules.specs.Rights.{KeepsRights}
use Rattle.cmc_rules.specs.Runs.{IsPartOfRun, IsRun}
use Rattle.cmc_moves.specs.declared.moves.Move.{Move}
use Rattle.cmc_moves.specs.declared.moves.Move.TheVariants as moves
use Rattle.cmc_moves.specs.declared.moves.Stepped.{Stepped}
use Rattle.cmc_moves.specs.declared.moves.Stepped.TheVariants.{Done, Order as Tells}
use Rattle.cmc_moves.specs.Answers.{IsEffect, IsOfPass, GrowsBy, next_effect, entries_of, delivered, beginning, Grows, LeavesAsked, Leaves, Answers, AnswersScript, kept_at, kept_of, asked_by, new_at, new_of, asked_once, value_entry}
use Rattle.cmc_kernel.specs.Leads.{IsRight, IsStep, Lead, Extends}
use Rattle.cmc_rules.specs.Safety.{IsSafe}
use Rattle.cmc_safety.specs.Formed.{IsFormed}
use Rattle.cmc_safety.proofs.Rights.{keeps_rights}
use Rattle.cmc_safety.proofs.Safe.{safe}
use Rattle.cmc_kernel.proofs.Asking.{silent}
use Rattle.cmc_kernel.proofs.Said.{settled_run}
use Rattle.cmc_moves.proofs.Sounds.{each_sound}
use Rattle.cmc_kernel.proofs.Stepping.{low_start}
use Rattle.cmc_moves.proofs.Tables.{MayDeliver, may_deliver, may_begin, may_step, room_next, MayTell, may_tell, next_done, next_told, may_give}

-- ---- one entry more

-- a part of a run, with nothing owed to the script
pub record IsSettled (s : Setting) (h : List Entry) : Type 0 where
  pub run : IsPartOfRun s h
  pub settled : owed s h ≡ None

-- legal, caused and following, and it fits
pub record IsFair (s : Setting) (h : List Entry) (e : Entry) : Type 0 where
  pub legal : IsLegalEntry s h e
  pub caused : IsCausedEntry s h e
  pub follows : FollowsEntry s h e
  pub short : length h < s.events

one_more : (s : Setting) (h : List Entry) (e : Entry) → IsPartOfRun s h → IsFair s h e → IsPartOfRun s (e ∷ h)
unfolding IsLegal IsCaused Follows
one_more s h e run fair = record { legal = (fair.legal, run.legal); caused = (fair.caused, run.caused); follows = (fair.follows, run.follows); short = omega (arith, fair.short) }

-- ---- the script

low_of : (s : Setting) (h : List Entry) (o : Option Step) (role : Role) (at : ℕ) → option_and_then (effect_of s h) o ≡ Some (effects.Start role at) → at ≤ accepted s h
low_of s h None role at is = absurd (cc is)
low_of s h (Some step) role at is = low_start s h step role at is

fair_effect : (s : Setting) (h : List Entry) (effect : Effect) (e : Entry) → next_effect s h ≡ Some effect → IsEffect s (Script (scripted h + 1) ∷ h) effect e → length h + 2 ≤ s.events
    → IsFair s (Script (scripted h + 1) ∷ h) e × (owed s (e ∷ Script (scripted h + 1) ∷ h) ≡ None)
fair_effect s h (effects.Call call) e due (reply, right, is) room =
    subst (λ (x : Entry). IsFair s (Script (scripted h + 1) ∷ h) x × (owed s (x ∷ Script (scripted h + 1) ∷ h) ≡ None)) (sym is)
    (record { legal = (right, tt); caused = tt; follows = due; short = omega (arith, room) }, refl)
fair_effect s h (effects.Tick now) e due is room =
    subst (λ (x : Entry). IsFair s (Script (scripted h + 1) ∷ h) x × (owed s (x ∷ Script (scripted h + 1) ∷ h) ≡ None)) (sym is)
    (record { legal = tt; caused = tt; follows = due; short = omega (arith, room) }, refl)
fair_effect s h (effects.Stop role) e due is room =
    subst (λ (x : Entry). IsFair s (Script (scripted h + 1) ∷ h) x × (owed s (x ∷ Script (scripted h + 1) ∷ h) ≡ None)) (sym is)
    (record { legal = tt; caused = tt; follows = due; short = omega (arith, room) }, refl)
fair_effect s h (effects.Start role at) e due is room =
    subst (λ (x : Entry). IsFair s (Script (scripted h + 1) ∷ h) x × (owed s (x ∷ Script (scripted h + 1) ∷ h) ≡ None)) (sym is)
    (record { legal = low_of s h (step_at s.script (scripted h + 1)) role at due; caused = tt; follows = due; short = omega (arith, room) }, refl)

by_effect : (s : Setting) (h k : List Entry) (o : Option Effect) → next_effect s h ≡ o → length h + entries_of o ≤ s.events → IsPartOfRun s (Script (scripted h + 1) ∷ h)
    → GrowsBy s (Script (scripted h + 1) ∷ h) o k → IsSettled s k
by_effect s h k None due room run grown = subst (IsSettled s) (sym grown) (record { run = run; settled = due })
by_effect s h k (Some effect) due room run (e, is, grown) =
    let fair = fair_effect s h effect e due is room in
    subst (IsSettled s) (sym grown) (record { run = one_more s (Script (scripted h + 1) ∷ h) e run fair.0; settled = fair.1 })

some_room : (o : Option Effect) → 1 ≤ entries_of o
some_room None = omega arith
some_room (Some effect) = omega arith

by_script : (s : Setting) (h k : List Entry) → IsSettled s h → AnswersScript s h Done → GrowsBy s (Script (scripted h + 1) ∷ h) (next_effect s h) k → IsSettled s k
by_script s h k so a grown =
    let may = may_step s h a in
    let some = some_room (next_effect s h) in
    let room = may.room in
    let left = may.left in
    by_effect s h k (next_effect s h) refl may.room
    (one_more s h (Script (scripted h + 1)) so.run
    (record { legal = tt; caused = tt; follows = record { settled = so.settled; numbered = refl; stands = omega (arith, left); ready = may.ready }; short = omega (arith, some, room) }))
    grown

-- ---- deliveries

delivered_fair : (s : Setting) (h : List Entry) (role : Role) (kind : Kind) (to : ℕ) (within : Bool) → nat_le (accepted s h) (position h role kind + s.window) ≡ within → owed s h ≡ None
    → MayDeliver s h role kind to → IsFair s h (if within then Deliver role kind to else Listed role kind (accepted s h))
delivered_fair s h role kind to true e settled may = record {
  legal = record { running = may.running; informed = may.informed; further = may.news.0; written = may.news.1; within = grind (arith, nat_tests) };
  caused = tt;
  follows = record { settled = settled; free = may.free };
  short = let room = may.room in omega (arith, room);
}
delivered_fair s h role kind to false e settled may = record {
  legal = record { running = may.running; informed = may.informed; beyond = grind (arith, nat_tests); newest = refl };
  caused = tt;
  follows = record { settled = settled; free = may.free };
  short = let room = may.room in omega (arith, room);
}

delivered_owes : (s : Setting) (h : List Entry) (role : Role) (kind : Kind) (to : ℕ) (within : Bool) → owed s ((if within then Deliver role kind to else Listed role kind (accepted s h)) ∷ h) ≡ None
delivered_owes s h role kind to true = refl
delivered_owes s h role kind to false = refl

-- ---- passes

open_calls : (s : Setting) (h : List Entry) (p : Option OpenPass) (call : Call) → MayCall s h p call → IsOpen p
open_calls s h None call may = may
open_calls s h (Some p) call may = tt

open_ends : (s : Setting) (h : List Entry) (p : Option OpenPass) (cause : Cause) → MayEnd s h p cause → IsOpen p
open_ends s h None cause may = may
open_ends s h (Some p) cause may = tt

by_pass : (s : Setting) (h : List Entry) (n : ℕ) (e : Entry) → IsSettled s h → length h + 1 ≤ s.events → IsOfPass s h n e → IsSettled s (e ∷ h)
by_pass s h n e so room (inl (call, may, (reply, right, is))) =
    subst (λ (x : Entry). IsSettled s (x ∷ h)) (sym is)
    (record {
      run = one_more s h (Called (Pass n) call reply) so.run
          (record { legal = (right, open_calls s h (open_pass s h n) call may); caused = may; follows = so.settled; short = omega (arith, room) });
      settled = refl;
    })
by_pass s h n e so room (inr (cause, may, is)) =
    subst (λ (x : Entry). IsSettled s (x ∷ h)) (sym is)
    (record { run = one_more s h (End n cause) so.run (record { legal = open_ends s h (open_pass s h n) cause may; caused = may; follows = so.settled; short = omega (arith, room) }); settled = refl })

-- a question that is new is one that the pass may ask
asked_at : (does : Act) (order : Order) → asked_by does ≡ Some order → IsAsked does order
asked_at (Asks asked) order is = let same : order ≡ asked = cc is in same
asked_at other order is = absurd (cc is)

new_asked : (stage : Stage) (does : Act) (order : Order) → new_at stage does ≡ Some order → AsksBy stage does order
new_asked Fresh does order is = asked_at does order is
new_asked other does order is = absurd (cc is)

pub new_may : (s : Setting) (h : List Entry) (p : Option OpenPass) (order : Order) → new_of s h p ≡ Some order → MayAsk s h p order
new_may s h None order is = absurd (cc is)
new_may s h (Some p) order is = new_asked p.stage (act_of s h p) order is

-- a question that is told stands once
by_question : (s : Setting) (h : List Entry) (pass : ℕ) (order : Order) (k : List Entry) → IsSettled s h → IsOpen (open_pass s h pass)
    → MayTell s h (kept_of (open_pass s h pass)) (new_of s h (open_pass s h pass)) order → k ≡ asked_once (kept_of (open_pass s h pass)) pass order h → IsSettled s k
by_question s h pass order k so is (inl kept) left = subst (IsSettled s) (sym (left ∙ ap (λ (o : Option Order). asked_once o pass order h) kept)) so
by_question s h pass order k so is (inr (none, new, room)) left =
    subst (IsSettled s) (sym (left ∙ ap (λ (o : Option Order). asked_once o pass order h) none))
    (record {
      run = one_more s h (Ask pass order) so.run (record { legal = is; caused = new_may s h (open_pass s h pass) order new; follows = so.settled; short = omega (arith, room) });
      settled = refl;
    })

by_told : (s : Setting) (h : List Entry) (move : Move) (number : ℕ) (order : Order) (k : List Entry) → IsSettled s h → Answers s h move (Tells number order) → LeavesAsked s h move order k → IsSettled s k
by_told s h (moves.Next pass named) number order k so a left = let may = may_tell s h pass named number order a in by_question s h pass order k so may.0 may.1 left
by_told s h (moves.Decide pass named d) number order k so a left =
    let may = may_tell s h pass named number order (next_told s h pass named number d order a) in by_question s h pass order k so may.0 may.1 left
by_told s h other number order k so a same = subst (IsSettled s) (sym same) so

-- a value that is right for the question that is kept is one that the pass may be given
given_at : (stage : Stage) (order : Order) (value : Value) → kept_at stage ≡ Some order → IsValue order value → IsGivenBy stage value
given_at (Asked asked) order value is right = let same : order ≡ asked = cc is in subst (λ (o : Order). IsValue o value) same right
given_at other order value is right = absurd (cc is)

pub given_may : (p : Option OpenPass) (order : Order) (value : Value) → kept_of p ≡ Some order → IsValue order value → IsOpen p × MayGive p value
given_may None order value is right = absurd (cc is)
given_may (Some p) order value is right = (tt, given_at p.stage order value is right)

by_value : (s : Setting) (h : List Entry) (pass : ℕ) (order : Order) (value : Value) → IsSettled s h → length h + 1 ≤ s.events → kept_of (open_pass s h pass) ≡ Some order → IsValue order value
    → IsSettled s (value_entry pass value ∷ h)
by_value s h pass order value so room kept right =
    let may = given_may (open_pass s h pass) order value kept right in
    let quiet = silent s h pass value in
    record {
      run = one_more s h (value_entry pass value) so.run (record { legal = quiet.legal may.0; caused = quiet.caused may.1; follows = quiet.follows so.settled; short = omega (arith, room) });
      settled = quiet.settled;
    }

-- ---- all moves

by_move : (s : Setting) (h : List Entry) (move : Move) (k : List Entry) → IsRight move → IsSettled s h → Answers s h move Done → Grows s h move k → IsSettled s k
by_move s h moves.Script k right so a grown = by_script s h k so a grown
by_move s h (moves.Deliver role kind to) k right so a grown =
    let within = nat_le (accepted s h) (position h role kind + s.window) in
    subst (IsSettled s) (sym grown)
    (record { run = one_more s h (delivered s h role kind to) so.run (delivered_fair s h role kind to within refl so.settled (may_deliver s h role kind to a)); settled = delivered_owes s h role kind to within })
by_move s h (moves.Begin role key) k right so a grown =
    let may = may_begin s h role key a in
    let room = may.room in
    subst (IsSettled s) (sym grown)
    (record {
      run = one_more s h (beginning s h role key) so.run
          (record {
            legal = record { running = may.running; numbered = refl; work = may.queued.work; known = may.queued.known; free = may.idle; told = refl; present = refl };
            caused = record { told = may.own; other = may.other };
            follows = so.settled;
            short = omega (arith, room);
          });
      settled = refl;
    })
by_move s h (moves.Next pass named) k right so a (e, is, grown) = subst (IsSettled s) (sym grown) (by_pass s h pass e so (room_next s h pass named a) is)
by_move s h (moves.Give pass named given) k right so a grown =
    let may = may_give s h pass named given a in subst (IsSettled s) (sym grown) (by_value s h pass (order_of given) (value_of given) so may.1 may.0 right)
by_move s h (moves.Decide pass named d) k right so a (e, is, grown) = subst (IsSettled s) (sym grown) (by_pass s h pass e so (room_next s h pass named (next_done s h pass named d a)) is)

by_step : (s : Setting) (h : List Entry) (move : Move) (answer : Stepped) (k : List Entry) → IsRight move → IsSettled s h → Answers s h move answer → Leaves s h move answer k → IsSettled s k
by_step s h move Done k right so a grown = by_move s h move k right so a grown
by_step s h move (Tells number order) k right so a left = by_told s h move number order k so a left
by_step s h move other k right so a same = subst (IsSettled s) (sym same) so

leads : (s : Setting) (ms : List Move) (h k : List Entry) → Lead s ms h k → IsSettled s h → IsSettled s k
leads s [] h k same so = subst (IsSettled s) (sym same) so
leads s (move ∷ ms) h k (g, step, rest) so = leads s ms g k rest (by_step s h move step.answer g step.right so step.answers step.leaves)

begins_settled : (s : Setting) → IsSettled s []
unfolding IsLegal IsCaused Follows
begins_settled s = record { run = record { legal = tt; caused = tt; follows = tt; short = omega arith }; settled = refl }

pub keeps : (s : Setting) (ms : List Move) (h : List Entry) → IsFormed s → Lead s ms [] h → IsRun s h × (KeepsRights s h × IsSafe s h)
keeps s ms h formed led =
    let so = leads s ms [] h led (begins_settled s) in
    let run = settled_run s h so.run so.settled in
    (run, (keeps_rights each_sound s h formed run, safe each_sound s h formed so.run.legal so.run.caused so.run.follows))

-- one move more
pub led_on : (s : Setting) (ms : List Move) (h g k : List Entry) (move : Move) → Lead s ms h g → IsStep s g move k → Lead s (ms ++ move ∷ []) h k
led_on s [] h g k move same step = (k, subst (λ (l : List Entry). IsStep s l move k) same step, refl)
led_on s (m ∷ ms) h g k move (a, x, rest) step = (a, x, led_on s ms a g k move rest step)

-- ---- the old history stands below

above : (s : Setting) (h g k : List Entry) (o : Option Effect) → Extends h g → GrowsBy s g o k → Extends h k
above s h g k None (es, is) grown = (es, grown ∙ is)
above s h g k (Some effect) (es, is) (e, right, grown) = (e ∷ es, grown ∙ ap (λ (l : List Entry). e ∷ l) is)

pub extends_by : (s : Setting) (h : List Entry) (move : Move) (k : List Entry) → Grows s h move k → Extends h k
extends_by s h moves.Script k grown = above s h (Script (scripted h + 1) ∷ h) k (next_effect s h) (Script (scripted h + 1) ∷ [], refl) grown
extends_by s h (moves.Deliver role kind to) k grown = (delivered s h role kind to ∷ [], grown)
extends_by s h (moves.Begin role key) k grown = (beginning s h role key ∷ [], grown)
extends_by s h (moves.Next pass named) k (e, right, is) = (e ∷ [], is)
extends_by s h (moves.Give pass named given) k grown = (value_entry pass (value_of given) ∷ [], grown)
extends_by s h (moves.Decide pass named d) k (e, right, is) = (e ∷ [], is)

-- a question that is told is at most one entry more
asked_above : (kept : Option Order) (pass : ℕ) (order : Order) (h k : List Entry) → k ≡ asked_once kept pass order h → Extends h k
asked_above None pass order h k is = (Ask pass order ∷ [], is)
asked_above (Some other) pass order h k is = ([], is)

extends_asked : (s : Setting) (h : List Entry) (move : Move) (order : Order) (k : List Entry) → LeavesAsked s h move order k → Extends h k
extends_asked s h (moves.Next pass named) order k left = asked_above (kept_of (open_pass s h pass)) pass order h k left
extends_asked s h (moves.Decide pass named d) order k left = asked_above (kept_of (open_pass s h pass)) pass order h k left
extends_asked s h other order k same = ([], same)

left_by : (s : Setting) (h : List Entry) (move : Move) (answer : Stepped) (k : List Entry) → Leaves s h move answer k → Extends h k
left_by s h move Done k grown = extends_by s h move k grown
left_by s h move (Tells number order) k left = extends_asked s h move order k left
left_by s h move other k same = ([], same)

assoc : (xs ys zs : List Entry) → (xs ++ (ys ++ zs)) ≡ ((xs ++ ys) ++ zs)
assoc [] ys zs = refl
assoc (x ∷ xs) ys zs = ap (λ (l : List Entry). x ∷ l) (assoc xs ys zs)

pub extends_on : (h g k : List Entry) → Extends h g → Extends g k → Extends h k
extends_on h g k (xs, one) (ys, two) = (ys ++ xs, two ∙ (ap (λ (l : List Entry). ys ++ l) one ∙ assoc ys xs h))

pub grows : (s : Setting) (ms : List Move) (h k : List Entry) → Lead s ms h k → Extends h k
grows s [] h k same = ([], same)
grows s (move ∷ ms) h k (g, step, rest) = extends_on h g k (left_by s h move step.answer g step.leaves) (grows s ms g k rest)
