-- What a move adds to a history is one, unless a question has a free row.
use Rattle.std.proofs.Common.{◌≡◌, ◌∙◌, ℕ, ℤ, ◌+◌, List, ◌∷◌, Option, Some, None, inl, inr, refl, sym, ap, subst}
use Rattle.std.specs.Prelude.{IfSome}
use Rattle.cmc_objects.specs.declared.call.Call.{Call}
use Rattle.cmc_objects.specs.declared.call.Reply.{Reply}
use Rattle.cmc_objects.specs.declared.orders.Order.{Order}
use Rattle.cmc_objects.specs.declared.role.Role.{Role}
use Rattle.cmc_pass.specs.declared.value.Value.{Value}
use Rattle.cmc_pass.specs.declared.pass.Views.{Views}
use Rattle.cmc_objects.specs.declared.entry.Who.{Who}
use Rattle.cmc_objects.specs.declared.entry.Who.TheVariants.{User, Pass}
use Rattle.cmc_objects.specs.declared.entry.Cause.{Cause}
use Rattle.cmc_objects.specs.declared.entry.Entry.{Entry}
use Rattle.cmc_objects.specs.declared.entry.Entry.TheVariants.{Script, Call as Called, Ask, End}
use Rattle.cmc_rules.specs.declared.effect.Effect.{Effect}
use Rattle.cmc_rules.specs.declared.effect.Effect.TheVariants as effects
use Rattle.cmc_pass.specs.declared.pass.Act.{Act}
use Rattle.cmc_pass.specs.declared.pass.Act.TheVariants.{Nothing, Call as Calls, Ask as Asks, Issue, Temporary}
use Rattle.cmc_rules.specs.declared.progress.Stage.{Stage}
use Rattle.cmc_rules.specs.declared.progress.Stage.TheVariants.{Fresh, Asked, Given, Read, Saved, Wrote, Refused, Barred}
use Rattle.cmc_rules.specs.declared.progress.OpenPass.{OpenPass}
use Rattle.cmc_model.specs.Histories.{Setting, state}
use Rattle.cmc_rules.specs.Passes.{open_pass}
use Rattle.cmc_rules.specs.Causes.{act_of, after_of, IsFirstCall, IsSecretCall, IsStatusCall, IsNextCall, MayCall, IsAsked, AsksBy, MayAsk, IsGivenBy, MayGive, EndsBy, MayEnd}
use Rattle.cmc_rules.specs.Runs.{IsRun}
use Rattle.cmc_rules.specs.Scripts.{scripted}
use Rattle.cmc_safety.proofs.Course.{HasCome, HasComeTo, has_come}
use Rattle.cmc_moves.specs.declared.moves.Move.{Move}
use Rattle.cmc_moves.specs.declared.moves.Move.TheVariants as moves
use Rattle.cmc_moves.specs.Answers.{IsCalled, IsEffect, IsOfPass, GrowsBy, next_effect, value_entry, kept_at}
use Rattle.cmc_moves.proofs.Sounds.{each_sound}
use Rattle.cmc_world.specs.Histories.{IsBound, HasNoFree, IsOfCourse, GrowsPlainly}
use Rattle.cmc_world.proofs.OneReply.{one_reply}
use Rattle.cmc_world.proofs.OneValue.{one_value, bound_in}

-- ---- a step of the script

one_called : (s : Setting) (h : List Entry) (who : Who) (call : Call) (e d : Entry) → IsCalled s h who call e → IsCalled s h who call d → e ≡ d
one_called s h who call e d (r, x, e_is) (q, y, d_is) = e_is ∙ ap (λ (reply : Reply). Called who call reply) (one_reply s.faults (state s h) call r q x y) ∙ sym d_is

one_effect : (s : Setting) (h : List Entry) (effect : Effect) (e d : Entry) → IsEffect s h effect e → IsEffect s h effect d → e ≡ d
one_effect s h (effects.Call call) e d x y = one_called s h User call e d x y
one_effect s h (effects.Tick now) e d x y = x ∙ sym y
one_effect s h (effects.Stop role) e d x y = x ∙ sym y
one_effect s h (effects.Start role at) e d x y = x ∙ sym y

one_script : (s : Setting) (h : List Entry) (o : Option Effect) (g k : List Entry) → GrowsBy s h o g → GrowsBy s h o k → g ≡ k
one_script s h None g k x y = x ∙ sym y
one_script s h (Some effect) g k (e, x, g_is) (d, y, k_is) = g_is ∙ ap (λ (z : Entry). z ∷ h) (one_effect s h effect e d x y) ∙ sym k_is

-- ---- a pass that goes on

one_first_call : (does : Act) (call other : Call) → IsFirstCall does call → IsFirstCall does other → call ≡ other
one_first_call Nothing call other x y = absurd x
one_first_call (Calls first) call other x y = x ∙ sym y
one_first_call (Asks order) call other x y = absurd x
one_first_call (Issue plan) call other x y = x ∙ sym y
one_first_call (Temporary plan) call other x y = x ∙ sym y

one_secret_call : (does : Act) (call other : Call) → IsSecretCall does call → IsSecretCall does other → call ≡ other
one_secret_call Nothing call other x y = absurd x
one_secret_call (Calls first) call other x y = absurd x
one_secret_call (Asks order) call other x y = absurd x
one_secret_call (Issue plan) call other x y = x ∙ sym y
one_secret_call (Temporary plan) call other x y = x ∙ sym y

one_status_call : (does : Act) (call other : Call) → IsStatusCall does call → IsStatusCall does other → call ≡ other
one_status_call Nothing call other x y = absurd x
one_status_call (Calls first) call other x y = absurd x
one_status_call (Asks order) call other x y = absurd x
one_status_call (Issue plan) call other x y = x ∙ sym y
one_status_call (Temporary plan) call other x y = absurd x

one_next_call : (stage : Stage) (does : Act) (after : Order → Value → Option Call) (call other : Call) → IsNextCall stage does after call → IsNextCall stage does after other → call ≡ other
one_next_call Fresh does after call other x y = one_first_call does call other x y
one_next_call (Asked order) does after call other x y = absurd x
one_next_call (Given order value) does after call other x y = let same : Some call ≡ Some other = sym x ∙ y in cc same
one_next_call Read does after call other x y = one_secret_call does call other x y
one_next_call Saved does after call other x y = one_status_call does call other x y
one_next_call Wrote does after call other x y = absurd x
one_next_call (Refused entry obstacle) does after call other x y = absurd x
one_next_call Barred does after call other x y = absurd x

one_call : (s : Setting) (h : List Entry) (o : Option OpenPass) (call other : Call) → MayCall s h o call → MayCall s h o other → call ≡ other
one_call s h None call other x y = absurd x
one_call s h (Some p) call other x y = one_next_call p.stage (act_of s h p) (after_of p) call other x y

one_ending : (stage : Stage) (does : Act) (cause other : Cause) → EndsBy stage does cause → EndsBy stage does other → cause ≡ other
one_ending Fresh does cause other x y = x.1 ∙ sym y.1
one_ending Wrote does cause other x y = x ∙ sym y
one_ending (Refused entry obstacle) does cause other x y = x ∙ sym y
one_ending other_stage does cause other x y = absurd x

one_end : (s : Setting) (h : List Entry) (o : Option OpenPass) (cause other : Cause) → MayEnd s h o cause → MayEnd s h o other → cause ≡ other
one_end s h None cause other x y = absurd x
one_end s h (Some p) cause other x y = one_ending p.stage (act_of s h p) cause other x y

-- a pass that has a call to make does not end
calls_first : (does : Act) (call : Call) → IsFirstCall does call → does ≡ Nothing → ⊥
calls_first Nothing call x e = absurd x
calls_first (Calls first) call x e = absurd (cc e)
calls_first (Asks order) call x e = absurd x
calls_first (Issue plan) call x e = absurd (cc e)
calls_first (Temporary plan) call x e = absurd (cc e)

calls_on : (stage : Stage) (does : Act) (after : Order → Value → Option Call) (call : Call) (cause : Cause) → IsNextCall stage does after call → EndsBy stage does cause → ⊥
calls_on Fresh does after call cause x y = calls_first does call x y.0
calls_on (Asked order) does after call cause x y = y
calls_on (Given order value) does after call cause x y = y
calls_on Read does after call cause x y = y
calls_on Saved does after call cause x y = y
calls_on Wrote does after call cause x y = x
calls_on (Refused entry obstacle) does after call cause x y = x
calls_on Barred does after call cause x y = x

call_or_end : (s : Setting) (h : List Entry) (o : Option OpenPass) (call : Call) (cause : Cause) → MayCall s h o call → MayEnd s h o cause → ⊥
call_or_end s h None call cause x y = absurd x
call_or_end s h (Some p) call cause x y = calls_on p.stage (act_of s h p) (after_of p) call cause x y

calls_alike : (s : Setting) (h : List Entry) (n : ℕ) (call other : Call) (e d : Entry) → call ≡ other → IsCalled s h (Pass n) call e → IsCalled s h (Pass n) other d → e ≡ d
calls_alike s h n call other e d same x y = one_called s h (Pass n) other e d (subst (λ (c : Call). IsCalled s h (Pass n) c e) same x) y

one_of_pass : (s : Setting) (h : List Entry) (n : ℕ) (e d : Entry) → IsOfPass s h n e → IsOfPass s h n d → e ≡ d
one_of_pass s h n e d (inl (call, may, x)) (inl (other, can, y)) = calls_alike s h n call other e d (one_call s h (open_pass s h n) call other may can) x y
one_of_pass s h n e d (inl (call, may, x)) (inr (cause, can, y)) = absurd (call_or_end s h (open_pass s h n) call cause may can)
one_of_pass s h n e d (inr (cause, may, x)) (inl (call, can, y)) = absurd (call_or_end s h (open_pass s h n) call cause can may)
one_of_pass s h n e d (inr (cause, may, x)) (inr (other, can, y)) = x ∙ ap (λ (c : Cause). End n c) (one_end s h (open_pass s h n) cause other may can) ∙ sym y

-- ---- questions and values

one_asked : (does : Act) (order other : Order) → IsAsked does order → IsAsked does other → order ≡ other
one_asked (Asks asked) order other x y = x ∙ sym y
one_asked does order other x y = absurd x

one_asks : (stage : Stage) (does : Act) (order other : Order) → AsksBy stage does order → AsksBy stage does other → order ≡ other
one_asks Fresh does order other x y = one_asked does order other x y
one_asks stage does order other x y = absurd x

one_question : (s : Setting) (h : List Entry) (o : Option OpenPass) (order other : Order) → MayAsk s h o order → MayAsk s h o other → order ≡ other
one_question s h None order other x y = absurd x
one_question s h (Some p) order other x y = one_asks p.stage (act_of s h p) order other x y

-- a pass that asks does not call or end
asks_alone : (does : Act) (order : Order) → IsAsked does order → ((call : Call) → IsFirstCall does call → ⊥) × (does ≡ Nothing → ⊥)
asks_alone (Asks asked) order x = (λ call y. y, λ e. absurd (cc e))
asks_alone does order x = absurd x

asks_first : (stage : Stage) (does : Act) (after : Order → Value → Option Call) (order : Order) → AsksBy stage does order
    → ((call : Call) → IsNextCall stage does after call → ⊥) × ((cause : Cause) → EndsBy stage does cause → ⊥)
asks_first Fresh does after order x = let alone = asks_alone does order x in (alone.0, λ cause y. alone.1 y.0)
asks_first stage does after order x = absurd x

ask_or_go : (s : Setting) (h : List Entry) (o : Option OpenPass) (order : Order) → MayAsk s h o order → ((call : Call) → MayCall s h o call → ⊥) × ((cause : Cause) → MayEnd s h o cause → ⊥)
ask_or_go s h None order x = absurd x
ask_or_go s h (Some p) order x = asks_first p.stage (act_of s h p) (after_of p) order x

ask_or_pass : (s : Setting) (h : List Entry) (n : ℕ) (order : Order) (e : Entry) → MayAsk s h (open_pass s h n) order → IsOfPass s h n e → ⊥
ask_or_pass s h n order e x (inl (call, may, is)) = (ask_or_go s h (open_pass s h n) order x).0 call may
ask_or_pass s h n order e x (inr (cause, may, is)) = (ask_or_go s h (open_pass s h n) order x).1 cause may

-- a pass that is given a value waits for it, and does nothing else
waits : (stage : Stage) (does : Act) (after : Order → Value → Option Call) (value : Value) → IsGivenBy stage value
    → ((call : Call) → IsNextCall stage does after call → ⊥) × (((order : Order) → AsksBy stage does order → ⊥) × ((cause : Cause) → EndsBy stage does cause → ⊥))
waits (Asked order) does after value x = (λ call y. y, (λ asked y. y, λ cause y. y))
waits stage does after value x = absurd x

given_alone : (s : Setting) (h : List Entry) (o : Option OpenPass) (value : Value) → MayGive o value
    → ((call : Call) → MayCall s h o call → ⊥) × (((order : Order) → MayAsk s h o order → ⊥) × ((cause : Cause) → MayEnd s h o cause → ⊥))
given_alone s h None value x = absurd x
given_alone s h (Some p) value x = waits p.stage (act_of s h p) (after_of p) value x

given_or_pass : (s : Setting) (h : List Entry) (n : ℕ) (value : Value) (e : Entry) → MayGive (open_pass s h n) value → IsOfPass s h n e → ⊥
given_or_pass s h n value e x (inl (call, may, is)) = (given_alone s h (open_pass s h n) value x).0 call may
given_or_pass s h n value e x (inr (cause, may, is)) = (given_alone s h (open_pass s h n) value x).1.1 cause may

-- the question that a pass waits at stands in the history
kept_bound : (h : List Entry) (n : ℕ) (role : Role) (seen : Views) (since : ℤ) (stage : Stage) (order : Order) → kept_at stage ≡ Some order → HasNoFree h → HasCome h n role seen since stage → IsBound order
kept_bound h n role seen since (Asked asked) order is none come = let same : asked ≡ order = cc is in subst IsBound same (bound_in h n asked none come.asked)
kept_bound h n role seen since stage order is none come = absurd (cc is)

one_given_at : (stage : Stage) (v w : Value) → ((order : Order) → kept_at stage ≡ Some order → IsBound order) → IsGivenBy stage v → IsGivenBy stage w → v ≡ w
one_given_at (Asked order) v w bound x y = one_value order v w (bound order refl) x y
one_given_at stage v w bound x y = absurd x

one_given : (s : Setting) (h : List Entry) (n : ℕ) (o : Option OpenPass) (v w : Value) → HasNoFree h → IfSome o (HasComeTo h n) → MayGive o v → MayGive o w → v ≡ w
one_given s h n None v w none come x y = absurd x
one_given s h n (Some p) v w none come x y = one_given_at p.stage v w (λ order is. kept_bound h n p.role p.seen p.since p.stage order is none come) x y

-- ---- one entry of a pass

one_of_course : (s : Setting) (h : List Entry) (n : ℕ) (e d : Entry) → IsRun s h → HasNoFree h → IsOfCourse s h n e → IsOfCourse s h n d → e ≡ d
one_of_course s h n e d run none (inl x) (inl y) = one_of_pass s h n e d x y
one_of_course s h n e d run none (inl x) (inr (inl (order, may, is))) = absurd (ask_or_pass s h n order e may x)
one_of_course s h n e d run none (inl x) (inr (inr (value, may, is))) = absurd (given_or_pass s h n value e may x)
one_of_course s h n e d run none (inr (inl (order, may, is))) (inl y) = absurd (ask_or_pass s h n order d may y)
one_of_course s h n e d run none (inr (inl (order, may, is))) (inr (inl (other, can, same))) =
    is ∙ ap (λ (o : Order). Ask n o) (one_question s h (open_pass s h n) order other may can) ∙ sym same
one_of_course s h n e d run none (inr (inl (order, may, is))) (inr (inr (value, can, same))) = absurd ((given_alone s h (open_pass s h n) value can).1.0 order may)
one_of_course s h n e d run none (inr (inr (value, may, is))) (inl y) = absurd (given_or_pass s h n value d may y)
one_of_course s h n e d run none (inr (inr (value, may, is))) (inr (inl (order, can, same))) = absurd ((given_alone s h (open_pass s h n) value may).1.0 order can)
one_of_course s h n e d run none (inr (inr (value, may, is))) (inr (inr (other, can, same))) =
    is ∙ ap (value_entry n) (one_given s h n (open_pass s h n) value other none (has_come each_sound s h n run.legal run.caused) may can) ∙ sym same

-- ---- all moves

-- of two histories that the plain move leaves of one the one is the other
pub one_growth : (s : Setting) (h : List Entry) (move : Move) (g k : List Entry) → IsRun s h → HasNoFree h → GrowsPlainly s h move g → GrowsPlainly s h move k → g ≡ k
one_growth s h moves.Script g k run none x y = one_script s (Script (scripted h + 1) ∷ h) (next_effect s h) g k x y
one_growth s h (moves.Deliver role kind to) g k run none x y = x ∙ sym y
one_growth s h (moves.Begin role key) g k run none x y = x ∙ sym y
one_growth s h (moves.Next pass named) g k run none (e, x, g_is) (d, y, k_is) = g_is ∙ ap (λ (z : Entry). z ∷ h) (one_of_course s h pass e d run none x y) ∙ sym k_is
one_growth s h (moves.Give pass named given) g k run none x y = x ∙ sym y
one_growth s h (moves.Decide pass named decision) g k run none (e, x, g_is) (d, y, k_is) =
    g_is ∙ ap (λ (z : Entry). z ∷ h) (one_of_course s h pass e d run none (inl x) (inl y)) ∙ sym k_is
