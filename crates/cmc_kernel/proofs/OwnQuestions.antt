-- The question of an open pass is one that its act asks by some desk, and the value that was given is a right one of it.
use Rattle.std.proofs.Common.{◌≡◌, ◌==◌, ℕ, List, [], ◌∷◌, Option, Some, Bool, true, false, sym, ap, subst, ◌∙◌}
use Rattle.std.specs.Prelude.{IfSome}
use Rattle.cmc_meta.specs.declared.key.Kind.{Kind}
use Rattle.cmc_objects.specs.declared.certificate.Certificate.{Certificate}
use Rattle.cmc_objects.specs.declared.call.Reply.{Reply}
use Rattle.cmc_objects.specs.declared.call.Reply.TheVariants.{Ok, Unchanged, Found, Conflict, NotFound, AlreadyExists, Invalid, Unavailable}
use Rattle.cmc_objects.specs.declared.orders.Order.{Order}
use Rattle.cmc_objects.specs.declared.entry.Who.TheVariants.{User, Pass}
use Rattle.cmc_objects.specs.declared.entry.Entry.{Entry}
use Rattle.cmc_objects.specs.declared.entry.Entry.TheVariants.{Call as Called, Begin, Ask, Made, Signed, Answered, Judged, End, Stop}
use Rattle.cmc_objects.specs.Objects.{version_of}
use Rattle.cmc_pass.specs.declared.pass.Act.{Act}
use Rattle.cmc_pass.specs.declared.pass.Act.TheVariants.{Nothing, Call as Calls, Ask as Asks, Issue, Temporary}
use Rattle.cmc_pass.specs.declared.pass.Desk.{Desk}
use Rattle.cmc_pass.specs.declared.value.Value.{Value}
use Rattle.cmc_pass.specs.declared.value.Value.TheVariants as values
use Rattle.cmc_model.specs.Histories.{Setting}
use Rattle.cmc_rules.specs.declared.progress.OpenPass.{OpenPass}
use Rattle.cmc_rules.specs.declared.progress.Stage.{Stage}
use Rattle.cmc_rules.specs.declared.progress.Stage.TheVariants.{Fresh, Asked, Given, Read, Saved, Wrote, Refused, Barred}
use Rattle.cmc_rules.specs.Acts.{act}
use Rattle.cmc_rules.specs.Desks.{desk}
use Rattle.cmc_rules.specs.Views.{views}
use Rattle.cmc_rules.specs.Passes.{open_pass, given, asking, is_as_seen, new_pass, stage_read, stage_written, stage_by, stage_after, stage_given}
use Rattle.cmc_rules.specs.Causes.{IsAsked, AsksBy, MayAsk, IsGivenBy, MayGive, IsCaused}
use Rattle.cmc_rules.specs.Runs.{IsRun}
use Rattle.cmc_rules.proofs.Carrying.{over_step, over_begin, over_end, over_stop}
use Rattle.cmc_safety.proofs.Course.{of_open, with_equation, over_own_entry, same_number}
use Rattle.cmc_moves.specs.PassActions.{HasOwnQuestion}

abbrev Owns : OpenPass → Type 0
Owns p = HasOwnQuestion p.stage (act p.role p.seen p.since)

-- ---- no reply to a call makes a pass ask

written_owns : (does : Desk → Act) (stand_in : Bool) (stage : Stage) → HasOwnQuestion (stage_written stand_in stage) does
written_owns does true Read = tt
written_owns does false Read = tt
written_owns does stand_in other = tt

read_owns : (does : Desk → Act) (b : Bool) (entry : ℕ) (kind : Kind) (version : ℕ) → HasOwnQuestion (stage_read b entry kind version) does
read_owns does true entry kind version = tt
read_owns does false entry kind version = tt

replied_owns : (does : Desk → Act) (c : Option Certificate) (stand_in : Bool) (stage : Stage) (entry : ℕ) (kind : Kind) (last : ℕ) (reply : Reply) → HasOwnQuestion (stage_by c stand_in stage entry kind last reply) does
replied_owns does c stand_in stage entry kind last (Ok version name) = written_owns does stand_in stage
replied_owns does c stand_in stage entry kind last (Unchanged version) = written_owns does stand_in stage
replied_owns does c stand_in stage entry kind last (Found o) = read_owns does (is_as_seen c o) entry kind (version_of o)
replied_owns does c stand_in stage entry kind last (Conflict named have) = tt
replied_owns does c stand_in stage entry kind last (NotFound at) = tt
replied_owns does c stand_in stage entry kind last (AlreadyExists have) = tt
replied_owns does c stand_in stage entry kind last (Invalid rule) = tt
replied_owns does c stand_in stage entry kind last (Unavailable number) = tt

-- ---- questions and values

asked_is : (a : Act) (order : Order) → IsAsked a order → a ≡ Asks order
asked_is (Asks asked) order is = ap (λ (o : Order). Asks o) (sym is)
asked_is Nothing order is = absurd is
asked_is (Calls call) order is = absurd is
asked_is (Issue plan) order is = absurd is
asked_is (Temporary plan) order is = absurd is

asks_own : (does : Desk → Act) (d : Desk) (stage : Stage) (order : Order) → AsksBy stage (does d) order → HasOwnQuestion (Asked order) does
asks_own does d Fresh order asks = (d, asked_is (does d) order asks)
asks_own does d (Asked asked) order asks = absurd asks
asks_own does d (Given asked value) order asks = absurd asks
asks_own does d Read order asks = absurd asks
asks_own does d Saved order asks = absurd asks
asks_own does d Wrote order asks = absurd asks
asks_own does d (Refused entry obstacle) order asks = absurd asks
asks_own does d Barred order asks = absurd asks

given_own : (does : Desk → Act) (value : Value) (stage : Stage) → IsGivenBy stage value → HasOwnQuestion stage does → HasOwnQuestion (stage_given value stage) does
given_own does value (Asked order) right owns = (owns, right)
given_own does value Fresh right owns = absurd right
given_own does value (Given order old) right owns = absurd right
given_own does value Read right owns = absurd right
given_own does value Saved right owns = absurd right
given_own does value Wrote right owns = absurd right
given_own does value (Refused entry obstacle) right owns = absurd right
given_own does value Barred right owns = absurd right

by_question : (s : Setting) (h : List Entry) (n pass : ℕ) (order : Order) → MayAsk s h (open_pass s h pass) order → IfSome (open_pass s h n) Owns → IfSome (asking n pass order (open_pass s h n)) Owns
by_question s h n pass order may owns =
    over_own_entry (λ q. (open_pass s h n ≡ Some q) × Owns q) Owns n pass (λ (q : OpenPass). Asked order) (open_pass s h n)
    (λ here q holds.
    let its : open_pass s h pass ≡ Some q = ap (open_pass s h) (sym (same_number n pass here)) ∙ holds.0 in
    asks_own (act q.role q.seen q.since) (desk s h q.role q.seen) q.stage order (subst (λ (x : Option OpenPass). MayAsk s h x order) its may))
    (λ there q holds. holds.1)
    (with_equation Owns (open_pass s h n) owns)

by_value : (s : Setting) (h : List Entry) (n pass : ℕ) (value : Value) → MayGive (open_pass s h pass) value → IfSome (open_pass s h n) Owns → IfSome (given n pass value (open_pass s h n)) Owns
by_value s h n pass value may owns =
    over_own_entry (λ q. (open_pass s h n ≡ Some q) × Owns q) Owns n pass (λ (q : OpenPass). stage_given value q.stage) (open_pass s h n)
    (λ here q holds.
    let its : open_pass s h pass ≡ Some q = ap (open_pass s h) (sym (same_number n pass here)) ∙ holds.0 in
    given_own (act q.role q.seen q.since) value q.stage (subst (λ (x : Option OpenPass). MayGive x value) its may) holds.1)
    (λ there q holds. holds.1)
    (with_equation Owns (open_pass s h n) owns)

-- ---- over a history

each_owns : (s : Setting) (h : List Entry) (n : ℕ) → IsCaused s h → IfSome (open_pass s h n) Owns
unfolding IsCaused
each_owns s [] n caused = tt
each_owns s (Called User call reply ∷ h) n caused = each_owns s h n caused.1
each_owns s (Called (Pass m) call reply ∷ h) n caused =
    over_step Owns n m (stage_after s h call reply) (open_pass s h n)
    (λ q was. replied_owns (act q.role q.seen q.since) q.seen.certificate _ q.stage _ _ _ reply)
    (each_owns s h n caused.1)
each_owns s (Begin pass role key at now ∷ h) n caused = over_begin Owns (n == pass) (new_pass role key (views s h role key) now) (open_pass s h n) tt (each_owns s h n caused.1)
each_owns s (Ask pass order ∷ h) n caused = by_question s h n pass order caused.0 (each_owns s h n caused.1)
each_owns s (Made pass key ∷ h) n caused = by_value s h n pass (values.Made key) caused.0 (each_owns s h n caused.1)
each_owns s (Signed pass signature ∷ h) n caused = by_value s h n pass (values.Signed signature) caused.0 (each_owns s h n caused.1)
each_owns s (Answered pass answer ∷ h) n caused = by_value s h n pass (values.Answered answer) caused.0 (each_owns s h n caused.1)
each_owns s (Judged pass approved ∷ h) n caused = by_value s h n pass (values.Judged approved) caused.0 (each_owns s h n caused.1)
each_owns s (End pass cause ∷ h) n caused = over_end Owns (n == pass) (open_pass s h n) (each_owns s h n caused.1)
each_owns s (Stop role ∷ h) n caused = over_stop Owns role (open_pass s h n) (each_owns s h n caused.1)
each_owns s (other ∷ h) n caused = each_owns s h n caused.1

pub own_question : (s : Setting) (h : List Entry) (n : ℕ) (p : OpenPass) → IsRun s h → open_pass s h n ≡ Some p → HasOwnQuestion p.stage (act p.role p.seen p.since)
own_question s h n p run opened = of_open Owns (open_pass s h n) p opened (each_owns s h n run.caused)
