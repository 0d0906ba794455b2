-- The question that an open pass has asked is that of its act.
use Rattle.std.proofs.Common.{◌≡◌, ◌==◌, ℕ, ℤ, List, [], ◌∷◌, Option, Some, Bool, true, false, refl, sym, ap, subst, ◌∙◌}
use Rattle.std.specs.Prelude.{IfSome}
use Rattle.cmc_meta.specs.declared.key.Kind.{Kind}
use Rattle.cmc_objects.specs.declared.certificate.Certificate.{Certificate}
use Rattle.cmc_objects.specs.declared.call.Reply.{Reply}
use Rattle.cmc_objects.specs.declared.call.Reply.TheVariants.{Ok, Unchanged, Found, Conflict, NotFound, AlreadyExists, Invalid, Unavailable}
use Rattle.cmc_objects.specs.declared.entry.Entry.{Entry}
use Rattle.cmc_objects.specs.declared.entry.Entry.TheVariants.{Call as Called, Begin, Ask, Made, Signed, Answered, Judged, End, Stop}
use Rattle.cmc_objects.specs.declared.orders.Order.{Order}
use Rattle.cmc_objects.specs.declared.role.Role.{Role}
use Rattle.cmc_objects.specs.Objects.{version_of}
use Rattle.cmc_pass.specs.declared.pass.Act.{Act}
use Rattle.cmc_pass.specs.declared.pass.Act.TheVariants.{Nothing, Call as Calls, Ask as Asks, Issue, Temporary}
use Rattle.cmc_pass.specs.declared.pass.Desk.{Desk}
use Rattle.cmc_pass.specs.declared.pass.Views.{Views}
use Rattle.cmc_pass.specs.declared.value.Value.{Value}
use Rattle.cmc_pass.specs.declared.value.Value.TheVariants as values
use Rattle.cmc_model.specs.Histories.{Setting}
use Rattle.cmc_rules.specs.declared.progress.OpenPass.{OpenPass}
use Rattle.cmc_rules.specs.declared.progress.Stage.{Stage}
use Rattle.cmc_rules.specs.declared.progress.Stage.TheVariants.{Fresh, Asked, Given, Read, Saved, Wrote, Refused, Barred}
use Rattle.cmc_rules.specs.Acts.{act}
use Rattle.cmc_rules.specs.Causes.{AsksBy, IsAsked, IsCaused, MayAsk, act_of}
use Rattle.cmc_rules.specs.Desks.{desk}
use Rattle.cmc_rules.specs.Passes.{asking, given, is_as_seen, new_pass, open_pass, stage_after, stage_by, stage_given, stage_read, stage_written}
use Rattle.cmc_rules.specs.Views.{views}
use Rattle.cmc_rules.proofs.Carrying.{over_begin, over_call, over_end, over_given, over_stop}
use Rattle.cmc_safety.proofs.Course.{over_own_entry, same_number, with_equation}

-- the act asks it, with the rules and the material of the scenario
pub record IsOfAct (s : Setting) (role : Role) (seen : Views) (since : ℤ) (order : Order) : Type 0 where
  pub its_desk : Desk
  pub rules : its_desk.rules ≡ s.rules
  pub material : its_desk.material ≡ s.material
  pub asks : act role seen since its_desk ≡ Asks order

abbrev pub HoldsOfQuestion : Stage → (Order → Type 0) → Type 0
HoldsOfQuestion (Asked order) P = P order
HoldsOfQuestion (Given order value) P = P order
HoldsOfQuestion other P = Unit {0}

abbrev pub AskedByAct : Setting → OpenPass → Type 0
AskedByAct s p = HoldsOfQuestion p.stage (IsOfAct s p.role p.seen p.since)

-- ---- over an entry

none_written : (P : Order → Type 0) (stand_in : Bool) (stage : Stage) → HoldsOfQuestion (stage_written stand_in stage) P
none_written P true Read = tt
none_written P false Read = tt
none_written P stand_in Fresh = tt
none_written P stand_in (Asked order) = tt
none_written P stand_in (Given order value) = tt
none_written P stand_in Saved = tt
none_written P stand_in Wrote = tt
none_written P stand_in (Refused entry obstacle) = tt
none_written P stand_in Barred = tt

none_read : (P : Order → Type 0) (b : Bool) (entry : ℕ) (kind : Kind) (version : ℕ) → HoldsOfQuestion (stage_read b entry kind version) P
none_read P true entry kind version = tt
none_read P false entry kind version = tt

none_after : (P : Order → Type 0) (c : Option Certificate) (stand_in : Bool) (stage : Stage) (entry : ℕ) (kind : Kind) (last : ℕ) (reply : Reply) → HoldsOfQuestion (stage_by c stand_in stage entry kind last reply) P
none_after P c stand_in stage entry kind last (Ok version name) = none_written P stand_in stage
none_after P c stand_in stage entry kind last (Unchanged version) = none_written P stand_in stage
none_after P c stand_in stage entry kind last (Found object) = none_read P (is_as_seen c object) entry kind (version_of object)
none_after P c stand_in stage entry kind last (Conflict named have) = tt
none_after P c stand_in stage entry kind last (NotFound at) = tt
none_after P c stand_in stage entry kind last (AlreadyExists have) = tt
none_after P c stand_in stage entry kind last (Invalid rule) = tt
none_after P c stand_in stage entry kind last (Unavailable number) = tt

given_on : (P : Order → Type 0) (value : Value) (stage : Stage) → HoldsOfQuestion stage P → HoldsOfQuestion (stage_given value stage) P
given_on P value (Asked order) is = is
given_on P value (Given order old) is = is
given_on P value Fresh is = tt
given_on P value Read is = tt
given_on P value Saved is = tt
given_on P value Wrote is = tt
given_on P value (Refused entry obstacle) is = tt
given_on P value Barred is = tt

of_act : (does : Act) (order : Order) → IsAsked does order → does ≡ Asks order
of_act Nothing order is = absurd is
of_act (Calls call) order is = absurd is
of_act (Asks asked) order is = ap Asks (sym is)
of_act (Issue plan) order is = absurd is
of_act (Temporary plan) order is = absurd is

asks_by : (stage : Stage) (does : Act) (order : Order) → AsksBy stage does order → does ≡ Asks order
asks_by Fresh does order is = of_act does order is
asks_by (Asked asked) does order is = absurd is
asks_by (Given asked value) does order is = absurd is
asks_by Read does order is = absurd is
asks_by Saved does order is = absurd is
asks_by Wrote does order is = absurd is
asks_by (Refused entry obstacle) does order is = absurd is
asks_by Barred does order is = absurd is

over_question : (s : Setting) (h : List Entry) (n pass : ℕ) (order : Order) → MayAsk s h (open_pass s h pass) order → IfSome (open_pass s h n) (AskedByAct s) → IfSome (asking n pass order (open_pass s h n)) (AskedByAct s)
over_question s h n pass order may was =
    over_own_entry (λ q. (open_pass s h n ≡ Some q) × AskedByAct s q) (AskedByAct s) n pass (λ (q : OpenPass). Asked order) (open_pass s h n)
    (λ here q holds.
    let its : open_pass s h pass ≡ Some q = ap (open_pass s h) (sym (same_number n pass here)) ∙ holds.0 in
    let by : AsksBy q.stage (act_of s h q) order = subst (λ (x : Option OpenPass). MayAsk s h x order) its may in
    record { its_desk = desk s h q.role q.seen; rules = refl; material = refl; asks = asks_by q.stage (act_of s h q) order by })
    (λ there q holds. holds.1) (with_equation (AskedByAct s) (open_pass s h n) was)

over_value : (s : Setting) (h : List Entry) (n pass : ℕ) (value : Value) → IfSome (open_pass s h n) (AskedByAct s) → IfSome (given n pass value (open_pass s h n)) (AskedByAct s)
over_value s h n pass value was = over_given (AskedByAct s) n pass value (open_pass s h n) (λ q is. given_on (IsOfAct s q.role q.seen q.since) value q.stage is) was

-- ---- histories

pub asked_act : (s : Setting) (h : List Entry) (n : ℕ) → IsCaused s h → IfSome (open_pass s h n) (AskedByAct s)
unfolding IsCaused
asked_act s [] n caused = tt
asked_act s (Called who call reply ∷ h) n caused =
    over_call (AskedByAct s) n who (stage_after s h call reply) (open_pass s h n) (λ q was. none_after (IsOfAct s q.role q.seen q.since) q.seen.certificate _ q.stage _ _ _ reply) (asked_act s h n caused.1)
asked_act s (Begin pass role key at now ∷ h) n caused = over_begin (AskedByAct s) (n == pass) (new_pass role key (views s h role key) now) (open_pass s h n) tt (asked_act s h n caused.1)
asked_act s (Ask pass order ∷ h) n caused = over_question s h n pass order caused.0 (asked_act s h n caused.1)
asked_act s (Made pass key ∷ h) n caused = over_value s h n pass (values.Made key) (asked_act s h n caused.1)
asked_act s (Signed pass signature ∷ h) n caused = over_value s h n pass (values.Signed signature) (asked_act s h n caused.1)
asked_act s (Answered pass answer ∷ h) n caused = over_value s h n pass (values.Answered answer) (asked_act s h n caused.1)
asked_act s (Judged pass approved ∷ h) n caused = over_value s h n pass (values.Judged approved) (asked_act s h n caused.1)
asked_act s (End pass cause ∷ h) n caused = over_end (AskedByAct s) (n == pass) (open_pass s h n) (asked_act s h n caused.1)
asked_act s (Stop role ∷ h) n caused = over_stop (AskedByAct s) role (open_pass s h n) (asked_act s h n caused.1)
asked_act s (other ∷ h) n caused = asked_act s h n caused.1
