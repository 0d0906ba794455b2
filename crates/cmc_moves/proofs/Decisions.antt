-- What a pass does by a decision is what it does by its act.
use Rattle.std.proofs.Common.{◌≡◌, ◌∙◌, ℕ, ℤ, true, false, List, Option, Some, None, IfOk, Result, refl, sym, ap, subst, inl, inr, arith}
use Rattle.std.proofs.lemmas.Result.{IfOk-weaker}
use Rattle.std.specs.Prelude.{◌&&◌}
use Rattle.std.specs.declared.alloc.AllocError.{AllocError}
use Rattle.std.proofs.lemmas.Bool.{and_parts}
use Rattle.cmc_objects.specs.declared.call.Call.{Call}
use Rattle.cmc_objects.specs.declared.orders.Order.{Order}
use Rattle.cmc_objects.specs.declared.role.Role.{Role}
use Rattle.cmc_objects.specs.declared.role.Role.TheVariants.{Trigger, KeyManager, RequestManager, Approver, Issuer, Issuing, Readiness, Revision}
use Rattle.cmc_objects.specs.declared.entry.Entry.{Entry}
use Rattle.cmc_pass.specs.declared.pass.Act.{Act}
use Rattle.cmc_pass.specs.declared.pass.Desk.{Desk}
use Rattle.cmc_pass.specs.declared.pass.Views.{Views}
use Rattle.cmc_pass.specs.declared.value.Value.{Value}
use Rattle.cmc_rules.specs.declared.progress.OpenPass.{OpenPass}
use Rattle.cmc_rules.specs.declared.progress.Stage.{Stage}
use Rattle.cmc_rules.specs.declared.progress.Stage.TheVariants.{Fresh}
use Rattle.cmc_rules.specs.Acts.{act, call_after}
use Rattle.cmc_rules.specs.Desks.{desk}
use Rattle.cmc_rules.specs.Legality.{IsOpen}
use Rattle.cmc_rules.specs.Origins.{origins, origin_at}
use Rattle.cmc_rules.specs.Passes.{open_pass}
use Rattle.cmc_rules.specs.Runs.{IsRun}
use Rattle.cmc_model.specs.Histories.{Setting}
use Rattle.cmc_safety.specs.MayAct.{MayAct}
use Rattle.cmc_safety.specs.Formed.{IsFormed}
use Rattle.cmc_safety.proofs.Forms.{reply_seen}
use Rattle.cmc_safety.proofs.MayAct.{may_act_pass}
use Rattle.cmc_moves.specs.declared.doing.Doing.{Doing}
use Rattle.cmc_moves.specs.declared.doing.Judged.{Judged}
use Rattle.cmc_moves.specs.declared.doing.Judged.TheVariants.{Answer, Does}
use Rattle.cmc_moves.specs.declared.moves.Lack.TheVariants.{Settled}
use Rattle.cmc_moves.specs.declared.moves.Move.TheVariants.{Next, Decide}
use Rattle.cmc_moves.specs.declared.moves.Stepped.{Stepped}
use Rattle.cmc_moves.specs.declared.moves.Stepped.TheVariants.{Done, Order as Tells, NotNow}
use Rattle.cmc_moves.specs.PassActions.{IsDoingBy, IsGoingOn, IsTaking, IsTaken, asked_in}
use Rattle.cmc_moves.specs.Answers.{AnswersDecided, AnswersDecide, Leaves, kept_of, next_answer, outdated}
use Rattle.cmc_moves.specs.Decisions.{BegunPass, Decision, IsDecided, IsUndecided, SawSame, bare_desk, decides_alone, is_fresh_stage, is_undecided}
use Rattle.cmc_moves.proofs.Sounds.{each_sound}
use Rattle.cmc_moves.proofs.Tables.{of_open_pass}

-- ---- roles that decide alone

-- their acts hang on no desk
pub any_desk_alone : (role : Role) (seen : Views) (now : ℤ) (d e : Desk) → decides_alone role ≡ true → act role seen now d ≡ act role seen now e
unfolding act
any_desk_alone RequestManager seen now d e alone = refl
any_desk_alone Issuing seen now d e alone = refl
any_desk_alone Trigger seen now d e alone = absurd (cc alone)
any_desk_alone KeyManager seen now d e alone = absurd (cc alone)
any_desk_alone Approver seen now d e alone = absurd (cc alone)
any_desk_alone Issuer seen now d e alone = absurd (cc alone)
any_desk_alone Readiness seen now d e alone = absurd (cc alone)
any_desk_alone Revision seen now d e alone = absurd (cc alone)

-- the act at a desk with nothing on it is a decision
pub decided_by : (b : BegunPass) (does : Act) → decides_alone b.role ≡ true → does ≡ act b.role b.views b.since bare_desk
    → IsDecided (record { role = b.role; views = b.views; since = b.since; act = does })
decided_by b does alone is = record { alone = alone; acts = λ d. is ∙ any_desk_alone b.role b.views b.since bare_desk d alone }

-- a pass may act at a desk with nothing on it too: where no answer is set out for an issuer, a plain one is
pub may_bare : (s : Setting) (h : List Entry) (n : ℕ) (p : OpenPass) → IsFormed s → IsRun s h → open_pass s h n ≡ Some p → MayAct p.seen p.since bare_desk
may_bare s h n p formed run is =
    let may = may_act_pass each_sound s h n p formed run is in
    record {
      dated = may.dated;
      revision = may.revision;
      time = may.time;
      asked = omega arith;
      form = may.form;
      reply = reply_seen (record s { material = bare_desk.material; rules = bare_desk.rules }) h RequestManager p.seen (record { short = formed.short; times = formed.times; material = refl; steps = formed.steps });
    }

-- ---- a pass that takes a decision

fresh_is : (stage : Stage) → is_fresh_stage stage ≡ true → stage ≡ Fresh
fresh_is Fresh is = refl
fresh_is other is = absurd (cc is)

pub stage_is : (p : OpenPass) → is_undecided p ≡ true → p.stage ≡ Fresh
stage_is p is = fresh_is p.stage (and_parts (decides_alone p.role) (is_fresh_stage p.stage) is).1

kept_fresh : (p : OpenPass) (stage : Stage) → p.stage ≡ stage → stage ≡ Fresh → kept_of (Some p) ≡ None
kept_fresh p Fresh is fresh = ap (λ (x : Stage). kept_of (Some (record p { stage = x }))) is
kept_fresh p other is fresh = absurd (cc fresh)

pub waits_not : (p : OpenPass) → is_undecided p ≡ true → kept_of (Some p) ≡ None
waits_not p is = kept_fresh p Fresh (stage_is p is) refl

-- what is done first by a decision on what the pass saw is what comes next of the pass
pub doing_decided : (s : Setting) (h : List Entry) (p : OpenPass) (d : Decision) (does : Act) (x : Doing) → is_undecided p ≡ true → SawSame d (Some p) → ((k : Desk) → d.act ≡ act d.role d.views d.since k) → does ≡ d.act
    → ((after : Order → Value → Option Call) → IsDoingBy Fresh does after x) → IsDoingBy p.stage (act p.role p.seen p.since (desk s h p.role p.seen)) (call_after p.role p.seen p.since) x
doing_decided s h p d does x fresh saw decided copied doing =
    let k = desk s h p.role p.seen in
    let same : does ≡ act p.role p.seen p.since k = copied ∙ decided k ∙ (λ i. act (saw.0 i) (saw.2 i) (saw.1 i) k) in
    subst (λ (a : Act). IsDoingBy p.stage a (call_after p.role p.seen p.since) x) same
    (subst (λ (stage : Stage). IsDoingBy stage does (call_after p.role p.seen p.since) x) (sym (stage_is p fresh)) (doing (call_after p.role p.seen p.since)))

-- ---- what it is answered

pub settled : (s : Setting) (h : List Entry) (n : ℕ) (p : OpenPass) (d : Decision) → open_pass s h n ≡ Some p → is_undecided p ≡ false → IsTaking s h n d (Answer (NotNow Settled))
settled s h n p d is off = (inl (λ on. no_more (subst IsUndecided is on), refl), tt) where
  no_more : is_undecided p ≡ true → ⊥
  no_more on = absurd (cc (on, off))

pub takes : (s : Setting) (h : List Entry) (n : ℕ) (p : OpenPass) (d : Decision) (j : Judged) → open_pass s h n ≡ Some p → is_undecided p ≡ true → SawSame d (Some p) → IsGoingOn s h n j → IsTaking s h n d j
takes s h n p d (Answer answer) is undecided saw (going, quiet) = (inr (subst IsUndecided (sym is) undecided, inr (subst (SawSame d) (sym is) saw, going)), quiet)
takes s h n p d (Does doing) is undecided saw (going, goes) = (inr (subst IsUndecided (sym is) undecided, inr (subst (SawSame d) (sym is) saw, going)), goes)

-- and so it is taken where it and the pass are of the present incarnation
pub takes_present : (s : Setting) (h : List Entry) (n named : ℕ) (p : OpenPass) (d : Decision) (j : Judged) → outdated s h named (origin_at n (origins s h)) ≡ None → open_pass s h n ≡ Some p → IsTaking s h n d j
    → IsTaken s h n named d j
takes_present s h n named p d (Answer answer) present is (taken, quiet) = (of_open_pass s h n named p answer (AnswersDecided s h n d answer) present is taken, quiet)
takes_present s h n named p d (Does doing) present is (taken, goes) =
    (of_open_pass s h n named p (next_answer n (asked_in doing)) (AnswersDecided s h n d (next_answer n (asked_in doing))) present is taken, (subst IsOpen (sym is) tt, goes))

pub present_taken : (s : Setting) (h : List Entry) (n named : ℕ) (p : OpenPass) (d : Decision) (r : Result Judged AllocError) → outdated s h named (origin_at n (origins s h)) ≡ None → open_pass s h n ≡ Some p
    → IfOk r (λ j. IsTaking s h n d j) → IfOk r (λ j. IsTaken s h n named d j)
present_taken s h n named p d r present is taking = IfOk-weaker r _ _ (λ j taken. takes_present s h n named p d j present is taken) taking

-- the answer of a decision that has the pass do this
pub answer_taken : (s : Setting) (h : List Entry) (pass named : ℕ) (d : Decision) (j : Judged) (x : Doing) (r : Result Stepped AllocError) → IsTaken s h pass named d j → j ≡ Does x → IfOk r (λ a. a ≡ next_answer pass (asked_in x))
    → IfOk r (λ a. AnswersDecide s h pass named d a)
answer_taken s h pass named d j x r taken is answers =
    let this = subst (IsTaken s h pass named d) is taken in
    IfOk-weaker r _ _ (λ a same. subst (λ (y : Stepped). AnswersDecide s h pass named d y) (sym same) this.0) answers

-- ---- what it leaves

pub leaves_as_next : (s : Setting) (h k : List Entry) (pass named : ℕ) (d : Decision) (answer : Stepped) → Leaves s h (Next pass named) answer k → Leaves s h (Decide pass named d) answer k
leaves_as_next s h k pass named d Done left = left
leaves_as_next s h k pass named d (Tells number order) left = left
leaves_as_next s h k pass named d other left = left

pub leaves_taken : (s : Setting) (h k : List Entry) (pass named : ℕ) (d : Decision) (r : Result Stepped AllocError) → IfOk r (λ a. (m : ℕ) → Leaves s h (Next pass m) a k) → IfOk r (λ a. Leaves s h (Decide pass named d) a k)
leaves_taken s h k pass named d r left = IfOk-weaker r _ _ (λ a each. leaves_as_next s h k pass named d a (each named)) left
