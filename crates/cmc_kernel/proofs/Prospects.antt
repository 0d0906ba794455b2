-- Passes that begin and go on by what was found before.
use Rattle.std.proofs.Common.{◌≡◌, ℕ, ℤ, ◌+◌, ◌≤◌, List, length, Option, None, Bool, true, false, refl, sym, ap, subst, ◌∙◌, inl, inr}
use Rattle.std.specs.Prelude.{◌↔◌, IsTrue, IfOk, Result}
use Rattle.std.specs.declared.alloc.AllocError.{AllocError}
use Rattle.cmc_meta.specs.declared.key.Key.{Key}
use Rattle.cmc_objects.specs.declared.role.Role.{Role}
use Rattle.cmc_objects.specs.declared.call.Call.{Call}
use Rattle.cmc_objects.specs.declared.entry.Entry.{Entry}
use Rattle.cmc_objects.specs.declared.orders.Order.{Order}
use Rattle.cmc_pass.specs.declared.pass.Act.{Act}
use Rattle.cmc_pass.specs.declared.pass.Desk.{Desk}
use Rattle.cmc_pass.specs.declared.pass.Views.{Views}
use Rattle.cmc_pass.specs.declared.value.Value.{Value}
use Rattle.cmc_rules.specs.declared.progress.OpenPass.{OpenPass}
use Rattle.cmc_rules.specs.declared.progress.Stage.{Stage}
use Rattle.cmc_rules.specs.declared.progress.Stage.TheVariants.{Fresh}
use Rattle.cmc_rules.specs.Acts.{act, call_after}
use Rattle.cmc_rules.specs.Causes.{act_of}
use Rattle.cmc_rules.specs.Desks.{desk}
use Rattle.cmc_model.specs.Histories.{Setting, moment, runs}
use Rattle.cmc_rules.specs.Memory.{past}
use Rattle.cmc_rules.specs.Passes.{IsWorking}
use Rattle.cmc_rules.specs.Positions.{positions}
use Rattle.cmc_rules.specs.Sameness.{IsDue, IsSame}
use Rattle.cmc_rules.specs.Views.{views}
use Rattle.cmc_safety.specs.MayAct.{MayAct}
use Rattle.cmc_moves.specs.PassActions.{IsDoingBy, IsGoingOn, asked_in}
use Rattle.cmc_moves.specs.Answers.{AnswersBegin, AnswersGoing, Bar, BarOf, FitsLimit, IsQueued, Need, asked_by, kept_at, new_at, new_of, next_answer}
use Rattle.cmc_moves.specs.Prospects.{IsFirstActOf, IsProspect}
use Rattle.cmc_moves.specs.declared.acts.Prospect.{Prospect}
use Rattle.cmc_moves.specs.declared.doing.Doing.{Doing}
use Rattle.cmc_moves.specs.declared.doing.Judged.TheVariants.{Does}
use Rattle.cmc_moves.specs.declared.moves.Lack.TheVariants.{NotQueued, OwnWrite, SameViews}
use Rattle.cmc_moves.specs.declared.moves.Stepped.{Stepped}
use Rattle.cmc_moves.specs.declared.moves.Stepped.TheVariants.{Done, NotNow, Spent}
use Rattle.cmc_kernel.proofs.NextSteps.{does_going}

-- ---- what a role has to do

pub may_by : (s : Setting) (h : List Entry) (role : Role) (key : Key) (seen : Views) (now : ℤ) (d : Desk) → MayAct (views s h role key) (moment s h) (desk s h role (views s h role key))
    → seen ≡ views s h role key → now ≡ moment s h → d ≡ desk s h role seen → MayAct seen now d
may_by s h role key seen now d may sees is same =
    subst (MayAct seen now) (sym same) (subst (λ (m : ℤ). MayAct seen m (desk s h role seen)) (sym is) (subst (λ (v : Views). MayAct v (moment s h) (desk s h role v)) (sym sees) may))

pub prospect_by : (s : Setting) (h : List Entry) (role : Role) (seen : Views) (now : ℤ) (d : Desk) (r : Result Prospect AllocError) → now ≡ moment s h → d ≡ desk s h role seen
    → IfOk r (λ p. IsProspect role (act role seen now d) p) → IfOk r (λ p. IsProspect role (act role seen (moment s h) (desk s h role seen)) p)
prospect_by s h role seen now d r is same found =
    subst (λ (m : ℤ). IfOk r (λ p. IsProspect role (act role seen m (desk s h role seen)) p)) is (subst (λ (x : Desk). IfOk r (λ p. IsProspect role (act role seen now x) p)) same found)

-- ---- a begin of which all but its room is known

pub fits_spent : (s : Setting) (h : List Entry) (entries events : ℕ) (room : Bool) → entries ≡ length h → events ≡ s.events → (IsTrue room ↔ (entries + 1 ≤ events)) → room ≡ false → FitsLimit s h 1 (Spent entries)
fits_spent s h entries events room counted most fits off =
    inl (
      λ low. let on : room ≡ true = fits.1 (subst (λ (m : ℕ). entries + 1 ≤ m) (sym most) (subst (λ (m : ℕ). m + 1 ≤ s.events) (sym counted) low)) in absurd (cc (on, off)),
      ap (λ (m : ℕ). Spent m) counted,
    )

pub fits_done : (s : Setting) (h : List Entry) (entries events : ℕ) (room : Bool) → entries ≡ length h → events ≡ s.events → (IsTrue room ↔ (entries + 1 ≤ events)) → room ≡ true → FitsLimit s h 1 Done
fits_done s h entries events room counted most fits on =
    inr (subst (λ (m : ℕ). length h + 1 ≤ m) most (subst (λ (m : ℕ). m + 1 ≤ events) counted (fits.0 on)), refl)

pub begins_where : (s : Setting) (h : List Entry) (role : Role) (key : Key) (seen : Views) (answer : Stepped) → runs s h role ≡ true → (IsWorking s h role key → ⊥)
    → IsDue (past s h role key) seen (moment s h) (positions h role) → IsQueued s h role key → seen ≡ views s h role key → FitsLimit s h 1 answer → AnswersBegin s h role key answer
begins_where s h role key seen answer running free due queued sees fits =
    let other : IsSame (past s h role key).last (views s h role key) (moment s h) (positions h role) → ⊥ =
    λ same. due.other (subst (λ (v : Views). IsSame (past s h role key).last v (moment s h) (positions h role)) (sym sees) same) in
    inr (
      running,
      inr (
        free,
        subst
            (λ (own : Option ℕ). BarOf own (λ version. NotNow (OwnWrite version)) answer
            (Bar (IsSame (past s h role key).last (views s h role key) (moment s h) (positions h role)) (NotNow SameViews) answer (Need (IsQueued s h role key) (NotNow NotQueued) answer (FitsLimit s h 1 answer))))
            (sym due.told) (inr (other, inr (queued, fits))),
      ),
    )

-- ---- a pass that goes on by its act

pub first_going : (s : Setting) (h : List Entry) (n : ℕ) (does : Act) (p : OpenPass) (d : Doing) (entries events : ℕ) (room : Bool) → IsFirstActOf s h n does p
    → ((after : Order → Value → Option Call) → IsDoingBy Fresh does after d) → entries ≡ length h → events ≡ s.events → (IsTrue room ↔ (entries + 1 ≤ events)) → room ≡ true
    → IsGoingOn s h n (Does d)
first_going s h n does p d entries events room first doing counted most fits on =
    does_going s h n p d entries events room first.opened (ap kept_at first.fresh)
    (subst (λ (a : Act). IsDoingBy p.stage a (call_after p.role p.seen p.since) d) first.acts (subst (λ (g : Stage). IsDoingBy g does (call_after p.role p.seen p.since) d) (sym first.fresh) (doing (call_after p.role p.seen p.since))))
    counted most fits on

-- and its answer
pub first_answers : (s : Setting) (h : List Entry) (n : ℕ) (does : Act) (p : OpenPass) (d : Doing) (answer : Stepped) (entries events : ℕ) (room : Bool) → IsFirstActOf s h n does p
    → ((after : Order → Value → Option Call) → IsDoingBy Fresh does after d) → entries ≡ length h → events ≡ s.events → (IsTrue room ↔ (entries + 1 ≤ events)) → room ≡ true
    → answer ≡ next_answer n (asked_in d) → AnswersGoing s h n None (asked_by does) answer
first_answers s h n does p d answer entries events room first doing counted most fits on is =
    let going = (first_going s h n does p d entries events room first doing counted most fits on).1 in
    let asks : asked_in d ≡ asked_by does = sym going.new ∙ ap (new_of s h) first.opened ∙ ap (λ (g : Stage). new_at g (act_of s h p)) first.fresh ∙ ap asked_by (sym first.acts) in
    inr (subst (λ (m : ℕ). length h + 1 ≤ m) most (subst (λ (m : ℕ). m + 1 ≤ events) counted (fits.0 on)), is ∙ ap (next_answer n) asks)
