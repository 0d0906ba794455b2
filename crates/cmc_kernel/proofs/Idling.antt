-- What the tests of a scan say of a role and a key: that the role has nothing to do there, or may not begin.
use Rattle.std.proofs.Common.{◌≡◌, ℕ, ℤ, List, [], Option, Some, None, Bool, true, false, refl, sym, subst}
use Rattle.std.proofs.lemmas.Result.{IfOk-weaker}
use Rattle.std.proofs.Common.{arith}
use Rattle.std.proofs.lemmas.Bool.Decides.{nat_tests}
use Rattle.std.specs.Prelude.{◌↔◌, not, nat_lt, if◌then◌else◌, IsTrue, IfOk, Result, is_some}
use Rattle.std.specs.declared.alloc.AllocError.{AllocError}
use Rattle.cmc_objects.specs.declared.role.Role.{Role}
use Rattle.cmc_objects.specs.declared.role.Role.TheVariants.{Trigger}
use Rattle.cmc_objects.specs.declared.entry.Entry.{Entry}
use Rattle.cmc_objects.specs.declared.entry.Positions.{Positions}
use Rattle.cmc_pass.specs.declared.pass.Act.TheVariants.{Nothing}
use Rattle.cmc_pass.specs.declared.pass.Desk.{Desk}
use Rattle.cmc_pass.specs.declared.pass.Views.{Views}
use Rattle.cmc_rules.specs.declared.progress.Past.{Past}
use Rattle.cmc_rules.specs.Acts.{act}
use Rattle.cmc_rules.specs.Desks.{desk}
use Rattle.cmc_model.specs.Histories.{Setting, moment}
use Rattle.cmc_rules.specs.Memory.{no_past}
use Rattle.cmc_rules.specs.Sameness.{IsDue, IsSame}
use Rattle.cmc_rules.specs.Rest.{IsIdle}
use Rattle.cmc_safety.specs.MayAct.{MayAct}
use Rattle.cmc_safety.specs.Formed.{IsFormed}
use Rattle.cmc_safety.proofs.Forms.{reply_seen}
use Rattle.cmc_rules.specs.Sameness.{own_above}
use Rattle.cmc_kernel.specs.Kept.{first_desk}
use Rattle.cmc_moves.proofs.Sounds.{any_desk}

-- ---- what is seen

-- ---- nothing to do

-- what a role may act on by its own desk it may act on before any question
pub on_first_desk : (s : Setting) (seen : Views) (now : ℤ) (d : Desk) → IsFormed s → MayAct seen now d → MayAct seen now (first_desk s)
on_first_desk s seen now d formed may = record {
  dated = may.dated;
  revision = may.revision;
  time = may.time;
  asked = omega arith;
  form = may.form;
  reply = reply_seen s [] Trigger seen formed;
}

-- a test of the act before any question says whether the role is idle, since the count of questions does not decide that
pub idle_by : (s : Setting) (h : List Entry) (role : Role) (seen : Views) (now : ℤ) (d : Desk) (r : Result Bool AllocError) → now ≡ moment s h → d ≡ first_desk s
    → IfOk r (λ b. IsTrue b ↔ (act role seen now d ≡ Nothing)) → IfOk r (λ b. IsTrue b ↔ IsIdle s h role seen)
idle_by s h role seen now d r is first found =
    IfOk-weaker r _ _
    (λ b each.
    let here : IsTrue b ↔ (act role seen (moment s h) (first_desk s) ≡ Nothing) =
    subst (λ (m : ℤ). IsTrue b ↔ (act role seen m (first_desk s) ≡ Nothing)) is (subst (λ (x : Desk). IsTrue b ↔ (act role seen now x ≡ Nothing)) first each) in
    (λ on. any_desk role seen (moment s h) (first_desk s) (desk s h role seen) refl (here.0 on), λ idle. here.1 (any_desk role seen (moment s h) (desk s h role seen) (first_desk s) refl idle)))
    found

-- ---- or no pass may begin

none_above : (n : ℕ) (rest : Option ℕ) (b : Bool) → nat_lt n 0 ≡ b → rest ≡ None → (if b then Some 0 else rest) ≡ None
none_above n rest true e none = absurd (grind (arith, nat_tests))
none_above n rest false e none = none

first_told : (at : Positions) → own_above no_past.own at ≡ None
unfolding own_above
first_told at = none_above at.certificates _ (nat_lt at.certificates 0) refl (none_above at.requests _ (nat_lt at.requests 0) refl (none_above at.secrets None (nat_lt at.secrets 0) refl refl))

-- a role that remembers nothing of a key may begin
pub due_at_first : (seen : Views) (now : ℤ) (at : Positions) → IsTrue true ↔ IsDue no_past seen now at
due_at_first seen now at = (λ on. record { told = first_told at; other = λ same. same }, λ due. refl)

-- what the two tests of a begin say: all own writes were told or not, and the pass is the last one again or not
pub due_unless_same : (p : Past) (seen : Views) (now : ℤ) (at : Positions) (same : Bool) → own_above p.own at ≡ None → (IsTrue same ↔ IsSame p.last seen now at)
    → IsTrue (not same) ↔ IsDue p seen now at
due_unless_same p seen now at true told e = (λ bad. absurd (cc), λ due. absurd (due.other (e.0 refl)))
due_unless_same p seen now at false told e = (λ on. record { told = told; other = λ same. let bad = e.1 same in absurd (cc) }, λ due. refl)

never_due : (p : Past) (seen : Views) (now : ℤ) (at : Positions) (own : Option ℕ) → is_some own ≡ true → own_above p.own at ≡ own → IsDue p seen now at → ⊥
never_due p seen now at own some is due = absurd (let none = due.told in cc (none, some, is))

pub not_due_untold : (p : Past) (seen : Views) (now : ℤ) (at : Positions) (own : Option ℕ) (answer : Bool) → own ≡ own_above p.own at → is_some own ≡ true → answer ≡ false
    → IsTrue answer ↔ IsDue p seen now at
not_due_untold p seen now at own answer is some off = (λ on. absurd (cc (on, off)), λ due. absurd (never_due p seen now at own some (sym is) due))

pub none_told : (own : Option ℕ) → is_some own ≡ false → own ≡ None
none_told None off = refl
none_told (Some v) off = absurd (cc)
