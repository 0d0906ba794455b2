-- Passes that begin and go on at once.
use Rattle.std.proofs.Common.{◌≡◌, ℕ, ◌+◌, List, ◌∷◌, Option, Some, None, Bool, true, false, refl, sym, ap, subst, ◌∙◌, arith}
use Rattle.std.proofs.lemmas.Bool.Decides.{Decides-eqb}
use Rattle.std.specs.Prelude.{◌==◌, IfSome, if◌then◌else◌}
use Rattle.cmc_meta.specs.declared.key.Key.{Key}
use Rattle.cmc_objects.specs.declared.role.Role.{Role}
use Rattle.cmc_objects.specs.declared.role.Role.TheVariants.{Trigger, KeyManager, RequestManager, Approver, Issuer, Issuing, Readiness, Revision}
use Rattle.cmc_objects.specs.declared.entry.Entry.{Entry}
use Rattle.cmc_pass.specs.declared.pass.Act.{Act}
use Rattle.cmc_pass.specs.declared.pass.Desk.{Desk}
use Rattle.cmc_pass.specs.declared.pass.Views.{Views}
use Rattle.cmc_rules.specs.declared.progress.OpenPass.{OpenPass}
use Rattle.cmc_rules.specs.Acts.{act}
use Rattle.cmc_rules.specs.Desks.{desk}
use Rattle.cmc_model.specs.Histories.{Setting, moment}
use Rattle.cmc_rules.specs.Origins.{begun}
use Rattle.cmc_rules.specs.Passes.{new_pass, open_pass}
use Rattle.cmc_rules.specs.Views.{views}
use Rattle.cmc_moves.specs.Answers.{Leaves, beginning, is_done}
use Rattle.cmc_moves.specs.Prospects.{IsFirstAct, IsProspect}
use Rattle.cmc_moves.specs.declared.moves.Move.TheVariants as moves
use Rattle.cmc_moves.specs.declared.moves.Stepped.{Stepped}
use Rattle.cmc_moves.proofs.Tables.{the_done}
use Rattle.cmc_kernel.specs.Kept.{Seen, setting_of}
use Rattle.cmc_world.specs.KeptLooks.{DoesOn}
use Rattle.cmc_world.specs.Openings.{LeavesBoth, LeavesNext}
use Rattle.cmc_world.specs.Searches.{prospect}

-- ---- the act that was found is that of the new pass

-- a begin asks no question
desk_begun : (s : Setting) (h : List Entry) (who role : Role) (key : Key) (seen : Views) → desk s (beginning s h who key ∷ h) role seen ≡ desk s h role seen
desk_begun s h who Trigger key seen = refl
desk_begun s h who KeyManager key seen = refl
desk_begun s h who RequestManager key seen = refl
desk_begun s h who Approver key seen = refl
desk_begun s h who Issuer key seen = refl
desk_begun s h who Issuing key seen = refl
desk_begun s h who Readiness key seen = refl
desk_begun s h who Revision key seen = refl

opened_by : (n m : ℕ) (made : Option OpenPass) (old : Option OpenPass) → n ≡ m → (if n == m then made else old) ≡ made
opened_by n m made old same = ap (λ (b : Bool). if b then made else old) ((Decides-eqb n m).1 same)

opened_new : (s : Setting) (h : List Entry) (role : Role) (key : Key) → open_pass s (beginning s h role key ∷ h) (begun s (beginning s h role key ∷ h)) ≡ Some (new_pass role key (views s h role key) (moment s h))
opened_new s h role key =
    opened_by (begun s (beginning s h role key ∷ h)) (begun s h + 1) (Some (new_pass role key (views s h role key) (moment s h))) (open_pass s h (begun s (beginning s h role key ∷ h))) (omega arith)

pub first_act : (s : Setting) (h : List Entry) (role : Role) (key : Key) (does : Option Act) → IfSome does (DoesOn s h role key)
    → IfSome does (IsFirstAct s (beginning s h role key ∷ h) (begun s (beginning s h role key ∷ h)))
first_act s h role key None is = tt
first_act s h role key (Some does) is = (
  new_pass role key (views s h role key) (moment s h),
  record {
    opened = opened_new s h role key;
    fresh = refl;
    acts = is ∙ ap (λ (d : Desk). act role (views s h role key) (moment s h) d) (sym (desk_begun s h role role key (views s h role key)));
  },
)

-- where the begin was made
begun_is : (s : Setting) (h k : List Entry) (role : Role) (key : Key) (begin : Stepped) → is_done begin ≡ true → Leaves s h (moves.Begin role key) begin k → k ≡ beginning s h role key ∷ h
begun_is s h k role key begin on leaves = subst (λ (a : Stepped). Leaves s h (moves.Begin role key) a k) (the_done begin on) leaves

-- what is known of a pass that may begin
pub does_known : (s : Setting) (h : List Entry) (role : Role) (key : Key) (does : Option Act) → IsProspect role (act role (views s h role key) (moment s h) (desk s h role (views s h role key))) (prospect does) → IfSome does (DoesOn s h role key)
does_known s h role key None is = tt
does_known s h role key (Some does) is = is.0

pub first_act_where : (old mid : Seen) (role : Role) (key : Key) (does : Option Act) (begin : Stepped) (done : Bool) → mid.scenario ≡ old.scenario
    → IfSome does (DoesOn (setting_of old.scenario) old.history role key)
    → Leaves (setting_of old.scenario) old.history (moves.Begin role key) begin mid.history → done ≡ is_done begin → done ≡ true
    → IfSome does (IsFirstAct (setting_of mid.scenario) mid.history (begun (setting_of mid.scenario) mid.history))
first_act_where old mid role key does begin done same is leaves tells on =
    let s = setting_of old.scenario in
    let grown : mid.history ≡ beginning s old.history role key ∷ old.history = begun_is s old.history mid.history role key begin (sym tells ∙ on) leaves in
    subst (λ (w : Seen). IfSome does (IsFirstAct (setting_of w.scenario) w.history (begun (setting_of w.scenario) w.history)))
    (λ i. record { scenario = (sym same) i; history = (sym grown) i })
    (first_act s old.history role key does is)

-- ---- what both leave

pub opened_both : (old mid new : Seen) (role : Role) (key : Key) (does : Option Act) (begin : Stepped) (done : Bool) (first : Option Stepped) → mid.scenario ≡ old.scenario
    → Leaves (setting_of old.scenario) old.history (moves.Begin role key) begin mid.history → done ≡ is_done begin
    → LeavesNext (setting_of mid.scenario) mid.history done does first new.history → LeavesBoth (setting_of old.scenario) old.history role key does begin first new.history
opened_both old mid new role key does begin done None same leaves tells next = (
  subst (λ (k : List Entry). Leaves (setting_of old.scenario) old.history (moves.Begin role key) begin k) (sym next.0) leaves,
  λ is. next.1 (tells ∙ ap is_done is),
)
opened_both old mid new role key does begin done (Some first) same leaves tells next =
    let s = setting_of old.scenario in
    let on : is_done begin ≡ true = sym tells ∙ next.0 in
    let grown : mid.history ≡ beginning s old.history role key ∷ old.history = begun_is s old.history mid.history role key begin on leaves in (
      the_done begin on,
      subst (λ (w : Seen). (named : ℕ) → Leaves (setting_of w.scenario) w.history (moves.Next (begun (setting_of w.scenario) w.history) named) first new.history)
          (λ i. record { scenario = same i; history = grown i }) next.1,
    )

-- what a pass does is known where it was begun
pub only_does : (P : Act → Type 0) (b : Bool) (does : Option Act) → (b ≡ true → IfSome does P) → IfSome (if b then does else None) P
only_does P true does is = is refl
only_does P false does is = tt
