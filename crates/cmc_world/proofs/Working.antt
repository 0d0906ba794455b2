-- When a role has something to do on a key.
use Rattle.std.proofs.Common.{◌≡◌, Bool, true, false, List, Option, Some, None, refl, sym, ap, subst}
use Rattle.std.specs.Prelude.{◌↔◌, IsTrue, if◌then◌else◌}
use Rattle.cmc_meta.specs.declared.key.Key.{Key}
use Rattle.cmc_objects.specs.declared.role.Role.{Role}
use Rattle.cmc_objects.specs.declared.entry.Entry.{Entry}
use Rattle.cmc_pass.specs.declared.pass.Views.{Views}
use Rattle.cmc_model.specs.Histories.{Setting, moment, runs}
use Rattle.cmc_model.specs.Writes.{writes, is_known}
use Rattle.cmc_rules.specs.Positions.{positions}
use Rattle.cmc_rules.specs.Rest.{IsIdle}
use Rattle.cmc_rules.specs.Views.{views}
use Rattle.cmc_rules.specs.Memory.{past}
use Rattle.cmc_rules.specs.Sameness.{IsDue}
use Rattle.cmc_rules.specs.Legality.{IsLegal}
use Rattle.cmc_rules.specs.Acts.{act}
use Rattle.cmc_rules.specs.Desks.{desk}
use Rattle.cmc_pass.specs.declared.pass.Act.{Act}
use Rattle.cmc_pass.specs.declared.pass.Act.TheVariants.{Nothing}
use Rattle.cmc_moves.specs.Prospects.{IsProspect}
use Rattle.cmc_world.specs.declared.openings.Opening.{Opening}
use Rattle.cmc_world.specs.Searches.{HasWork, IsFree, IsWorkOn, prospect}
use Rattle.cmc_world.proofs.Unknown.{known_unless_quiet}

-- ---- what is found of a pass

-- an act that is kept, or was not made out, is not none
busy_by : (role : Role) (a : Act) (does : Option Act) → IsProspect role a (prospect does) → a ≡ Nothing → ⊥
busy_by role a None is none = is.1 none
busy_by role a (Some act) is none = is.1 none

-- and else there is one exactly where the role is due
pub work_where_due : (s : Setting) (h : List Entry) (role : Role) (key : Key) (seen : Views) (does : Option Act) (due : Bool) (o : Option Opening) → IsLegal s h → seen ≡ views s h role key → runs s h role ≡ true → IsFree s h role key
    → IsProspect role (act role seen (moment s h) (desk s h role seen)) (prospect does) → (IsTrue due ↔ IsDue (past s h role key) seen (moment s h) (positions h role))
    → o ≡ (if due then Some (record { role = role; key = key; seen = seen; does = does }) else None) → IsWorkOn s h role key o
work_where_due s h role key seen does due o legal is running free does_is due_is found = subst (IsWorkOn s h role key) (sym found) (by due refl) where
  IsDueWith : Views → Type 0
  IsDueWith v = IsDue (past s h role key) v (moment s h) (positions h role)

  here : IsProspect role (act role (views s h role key) (moment s h) (desk s h role (views s h role key))) (prospect does)
  here = subst (λ (v : Views). IsProspect role (act role v (moment s h) (desk s h role v)) (prospect does)) is does_is

  busy : IsIdle s h role (views s h role key) → ⊥
  busy = busy_by role (act role (views s h role key) (moment s h) (desk s h role (views s h role key))) does here

  work : IsDueWith seen → HasWork s h role key
  work now = record {
    may = record {
      running = running;
      idle = free.idle;
      due = subst IsDueWith is now;
      work = free.kind;
      known = known_unless_quiet (is_known key (writes s h)) s h role key refl legal (λ quiet. busy quiet.idle);
    };
    busy = busy;
  }

  by : (b : Bool) → due ≡ b → IsWorkOn s h role key (if b then Some (record { role = role; key = key; seen = seen; does = does }) else None)
  by true on = record { work = work (due_is.0 on); known = record { role = refl; key = refl; seen = is; does = here } }
  by false off = λ w. let on = due_is.1 (subst IsDueWith (sym is) w.may.due) in absurd (cc (on, off))

-- a pass that is due and has something to do is one to begin
pub work_found : (s : Setting) (h : List Entry) (role : Role) (key : Key) (seen : Views) (does : Option Act) (o : Opening) → IsLegal s h → seen ≡ views s h role key → runs s h role ≡ true → IsFree s h role key
    → IsProspect role (act role seen (moment s h) (desk s h role seen)) (prospect does) → IsDue (past s h role key) seen (moment s h) (positions h role) → o ≡ record { role = role; key = key; seen = seen; does = does } → IsWorkOn s h role key (Some o)
work_found s h role key seen does o legal is running free does_is due same =
    work_where_due s h role key seen does true (Some o) legal is running free does_is (λ on. due, λ d. refl) (ap (λ (x : Opening). some_opening x) same) where
      some_opening : Opening → Option Opening
      some_opening x = Some x
