-- A look at a key that is ready and in no pass keeps what is kept of its row.
use Rattle.std.proofs.Common.{◌≡◌, ◌⊎◌, ◌<◌, ◌≤◌, ℤ, List, Option, Some, None, Bool, true, false, refl, sym, subst}
use Rattle.std.specs.Prelude.{◌↔◌, IsTrue}
use Rattle.cmc_meta.specs.declared.key.Key.{Key}
use Rattle.cmc_objects.specs.declared.entry.Entry.{Entry}
use Rattle.cmc_objects.specs.declared.role.Role.{Role}
use Rattle.cmc_queue.specs.declared.row.Parked.{Parked}
use Rattle.cmc_queue.specs.declared.row.Row.{Row}
use Rattle.cmc_queue.specs.Rows.{left, looked}
use Rattle.cmc_queue.specs.declared.row.Found.TheVariants as found
use Rattle.cmc_model.specs.Histories.{Setting, moment}
use Rattle.cmc_rules.specs.Memory.{past}
use Rattle.cmc_rules.specs.Passes.{IsWorking}
use Rattle.cmc_rules.specs.Positions.{position_of, positions}
use Rattle.cmc_rules.specs.Rest.{IsIdle}
use Rattle.cmc_rules.specs.Sound as sound
use Rattle.cmc_rules.specs.Views.{views}
use Rattle.cmc_moves.specs.Quiet.{seen_last, IsQuiet}
use Rattle.cmc_waking.specs.Feeds.{found_busy, found_parked, found_idle, found_quiet, timed_too}
use Rattle.cmc_waking.specs.WakeUps.{IsDueNow, IsStoppedFor, IsTended, IsTimed}
use Rattle.cmc_waking.proofs.Promise.{idle_anywhere, idle_now}
use Rattle.cmc_waking.proofs.Tended.{kept_busy, kept_held, kept_idle, kept_quiet}

times_working : (next : Option ℤ) (row : Row) → (timed_too next row).working ≡ row.working
times_working None row = refl
times_working (Some at) row = refl

works_as : (s : Setting) (h : List Entry) (role : Role) (key : Key) (was is : Bool) → is ≡ was → (IsTrue was ↔ IsWorking s h role key) → IsTrue is ↔ IsWorking s h role key
works_as s h role key was is same works = subst (λ (b : Bool). IsTrue b ↔ IsWorking s h role key) (sym same) works

-- a pass may begin, and has something to do
pub tended_busy : (s : Setting) (h : List Entry) (role : Role) (key : Key) (row : Row) → row.ready ≡ true → row.working ≡ false → (IsIdle s h role (views s h role key) → ⊥) → IsDueNow s h role key → IsTended s h role key row
    → IsTended s h role key (found_busy row)
unfolding IsTended
tended_busy s h role key row ready free busy due is = record {
  working = is.working;
  kept = λ up. kept_busy role s.rules (past s h role key) (views s h role key) (moment s h) (positions h role) row ready free (record { busy = λ idle. busy (idle_now s h role key idle); due = due });
}

-- a pass may begin, has nothing to do and sees something new
pub tended_idle : (s : Setting) (h : List Entry) (role : Role) (key : Key) (row : Row) (next : Option ℤ) → sound.IsSound role → row.ready ≡ true → row.working ≡ false → IsTimed role (views s h role key) (moment s h) next
    → IsIdle s h role (views s h role key) → (views s h role key ≡ seen_last (past s h role key).last → ⊥) → IsDueNow s h role key → IsTended s h role key row → IsTended s h role key (found_idle next row)
unfolding IsTended
tended_idle s h role key row next laws ready free timed idle new due is = record {
  working = works_as s h role key row.working (found_idle next row).working (times_working next (looked found.Nothing row)) is.working;
  kept = λ up. kept_idle next role s.rules (past s h role key) (views s h role key) (moment s h) (positions h role) row ready free timed (idle_anywhere s h role key laws idle) new due;
}

-- there is nothing to do, and nothing new to see
pub tended_quiet : (s : Setting) (h : List Entry) (role : Role) (key : Key) (row : Row) (next : Option ℤ) → sound.IsSound role → row.working ≡ false → IsTimed role (views s h role key) (moment s h) next → IsQuiet s h role key
    → IsTended s h role key row → IsTended s h role key (found_quiet next row)
unfolding IsTended
tended_quiet s h role key row next laws free timed quiet is = record {
  working = works_as s h role key row.working (found_quiet next row).working (times_working next (left row)) is.working;
  kept = λ up. kept_quiet next role s.rules (past s h role key) (views s h role key) (moment s h) (positions h role) row free timed (idle_anywhere s h role key laws quiet.idle) quiet.same;
}

-- the role is not told of what bars the begin
pub tended_held : (s : Setting) (h : List Entry) (role : Role) (key : Key) (row : Row) (parked : Parked) → row.working ≡ false → position_of parked.kind (positions h role) < parked.version
    → (parked.version ≤ position_of parked.kind (past s h role key).own) ⊎ IsStoppedFor (past s h role key).last (views s h role key) parked → IsTended s h role key row → IsTended s h role key (found_parked parked row)
unfolding IsTended
tended_held s h role key row parked free behind cause is = record {
  working = is.working;
  kept = λ up. kept_held parked role s.rules (past s h role key) (views s h role key) (moment s h) (positions h role) row free behind cause;
}
