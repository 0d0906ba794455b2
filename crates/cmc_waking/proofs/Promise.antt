-- What is kept of the rows loses no wake-up, and says what searches have to find.
use Rattle.std.proofs.Common.{◌≡◌, ◌⊎◌, inl, inr, ◌<◌, ℤ, List, Option, Bool, true, false, refl, sym, subst, arith, int_le}
use Rattle.std.proofs.lemmas.Int.{ints}
use Rattle.std.specs.Prelude.{IsSomeAnd}
use Rattle.cmc_meta.specs.declared.key.Key.{Key}
use Rattle.cmc_objects.specs.declared.entry.Entry.{Entry}
use Rattle.cmc_objects.specs.declared.role.Role.{Role}
use Rattle.cmc_pass.specs.declared.pass.Act.{Act}
use Rattle.cmc_pass.specs.declared.pass.Act.TheVariants.{Nothing, Call as Calls, Ask as Asks, Issue, Temporary}
use Rattle.cmc_queue.specs.declared.row.Found.{Found}
use Rattle.cmc_queue.specs.declared.row.Found.TheVariants as found
use Rattle.cmc_queue.specs.declared.row.Parked.{Parked}
use Rattle.cmc_queue.specs.declared.row.Row.{Row}
use Rattle.cmc_model.specs.Histories.{Setting, moment, runs}
use Rattle.cmc_rules.specs.Acts.{act}
use Rattle.cmc_rules.specs.Desks.{desk}
use Rattle.cmc_rules.specs.Memory.{past}
use Rattle.cmc_rules.specs.Positions.{position_of, positions}
use Rattle.cmc_rules.specs.Rest.{IsIdle}
use Rattle.cmc_rules.specs.Sound as sound
use Rattle.cmc_rules.specs.Views.{views}
use Rattle.cmc_moves.specs.Quiet.{seen_last, IsQuiet}
use Rattle.cmc_waking.specs.WakeUps.{AreTended, IsAsleep, IsCovered, IsDueNow, WaitsForVersion, IsIdleAt, IsRowKept, IsLooked, IsSearched, IsLookedOrWaiting, IsTended, IsTimedBy, IsWaiting, LosesNoWakeUp}
use Rattle.cmc_waking.proofs.Tended.{waiting_undue}

abbrev Kept : Bool → Setting → List Entry → Role → Key → Row → Type 0
Kept working s h role key row = IsRowKept working role s.rules (past s h role key) (views s h role key) (moment s h) (positions h role) row

abbrev Stands : Bool → Setting → List Entry → Role → Key → Row → Type 0
Stands ready s h role key row = IsLookedOrWaiting ready role s.rules (past s h role key) (views s h role key) (moment s h) (positions h role) row

abbrev Sleeps : Setting → List Entry → Role → Key → Row → Type 0
Sleeps s h role key row = IsAsleep role s.rules (past s h role key) (views s h role key) (moment s h) row

abbrev Waits : Setting → List Entry → Role → Key → Row → Type 0
Waits s h role key row = IsWaiting (past s h role key) (views s h role key) (positions h role) row

-- what is nothing whatever was asked is nothing now
pub idle_now : (s : Setting) (h : List Entry) (role : Role) (key : Key) → IsIdleAt role s.rules (views s h role key) (moment s h) → IsIdle s h role (views s h role key)
idle_now s h role key idle = idle (desk s h role (views s h role key)) refl

held_back : (s : Setting) (h : List Entry) (role : Role) (key : Key) (row : Row) → Waits s h role key row → WaitsForVersion s h role key row
held_back s h role key row w = record {
  until = subst (λ (o : Option Parked). IsSomeAnd o (λ p. position_of p.kind (positions h role) < p.version)) (sym w.kept) w.behind;
  undue = λ now due. waiting_undue (past s h role key) (views s h role key) now (positions h role) row w due;
}

-- what is promised of one key
record IsPromised (s : Setting) (h : List Entry) (role : Role) (key : Key) (row : Row) : Type 0 where
  work : (IsIdle s h role (views s h role key) → ⊥) → IsCovered s h role key row
  news : (views s h role key ≡ seen_last (past s h role key).last → ⊥) → IsCovered s h role key row
  due : (at : ℤ) → sound.IsDueMoment role (views s h role key) at → int_le at (moment s h) ≡ false → IsCovered s h role key row ⊎ IsTimedBy row.timed at

covers : (s : Setting) (h : List Entry) (role : Role) (key : Key) (row : Row) → IsCovered s h role key row → IsPromised s h role key row
covers s h role key row covered = record { work = λ busy. covered; news = λ new. covered; due = λ at moment later. inl covered }

promised_by : (working ready : Bool) (s : Setting) (h : List Entry) (role : Role) (key : Key) (row : Row) → row.working ≡ working → row.ready ≡ ready → Kept working s h role key row → IsPromised s h role key row
promised_by true ready s h role key row on is kept = covers s h role key row (inr (inl on))
promised_by false true s h role key row on is kept = covers s h role key row (inl is)
promised_by false false s h role key row on is kept = by_standing (subst (λ (b : Bool). Stands b s h role key row) is kept) where
  by_standing : Sleeps s h role key row ⊎ Waits s h role key row → IsPromised s h role key row
  by_standing (inl a) = record {
    work = λ busy. absurd (busy (idle_now s h role key a.idle));
    news = λ new. absurd (new a.same);
    due = λ at moment later. inr (a.timed at moment later);
  }
  by_standing (inr w) = covers s h role key row (inr (inr (held_back s h role key row w)))

promised : (s : Setting) (h : List Entry) (role : Role) (key : Key) (row : Row) → runs s h role ≡ true → IsTended s h role key row → IsPromised s h role key row
unfolding IsTended
promised s h role key row up is = promised_by row.working row.ready s h role key row refl refl (is.kept up)

pub loses_none : (s : Setting) (h : List Entry) (role : Role) (row : Key → Row) → runs s h role ≡ true → AreTended s h role row → LosesNoWakeUp s h role row
loses_none s h role row up are = record {
  work = λ key kind. (promised s h role key (row key) up (are.tended key kind)).work;
  news = λ key kind. (promised s h role key (row key) up (are.tended key kind)).news;
  due = λ key at kind. (promised s h role key (row key) up (are.tended key kind)).due at;
}

-- ---- searches

is_nothing : (does : Act) → (does ≡ Nothing) ⊎ (does ≡ Nothing → ⊥)
is_nothing Nothing = inl refl
is_nothing (Calls call) = inr (λ is. absurd (cc is))
is_nothing (Asks order) = inr (λ is. absurd (cc is))
is_nothing (Issue plan) = inr (λ is. absurd (cc is))
is_nothing (Temporary plan) = inr (λ is. absurd (cc is))

-- what is nothing now is nothing whatever was asked
pub idle_anywhere : (s : Setting) (h : List Entry) (role : Role) (key : Key) → sound.IsSound role → IsIdle s h role (views s h role key) → IsIdleAt role s.rules (views s h role key) (moment s h)
idle_anywhere s h role key laws is d same =
    laws.idle (views s h role key) (moment s h) (moment s h) (desk s h role (views s h role key)) d (sym same) (λ at due later low. absurd (cc (later, low))) (itself (moment s h)) is
  where
    itself : (a : ℤ) → int_le a a ≡ true
    itself a = grind (arith, ints)

quiet_or_due : (s : Setting) (h : List Entry) (role : Role) (key : Key) (row : Row) → Sleeps s h role key row ⊎ Waits s h role key row → IsDueNow s h role key → IsQuiet s h role key
quiet_or_due s h role key row (inl a) due = record { idle = idle_now s h role key a.idle; same = a.same }
quiet_or_due s h role key row (inr w) due = absurd (waiting_undue (past s h role key) (views s h role key) (moment s h) (positions h role) row w due)

-- a row that is free stands so
standing : (s : Setting) (h : List Entry) (role : Role) (key : Key) (row : Row) (ready : Bool) → row.working ≡ false → row.ready ≡ ready → Kept row.working s h role key row → Stands ready s h role key row
standing s h role key row ready free is kept = subst (λ (b : Bool). Stands b s h role key row) is (subst (λ (b : Bool). Kept b s h role key row) free kept)

ready_by : (ready : Bool) (s : Setting) (h : List Entry) (role : Role) (key : Key) (row : Row) → row.ready ≡ ready → row.working ≡ false → Kept row.working s h role key row → IsDueNow s h role key → (IsQuiet s h role key → ⊥) → row.ready ≡ true
ready_by true s h role key row is free kept due worth = is
ready_by false s h role key row is free kept due worth = absurd (worth (quiet_or_due s h role key row (standing s h role key row false free is kept) due))

looked : (s : Setting) (h : List Entry) (role : Role) (key : Key) (row : Row) (work : Found) → row.working ≡ false → row.ready ≡ true → row.work ≡ work → Kept row.working s h role key row
    → IsLooked work role s.rules (past s h role key) (views s h role key) (moment s h) (positions h role) row
looked s h role key row work free ready is kept =
    subst (λ (w : Found). IsLooked w role s.rules (past s h role key) (views s h role key) (moment s h) (positions h role) row) is (standing s h role key row true free ready kept)

rest_by : (s : Setting) (h : List Entry) (role : Role) (key : Key) (row : Row) → Sleeps s h role key row ⊎ Waits s h role key row → ((IsIdle s h role (views s h role key) → ⊥) → IsDueNow s h role key)
    → (IsIdle s h role (views s h role key)) ⊎ (IsIdle s h role (views s h role key) → ⊥) → IsIdle s h role (views s h role key)
rest_by s h role key row (inl a) may either = idle_now s h role key a.idle
rest_by s h role key row (inr w) may (inl idle) = idle
rest_by s h role key row (inr w) may (inr busy) = absurd (waiting_undue (past s h role key) (views s h role key) (moment s h) (positions h role) row w (may busy))

rests : (ready : Bool) (s : Setting) (h : List Entry) (role : Role) (key : Key) (row : Row) → row.ready ≡ ready → row.working ≡ false → Kept row.working s h role key row → (row.ready ≡ true → row.work ≡ found.Nothing)
    → ((IsIdle s h role (views s h role key) → ⊥) → IsDueNow s h role key) → IsIdle s h role (views s h role key)
rests true s h role key row is free kept old may = idle_now s h role key (looked s h role key row found.Nothing free is (old is) kept).idle
rests false s h role key row is free kept old may =
    rest_by s h role key row (standing s h role key row false free is kept) may (is_nothing (act role (views s h role key) (moment s h) (desk s h role (views s h role key))))

searched_by : (s : Setting) (h : List Entry) (role : Role) (key : Key) (row : Row) → sound.IsSound role → Kept row.working s h role key row → IsSearched s h role key row
searched_by s h role key row laws kept = record {
  ready = λ free due worth. ready_by row.ready s h role key row refl free kept due worth;
  quiet = λ free off due. quiet_or_due s h role key row (standing s h role key row false free off kept) due;
  nothing = λ free on is. let news = looked s h role key row found.Nothing free on is kept in (news.due, idle_now s h role key news.idle, news.new);
  something = λ free on is. let busy = looked s h role key row found.Something free on is kept in (busy.due, λ idle. busy.busy (idle_anywhere s h role key laws idle));
  rest = λ free old may. rests row.ready s h role key row refl free kept old may;
}

pub searched : (s : Setting) (h : List Entry) (role : Role) (key : Key) (row : Row) → sound.IsSound role → runs s h role ≡ true → IsTended s h role key row → IsSearched s h role key row
unfolding IsTended
searched s h role key row laws up is = searched_by s h role key row laws (is.kept up)
