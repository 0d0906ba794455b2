-- No wake-up of a key is lost: each event keeps what is kept of its row.
use Rattle.std.proofs.Common.{◌≡◌, ◌⊎◌, inl, inr, ℕ, ℤ, ◌<◌, ◌≤◌, Bool, true, false, Option, Some, None, refl, sym, ap, subst, ◌∙◌, arith, int_le}
use Rattle.std.proofs.lemmas.Bool.{ltb-true, ltb-false, leb-false}
use Rattle.std.proofs.lemmas.Int.{ints}
use Rattle.std.specs.Prelude.{◌==◌, ◌&&◌, nat_le, nat_lt, if◌then◌else◌}
use Rattle.cmc_meta.specs.declared.key.Kind.{Kind}
use Rattle.cmc_meta.specs.declared.key.Kind.TheVariants.{Certificate, CertificateRequest, Secret}
use Rattle.cmc_meta.specs.Keys.{kind_rank}
use Rattle.cmc_objects.specs.declared.entry.Positions.{Positions}
use Rattle.cmc_objects.specs.declared.orders.Rules.{Rules}
use Rattle.cmc_objects.specs.declared.role.Role.{Role}
use Rattle.cmc_objects.specs.declared.role.Role.TheVariants as roles
use Rattle.cmc_queue.specs.declared.row.Found.{Found}
use Rattle.cmc_queue.specs.declared.row.Found.TheVariants as found
use Rattle.cmc_queue.specs.declared.row.Parked.{Parked}
use Rattle.cmc_queue.specs.declared.row.Row.{Row}
use Rattle.cmc_queue.specs.Rows.{earlier, is_due, is_free, is_reached, lapsed, moved, no_row, ticked}
use Rattle.cmc_pass.specs.declared.pass.Act.TheVariants.{Nothing}
use Rattle.cmc_pass.specs.declared.pass.Views.{Views}
use Rattle.cmc_rules.specs.declared.progress.Obstacle.TheVariants.{Failure, Newer}
use Rattle.cmc_rules.specs.declared.progress.Ending.{Ending}
use Rattle.cmc_rules.specs.declared.progress.Ending.TheVariants as endings
use Rattle.cmc_rules.specs.declared.progress.LastPass.{LastPass}
use Rattle.cmc_rules.specs.declared.progress.Past.{Past}
use Rattle.cmc_rules.specs.Acts.{act}
use Rattle.cmc_rules.specs.Memory.{with_begin, with_ending, with_position}
use Rattle.cmc_rules.specs.Positions.{position_of}
use Rattle.cmc_rules.specs.Sameness.{own_above, EndsAlike, IsDue, IsSame}
use Rattle.cmc_rules.specs.Sound as sound
use Rattle.cmc_moves.specs.Quiet.{no_views, seen_last}
use Rattle.cmc_waking.specs.Parked.{ahead, own_ahead}
use Rattle.cmc_waking.specs.Feeds.{row_begun, closed, found_busy, found_parked, found_idle, found_quiet, started, timed_too, row_delivered, waiting}
use Rattle.cmc_waking.specs.WakeUps.{IsAsleep, IsBusy, IsIdleAt, IsRowKept, IsLooked, IsNoted, IsLookedOrWaiting, IsStoppedAt, IsStoppedFor, IsTimed, IsTimedBy, IsUnchanged, IsWaiting}

-- ---- positions

abbrev no_number : Option ℕ
no_number = None

abbrev number : ℕ → Option ℕ
number n = Some n

-- where no own write is above the positions, each is told
told_of : (a b c : Bool) (own at : Positions) (k : Kind) → nat_lt at.certificates own.certificates ≡ a → nat_lt at.requests own.requests ≡ b → nat_lt at.secrets own.secrets ≡ c
    → (if a then number own.certificates else (if b then number own.requests else (if c then number own.secrets else no_number))) ≡ no_number → position_of k own ≤ position_of k at
told_of true b c own at k one two three is = absurd (cc is)
told_of false true c own at k one two three is = absurd (cc is)
told_of false false true own at k one two three is = absurd (cc is)
told_of false false false own at Certificate one two three is = ltb-false at.certificates own.certificates one
told_of false false false own at CertificateRequest one two three is = ltb-false at.requests own.requests two
told_of false false false own at Secret one two three is = ltb-false at.secrets own.secrets three

pub own_told : (own at : Positions) (k : Kind) → own_above own at ≡ no_number → position_of k own ≤ position_of k at
unfolding own_above
own_told own at k is = told_of (nat_lt at.certificates own.certificates) (nat_lt at.requests own.requests) (nat_lt at.secrets own.secrets) own at k refl refl refl is

not_above : (a b c : Bool) (own at : Positions) → nat_lt at.certificates own.certificates ≡ a → nat_lt at.requests own.requests ≡ b → nat_lt at.secrets own.secrets ≡ c
    → ((k : Kind) → position_of k own ≤ position_of k at) → (if a then number own.certificates else (if b then number own.requests else (if c then number own.secrets else no_number))) ≡ no_number
not_above true b c own at one two three low = absurd (let up = ltb-true at.certificates own.certificates one in omega (arith, up, low Certificate))
not_above false true c own at one two three low = absurd (let up = ltb-true at.requests own.requests two in omega (arith, up, low CertificateRequest))
not_above false false true own at one two three low = absurd (let up = ltb-true at.secrets own.secrets three in omega (arith, up, low Secret))
not_above false false false own at one two three low = refl

pub none_above : (own at : Positions) → ((k : Kind) → position_of k own ≤ position_of k at) → own_above own at ≡ no_number
unfolding own_above
none_above own at low = not_above (nat_lt at.certificates own.certificates) (nat_lt at.requests own.requests) (nat_lt at.secrets own.secrets) own at refl refl refl low

same_le : (n : ℕ) → n ≤ n
same_le n = omega arith

-- a position only grows
grown : (kind k : Kind) (to : ℕ) (at : Positions) → position_of kind at ≤ to → position_of k at ≤ position_of k (with_position kind to at)
grown Certificate Certificate to at low = low
grown Certificate CertificateRequest to at low = same_le at.requests
grown Certificate Secret to at low = same_le at.secrets
grown CertificateRequest Certificate to at low = same_le at.certificates
grown CertificateRequest CertificateRequest to at low = low
grown CertificateRequest Secret to at low = same_le at.secrets
grown Secret Certificate to at low = same_le at.certificates
grown Secret CertificateRequest to at low = same_le at.requests
grown Secret Secret to at low = low

le_trans : (a b c : ℕ) → a ≤ b → b ≤ c → a ≤ c
le_trans a b c one two = omega (arith, one, two)

le_lt : (a b c : ℕ) → a ≤ b → b < c → a < c
le_lt a b c one two = omega (arith, one, two)

-- what was not reached is still ahead
still_behind : (kind k : Kind) (to v : ℕ) (at : Positions) → ((kind_rank k == kind_rank kind) && nat_le v to) ≡ false → position_of k at < v → position_of k (with_position kind to at) < v
still_behind Certificate Certificate to v at off low = leb-false v to off
still_behind CertificateRequest CertificateRequest to v at off low = leb-false v to off
still_behind Secret Secret to v at off low = leb-false v to off
still_behind Certificate CertificateRequest to v at off low = low
still_behind Certificate Secret to v at off low = low
still_behind CertificateRequest Certificate to v at off low = low
still_behind CertificateRequest Secret to v at off low = low
still_behind Secret Certificate to v at off low = low
still_behind Secret CertificateRequest to v at off low = low

-- ---- a pass may begin

alike_before : (kind : Kind) (to : ℕ) (at : Positions) (ending : Ending) (since now : ℤ) → position_of kind at ≤ to → EndsAlike ending since now (with_position kind to at) → EndsAlike ending since now at
alike_before kind to at endings.Open since now low alike = alike
alike_before kind to at endings.Nothing since now low alike = alike
alike_before kind to at endings.Wrote since now low alike = alike
alike_before kind to at (endings.Refused Failure) since now low alike = alike
alike_before kind to at (endings.Refused (Newer k v)) since now low alike = le_lt (position_of k at) (position_of k (with_position kind to at)) v (grown kind k to at low) alike

same_before : (kind : Kind) (to : ℕ) (at : Positions) (last : Option LastPass) (seen : Views) (now : ℤ) → position_of kind at ≤ to → IsSame last seen now (with_position kind to at) → IsSame last seen now at
same_before kind to at None seen now low same = same
same_before kind to at (Some l) seen now low same = (same.0, alike_before kind to at l.ending l.since now low same.1)

-- and still may once the role is told more
due_told : (past : Past) (seen : Views) (now : ℤ) (at : Positions) (kind : Kind) (to : ℕ) → position_of kind at ≤ to → IsDue past seen now at → IsDue past seen now (with_position kind to at)
due_told past seen now at kind to low due = record {
  told = none_above past.own (with_position kind to at) (λ k. le_trans (position_of k past.own) (position_of k at) (position_of k (with_position kind to at)) (own_told past.own at k due.told) (grown kind k to at low));
  other = λ same. due.other (same_before kind to at past.last seen now low same);
}

-- what is new is not the same again, whatever the moment
not_again : (last : Option LastPass) (seen : Views) (now : ℤ) (at : Positions) → (seen ≡ seen_last last → ⊥) → IsSame last seen now at → ⊥
not_again None seen now at new same = same
not_again (Some l) seen now at new same = new (sym same.0)

-- ---- a key that waits

stopped_same : (ending : Ending) (p : Parked) (since now : ℤ) (at : Positions) → IsStoppedAt ending p → position_of p.kind at < p.version → EndsAlike ending since now at
stopped_same endings.Open p since now at stopped low = absurd stopped
stopped_same endings.Nothing p since now at stopped low = absurd stopped
stopped_same endings.Wrote p since now at stopped low = absurd stopped
stopped_same (endings.Refused Failure) p since now at stopped low = absurd stopped
stopped_same (endings.Refused (Newer kind version)) p since now at stopped low =
    subst (λ (k : Kind). position_of k at < version) (sym stopped.0) (subst (λ (v : ℕ). position_of p.kind at < v) (sym stopped.1) low)

refused_same : (last : Option LastPass) (seen : Views) (p : Parked) (now : ℤ) (at : Positions) → IsStoppedFor last seen p → position_of p.kind at < p.version → IsSame last seen now at
refused_same None seen p now at stopped low = absurd stopped
refused_same (Some l) seen p now at stopped low = (stopped.0, stopped_same l.ending p l.since now at stopped.1 low)

undue_by : (past : Past) (seen : Views) (now : ℤ) (at : Positions) (p : Parked) → position_of p.kind at < p.version → (p.version ≤ position_of p.kind past.own) ⊎ IsStoppedFor past.last seen p → IsDue past seen now at → ⊥
undue_by past seen now at p behind (inl own) due = let low = own_told past.own at p.kind due.told in omega (arith, behind, own, low)
undue_by past seen now at p behind (inr stopped) due = due.other (refused_same past.last seen p now at stopped behind)

-- a key that waits may not begin, at any moment
pub waiting_undue : (past : Past) (seen : Views) (now : ℤ) (at : Positions) (row : Row) → IsWaiting past seen at row → IsDue past seen now at → ⊥
waiting_undue past seen now at row w due = undue_by past seen now at w.parked w.behind w.cause due

-- ---- moments

before_due : (o : Option ℤ) (at u : ℤ) → IsTimedBy o at → int_le at u ≡ true → is_due u o ≡ false → ⊥
before_due None at u timed low off = absurd timed
before_due (Some t) at u timed low off = absurd (grind (arith, ints))

later_still : (b : Bool) (v t u : ℤ) → int_le v t ≡ b → int_le t u ≡ true → int_le v u ≡ false → int_le v t ≡ false
later_still false v t u e le above = e
later_still true v t u e le above = absurd (grind (arith, ints))

timed_later : (role : Role) (seen : Views) (now soon : ℤ) (timed : Option ℤ) → int_le now soon ≡ true → IsTimed role seen now timed → IsTimed role seen soon timed
timed_later role seen now soon timed le is at moment above = is at moment (later_still (int_le at now) at now soon refl le above)

-- what is idle stays so while its moment has not come
idle_later : (role : Role) (rules : Rules) (seen : Views) (now soon : ℤ) (timed : Option ℤ) → sound.IsSound role → int_le now soon ≡ true → is_due soon timed ≡ false → IsTimed role seen now timed → IsIdleAt role rules seen now → IsIdleAt role rules seen soon
idle_later role rules seen now soon timed laws le off is idle d same =
    laws.idle seen now soon d d refl (λ at moment above low. before_due timed at soon (is at moment above) low off) le (idle d same)

sooner_by : (b : Bool) (new old at : ℤ) → int_le old new ≡ b → int_le new at ≡ true → int_le (if b then old else new) at ≡ true
sooner_by true new old at is low = grind (arith, ints)
sooner_by false new old at is low = low

-- a moment more is noted
timed_more : (new : ℤ) (old : Option ℤ) (at : ℤ) → int_le new at ≡ true → IsTimedBy (Some (earlier new old)) at
timed_more new None at is = is
timed_more new (Some old) at is = sooner_by (int_le old new) new old at refl is

timed_by_next : (role : Role) (seen : Views) (now : ℤ) (next : Option ℤ) (row : Row) → IsTimed role seen now next → IsTimed role seen now (timed_too next row).timed
timed_by_next role seen now None row is at moment above = absurd (is at moment above)
timed_by_next role seen now (Some new) row is at moment above = timed_more new row.timed at (is at moment above)

-- ---- a row that is ready, and is to be looked at

abbrev fresh_row : Bool → Option Parked → Option ℤ → Row
fresh_row working parked timed = record { ready = true; work = found.Unknown; working = working; parked = parked; timed = timed }

fresh_kept : (working : Bool) (role : Role) (rules : Rules) (past : Past) (seen : Views) (now : ℤ) (at : Positions) (parked : Option Parked) (timed : Option ℤ) → IsRowKept working role rules past seen now at (fresh_row working parked timed)
fresh_kept true role rules past seen now at parked timed = record { unknown = refl; unchanged = λ off. absurd (cc off) }
fresh_kept false role rules past seen now at parked timed = tt

-- ---- a tick

abbrev row_of : Bool → Found → Bool → Option Parked → Option ℤ → Row
row_of ready work working parked timed = record { ready = ready; work = work; working = working; parked = parked; timed = timed }

standing_later : (ready : Bool) (work : Found) (role : Role) (rules : Rules) (past : Past) (seen : Views) (now soon : ℤ) (at : Positions) (parked : Option Parked) (timed : Option ℤ) → sound.IsSound role → int_le now soon ≡ true → is_due soon timed ≡ false
    → IsLookedOrWaiting ready role rules past seen now at (row_of ready work false parked timed) → IsLookedOrWaiting ready role rules past seen soon at (row_of ready (lapsed work) false parked timed)
standing_later true found.Unknown role rules past seen now soon at parked timed laws le off is = tt
standing_later true found.Something role rules past seen now soon at parked timed laws le off is = tt
standing_later true found.Nothing role rules past seen now soon at parked timed laws le off is = record {
  idle = idle_later role rules seen now soon timed laws le off is.timed is.idle;
  new = is.new;
  due = record { told = is.due.told; other = not_again past.last seen soon at is.new };
  timed = timed_later role seen now soon timed le is.timed;
}
standing_later false work role rules past seen now soon at parked timed laws le off (inl a) =
    inl (record { idle = idle_later role rules seen now soon timed laws le off a.timed a.idle; same = a.same; timed = timed_later role seen now soon timed le a.timed })
standing_later false work role rules past seen now soon at parked timed laws le off (inr w) = inr (record { parked = w.parked; kept = w.kept; behind = w.behind; cause = w.cause })

on_and_on : (a b c : ℤ) → int_le a b ≡ true → int_le b c ≡ true → int_le a c ≡ true
on_and_on a b c one two = grind (arith, ints)

none_came : (b : Bool) (role : Role) (seen : Views) (now soon at : ℤ) (timed : Option ℤ) → int_le at now ≡ b → is_due soon timed ≡ false → IsTimed role seen now timed → sound.IsDueMoment role seen at → int_le at soon ≡ true → (int_le at now ≡ true → ⊥) → ⊥
none_came true role seen now soon at timed e off is moment low before = before e
none_came false role seen now soon at timed e off is moment low before = before_due timed at soon (is at moment e) low off

kept_later : (working ready : Bool) (work : Found) (role : Role) (rules : Rules) (past : Past) (seen : Views) (now soon : ℤ) (at : Positions) (parked : Option Parked) (timed : Option ℤ) → sound.IsSound role → int_le now soon ≡ true → is_due soon timed ≡ false
    → IsRowKept working role rules past seen now at (row_of ready work working parked timed) → IsRowKept working role rules past seen soon at (row_of ready (lapsed work) working parked timed)
kept_later true ready work role rules past seen now soon at parked timed laws le off is = record { unknown = ap lapsed is.unknown; unchanged = λ out. still (is.unchanged out) } where
  still : IsUnchanged role past seen now (row_of ready work true parked timed) → IsUnchanged role past seen soon (row_of ready (lapsed work) true parked timed)
  still u = record {
    last = u.last;
    is = u.is;
    later = on_and_on u.last.since now soon u.later le;
    same = u.same;
    timed = timed_later role seen now soon timed le u.timed;
    calm = λ moment due above low. none_came (int_le moment now) role seen now soon moment timed refl off u.timed due low (λ before. u.calm moment due above before);
  }
kept_later false ready work role rules past seen now soon at parked timed laws le off is = standing_later ready work role rules past seen now soon at parked timed laws le off is

by_tick : (b : Bool) (u : ℤ) (row : Row) → is_due u row.timed ≡ b → ticked u row ≡ (if b then record row { ready = true; work = found.Unknown; timed = None } else record row { work = lapsed row.work })
unfolding ticked
by_tick b u row e = rw e refl

ticked_by : (b : Bool) (role : Role) (rules : Rules) (past : Past) (seen : Views) (now soon : ℤ) (at : Positions) (row new : Row) → sound.IsSound role → int_le now soon ≡ true → is_due soon row.timed ≡ b
    → new ≡ (if b then record row { ready = true; work = found.Unknown; timed = None } else record row { work = lapsed row.work }) → IsRowKept row.working role rules past seen now at row → IsRowKept new.working role rules past seen soon at new
ticked_by true role rules past seen now soon at row new laws le is to kept = subst (λ (r : Row). IsRowKept r.working role rules past seen soon at r) (sym to) (fresh_kept row.working role rules past seen soon at row.parked None)
ticked_by false role rules past seen now soon at row new laws le is to kept =
    subst (λ (r : Row). IsRowKept r.working role rules past seen soon at r) (sym to) (kept_later row.working row.ready row.work role rules past seen now soon at row.parked row.timed laws le is kept)

pub kept_ticked : (role : Role) (rules : Rules) (past : Past) (seen : Views) (now soon : ℤ) (at : Positions) (row : Row) → sound.IsSound role → int_le now soon ≡ true → IsRowKept row.working role rules past seen now at row
    → IsRowKept (ticked soon row).working role rules past seen soon at (ticked soon row)
kept_ticked role rules past seen now soon at row laws le kept =
    ticked_by (is_due soon row.timed) role rules past seen now soon at row (ticked soon row) laws le refl (by_tick (is_due soon row.timed) soon row refl) kept

-- ---- the role is told

standing_told : (ready : Bool) (work : Found) (role : Role) (rules : Rules) (past : Past) (seen : Views) (now : ℤ) (at : Positions) (kind : Kind) (to : ℕ) (parked : Option Parked) (timed : Option ℤ) → position_of kind at ≤ to → is_reached kind to parked ≡ false
    → IsLookedOrWaiting ready role rules past seen now at (row_of ready work false parked timed) → IsLookedOrWaiting ready role rules past seen now (with_position kind to at) (row_of ready work false parked timed)
standing_told true found.Unknown role rules past seen now at kind to parked timed low off is = tt
standing_told true found.Nothing role rules past seen now at kind to parked timed low off is = record { idle = is.idle; new = is.new; due = due_told past seen now at kind to low is.due; timed = is.timed }
standing_told true found.Something role rules past seen now at kind to parked timed low off is = record { busy = is.busy; due = due_told past seen now at kind to low is.due }
standing_told false work role rules past seen now at kind to parked timed low off (inl a) = inl a
standing_told false work role rules past seen now at kind to parked timed low off (inr w) = inr (record {
  parked = w.parked;
  kept = w.kept;
  behind = still_behind kind w.parked.kind to w.parked.version at (subst (λ (o : Option Parked). is_reached kind to o ≡ false) w.kept off) w.behind;
  cause = w.cause;
})

kept_unlisted : (working ready : Bool) (work : Found) (role : Role) (rules : Rules) (past : Past) (seen : Views) (now : ℤ) (at : Positions) (kind : Kind) (to : ℕ) (parked : Option Parked) (timed : Option ℤ) → position_of kind at ≤ to → is_reached kind to parked ≡ false
    → IsRowKept working role rules past seen now at (row_of ready work working parked timed) → IsRowKept working role rules past seen now (with_position kind to at) (row_of ready work working parked timed)
kept_unlisted true ready work role rules past seen now at kind to parked timed low off is = is
kept_unlisted false ready work role rules past seen now at kind to parked timed low off is = standing_told ready work role rules past seen now at kind to parked timed low off is

by_move : (b : Bool) (kind : Kind) (to : ℕ) (row : Row) → is_reached kind to row.parked ≡ b → moved kind to row ≡ (if b then record row { ready = true; work = found.Unknown; parked = None } else row)
unfolding moved
by_move b kind to row e = rw e refl

moved_by : (b : Bool) (role : Role) (rules : Rules) (past : Past) (seen : Views) (now : ℤ) (at : Positions) (kind : Kind) (to : ℕ) (row new : Row) → position_of kind at ≤ to → is_reached kind to row.parked ≡ b
    → new ≡ (if b then record row { ready = true; work = found.Unknown; parked = None } else row) → IsRowKept row.working role rules past seen now at row → IsRowKept new.working role rules past seen now (with_position kind to at) new
moved_by true role rules past seen now at kind to row new low is to_new kept =
    subst (λ (r : Row). IsRowKept r.working role rules past seen now (with_position kind to at) r) (sym to_new) (fresh_kept row.working role rules past seen now (with_position kind to at) None row.timed)
moved_by false role rules past seen now at kind to row new low is to_new kept =
    subst (λ (r : Row). IsRowKept r.working role rules past seen now (with_position kind to at) r) (sym to_new) (kept_unlisted row.working row.ready row.work role rules past seen now at kind to row.parked row.timed low is kept)

pub kept_told : (listed : Bool) (role : Role) (rules : Rules) (past : Past) (seen new : Views) (now : ℤ) (at : Positions) (kind : Kind) (to : ℕ) (row : Row) → position_of kind at ≤ to → (listed ≡ false → new ≡ seen) → IsRowKept row.working role rules past seen now at row
    → IsRowKept (row_delivered listed kind to row).working role rules past new now (with_position kind to at) (row_delivered listed kind to row)
kept_told true role rules past seen new now at kind to row low same kept = fresh_kept (moved kind to row).working role rules past new now (with_position kind to at) (moved kind to row).parked (moved kind to row).timed
kept_told false role rules past seen new now at kind to row low same kept =
    subst (λ (v : Views). IsRowKept (moved kind to row).working role rules past v now (with_position kind to at) (moved kind to row)) (sym (same refl))
    (moved_by (is_reached kind to row.parked) role rules past seen now at kind to row (moved kind to row) low refl (by_move (is_reached kind to row.parked) kind to row refl) kept)

-- ---- a pass begins

itself : (a : ℤ) → int_le a a ≡ true
itself a = grind (arith, ints)

-- as a pass has just begun
as_begun : (role : Role) (past : Past) (seen : Views) (now : ℤ) (row : Row) → IsTimed role seen now row.timed → IsUnchanged role (with_begin seen now past) seen now row
as_begun role past seen now row timed = record {
  last = record { seen = seen; since = now; ending = endings.Open };
  is = refl;
  later = itself now;
  same = refl;
  timed = timed;
  calm = λ at moment above low. cc (above, low);
}

-- the moment at which the key is timed beside its other one is all that is written beside the begin
begun_row : (next : Option ℤ) (row : Row) → is_free row ≡ true → row_begun next row ≡ timed_too next (record row { ready = false; work = found.Unknown; working = true })
begun_row next row free = ap (timed_too next) (by (is_free row) free) where
  by : (b : Bool) → b ≡ true → (if b then record row { ready = false; work = found.Unknown; working = true } else row) ≡ record row { ready = false; work = found.Unknown; working = true }
  by true on = refl
  by false on = absurd (cc on)

noted_begun : (next : Option ℤ) (role : Role) (rules : Rules) (past : Past) (seen : Views) (now : ℤ) (at : Positions) (row : Row) → IsTimed role seen now next
    → IsRowKept (timed_too next (record row { ready = false; work = found.Unknown; working = true })).working role rules (with_begin seen now past) seen now at (timed_too next (record row { ready = false; work = found.Unknown; working = true }))
noted_begun None role rules past seen now at row is = record {
  unknown = refl;
  unchanged = λ off. as_begun role past seen now (timed_too None (record row { ready = false; work = found.Unknown; working = true })) (timed_by_next role seen now None (record row { ready = false; work = found.Unknown; working = true }) is);
}
noted_begun (Some new) role rules past seen now at row is = record {
  unknown = refl;
  unchanged = λ off. as_begun role past seen now (timed_too (Some new) (record row { ready = false; work = found.Unknown; working = true })) (timed_by_next role seen now (Some new) (record row { ready = false; work = found.Unknown; working = true }) is);
}

pub kept_begun : (next : Option ℤ) (role : Role) (rules : Rules) (past : Past) (seen : Views) (now : ℤ) (at : Positions) (row : Row) → is_free row ≡ true → IsTimed role seen now next
    → IsRowKept (row_begun next row).working role rules (with_begin seen now past) seen now at (row_begun next row)
kept_begun next role rules past seen now at row free is =
    subst (λ (r : Row). IsRowKept r.working role rules (with_begin seen now past) seen now at r) (sym (begun_row next row free)) (noted_begun next role rules past seen now at row is)

-- ---- the pass writes

pub kept_working : (role : Role) (rules : Rules) (past new : Past) (seen : Views) (now : ℤ) (at : Positions) (row : Row) → row.working ≡ true → new.last ≡ past.last → IsRowKept row.working role rules past seen now at row
    → IsRowKept row.working role rules new seen now at row
kept_working role rules past new seen now at row on same kept =
    let noted : IsNoted role past seen now row = subst (λ (b : Bool). IsRowKept b role rules past seen now at row) on kept in
    subst (λ (b : Bool). IsRowKept b role rules new seen now at row) (sym on)
    (record { unknown = noted.unknown; unchanged = λ off. again (noted.unchanged off) })
  where
    again : IsUnchanged role past seen now row → IsUnchanged role new seen now row
    again u = record { last = u.last; is = same ∙ u.is; later = u.later; same = u.same; timed = u.timed; calm = u.calm }

-- ---- a pass ends

fresh_looked : (work : Found) (role : Role) (rules : Rules) (past : Past) (seen : Views) (now : ℤ) (at : Positions) (row : Row) → work ≡ found.Unknown → IsLooked work role rules past seen now at row
fresh_looked found.Unknown role rules past seen now at row is = tt
fresh_looked found.Nothing role rules past seen now at row is = absurd (cc is)
fresh_looked found.Something role rules past seen now at row is = absurd (cc is)

ahead_by : (b : Bool) (kind : Kind) (version : ℕ) (own at : Positions) (rest : Option Parked) (p : Parked) → nat_lt (position_of kind at) version ≡ b → version ≤ position_of kind own
    → (rest ≡ Some p → (position_of p.kind at < p.version) × (p.version ≤ position_of p.kind own)) → (if b then Some (record { kind = kind; version = version }) else rest) ≡ Some p
    → (position_of p.kind at < p.version) × (p.version ≤ position_of p.kind own)
ahead_by true kind version own at rest p test low others is =
    let q : Parked = record { kind = kind; version = version } in
    let same : q ≡ p = cc is in
    subst (λ (x : Parked). (position_of x.kind at < x.version) × (x.version ≤ position_of x.kind own)) same (ltb-true (position_of kind at) version test, low)
ahead_by false kind version own at rest p test low others is = others is

-- the first own write that is ahead is one, and is ahead
pub own_is : (own at : Positions) (p : Parked) → own_ahead own at ≡ Some p → (position_of p.kind at < p.version) × (p.version ≤ position_of p.kind own)
own_is own at p is =
    ahead_by (nat_lt at.certificates own.certificates) Certificate own.certificates own at (ahead CertificateRequest own.requests at (ahead Secret own.secrets at None)) p refl (same_le own.certificates)
    (ahead_by (nat_lt at.requests own.requests) CertificateRequest own.requests own at (ahead Secret own.secrets at None) p refl (same_le own.requests)
    (ahead_by (nat_lt at.secrets own.secrets) Secret own.secrets own at None p refl (same_le own.secrets) (λ none. absurd (cc none)))) is

-- what is left of a row that is ready: it is looked at again
waited_ready : (o : Option Parked) (work : Found) (role : Role) (rules : Rules) (past : Past) (seen : Views) (now : ℤ) (at : Positions) (parked : Option Parked) (timed : Option ℤ) → work ≡ found.Unknown
    → IsRowKept (waiting o (row_of true work false parked timed)).working role rules past seen now at (waiting o (row_of true work false parked timed))
waited_ready None work role rules past seen now at parked timed fresh = tt
waited_ready (Some p) work role rules past seen now at parked timed fresh = fresh_looked work role rules past seen now at (row_of true work false (Some p) timed) fresh

kept_ready : (ending : Ending) (work : Found) (working : Bool) (role : Role) (rules : Rules) (own : Positions) (past : Past) (seen : Views) (now : ℤ) (at : Positions) (parked : Option Parked) (timed : Option ℤ) → work ≡ found.Unknown
    → IsRowKept (closed ending own at (row_of true work working parked timed)).working role rules past seen now at (closed ending own at (row_of true work working parked timed))
kept_ready endings.Open work working role rules own past seen now at parked timed fresh = tt
kept_ready endings.Nothing work working role rules own past seen now at parked timed fresh = fresh_looked work role rules past seen now at (row_of true work false parked timed) fresh
kept_ready endings.Wrote work working role rules own past seen now at parked timed fresh = waited_ready (own_ahead own at) work role rules past seen now at parked timed fresh
kept_ready (endings.Refused Failure) work working role rules own past seen now at parked timed fresh = tt
kept_ready (endings.Refused (Newer kind version)) work working role rules own past seen now at parked timed fresh = waited_ready (ahead kind version at None) work role rules past seen now at parked timed fresh

-- of any other row: it waits, or is looked at again
waited : (o : Option Parked) (work : Found) (role : Role) (rules : Rules) (past : Past) (seen : Views) (now : ℤ) (at : Positions) (parked : Option Parked) (timed : Option ℤ)
    → ((p : Parked) → o ≡ Some p → (position_of p.kind at < p.version) × ((p.version ≤ position_of p.kind past.own) ⊎ IsStoppedFor past.last seen p))
    → IsRowKept (waiting o (row_of false work false parked timed)).working role rules past seen now at (waiting o (row_of false work false parked timed))
waited None work role rules past seen now at parked timed cause = tt
waited (Some p) work role rules past seen now at parked timed cause = let why = cause p refl in inr (record { parked = p; kept = refl; behind = why.0; cause = why.1 })

pub newer_is : (b : Bool) (kind : Kind) (version : ℕ) (at : Positions) (p : Parked) → nat_lt (position_of kind at) version ≡ b → (if b then Some (record { kind = kind; version = version }) else None) ≡ Some p
    → (position_of p.kind at < p.version) × ((kind ≡ p.kind) × (version ≡ p.version))
newer_is true kind version at p test is =
    let q : Parked = record { kind = kind; version = version } in
    let same : q ≡ p = cc is in
    subst (λ (x : Parked). (position_of x.kind at < x.version) × ((kind ≡ x.kind) × (version ≡ x.version))) same (ltb-true (position_of kind at) version test, (refl, refl))
newer_is false kind version at p test is = absurd (cc is)

abbrev end_of : Ending → Positions → LastPass → Past
end_of ending own l = record { own = own; last = Some (record l { ending = ending }) }

-- how the open pass may end: with nothing where it had nothing to do
abbrev pub IsFair : Role → Rules → LastPass → Ending → Type 0
IsFair role rules l endings.Open = ⊥
IsFair role rules l endings.Nothing = IsIdleAt role rules l.seen l.since
IsFair role rules l other = Unit {0}

kept_unready : (ending : Ending) (work : Found) (working : Bool) (role : Role) (rules : Rules) (own : Positions) (l : LastPass) (seen : Views) (now : ℤ) (at : Positions) (parked : Option Parked) (timed : Option ℤ) → sound.IsSound role → int_le l.since now ≡ true
    → IsFair role rules l ending → seen ≡ l.seen → IsTimed role seen now timed → sound.HasNoDueMoment role seen l.since now
    → IsRowKept (closed ending own at (row_of false work working parked timed)).working role rules (end_of ending own l) seen now at (closed ending own at (row_of false work working parked timed))
kept_unready endings.Open work working role rules own l seen now at parked timed laws later fair same noted calm = absurd fair
kept_unready endings.Nothing work working role rules own l seen now at parked timed laws later fair same noted calm = inl (record {
  idle = λ d rules_are. laws.idle seen l.since now d d refl calm later (subst (λ (v : Views). act role v l.since d ≡ Nothing) (sym same) (fair d rules_are));
  same = same;
  timed = noted;
})
kept_unready endings.Wrote work working role rules own l seen now at parked timed laws later fair same noted calm =
    waited (own_ahead own at) work role rules (end_of endings.Wrote own l) seen now at parked timed (λ p is. let what = own_is own at p is in (what.0, inl what.1))
kept_unready (endings.Refused Failure) work working role rules own l seen now at parked timed laws later fair same noted calm = tt
kept_unready (endings.Refused (Newer kind version)) work working role rules own l seen now at parked timed laws later fair same noted calm =
    waited (ahead kind version at None) work role rules (end_of (endings.Refused (Newer kind version)) own l) seen now at parked timed
    (λ p is. let what = newer_is (nat_lt (position_of kind at) version) kind version at p refl is in (what.0, inr (sym same, what.1)))

unready_ended : (ending : Ending) (role : Role) (rules : Rules) (past : Past) (seen : Views) (now : ℤ) (at : Positions) (work : Found) (working : Bool) (parked : Option Parked) (timed : Option ℤ) → sound.IsSound role
    → ((l : LastPass) → past.last ≡ Some l → IsFair role rules l ending) → IsUnchanged role past seen now (row_of false work working parked timed)
    → IsRowKept (closed ending past.own at (row_of false work working parked timed)).working role rules (with_ending ending past) seen now at (closed ending past.own at (row_of false work working parked timed))
unready_ended ending role rules past seen now at work working parked timed laws fair u =
    subst
    (λ (o : Option LastPass). IsRowKept (closed ending past.own at (row_of false work working parked timed)).working role rules (with_ending ending (record { own = past.own; last = o })) seen now at (closed ending past.own at (row_of false work working parked timed)))
    (sym u.is)
    (kept_unready ending work working role rules past.own u.last seen now at parked timed laws u.later (fair u.last u.is) u.same u.timed u.calm)

ended_by : (ready : Bool) (ending : Ending) (role : Role) (rules : Rules) (past : Past) (seen : Views) (now : ℤ) (at : Positions) (work : Found) (working : Bool) (parked : Option Parked) (timed : Option ℤ) → sound.IsSound role
    → ((l : LastPass) → past.last ≡ Some l → IsFair role rules l ending) → IsNoted role past seen now (row_of ready work working parked timed)
    → IsRowKept (closed ending past.own at (row_of ready work working parked timed)).working role rules (with_ending ending past) seen now at (closed ending past.own at (row_of ready work working parked timed))
ended_by true ending role rules past seen now at work working parked timed laws fair noted = kept_ready ending work working role rules past.own (with_ending ending past) seen now at parked timed noted.unknown
ended_by false ending role rules past seen now at work working parked timed laws fair noted = unready_ended ending role rules past seen now at work working parked timed laws fair (noted.unchanged refl)

pub kept_closed : (ending : Ending) (role : Role) (rules : Rules) (past : Past) (seen : Views) (now : ℤ) (at : Positions) (row : Row) → sound.IsSound role → ((l : LastPass) → past.last ≡ Some l → IsFair role rules l ending)
    → row.working ≡ true → IsRowKept row.working role rules past seen now at row → IsRowKept (closed ending past.own at row).working role rules (with_ending ending past) seen now at (closed ending past.own at row)
kept_closed ending role rules past seen now at row laws fair on kept =
    ended_by row.ready ending role rules past seen now at row.work row.working row.parked row.timed laws fair (subst (λ (b : Bool). IsRowKept b role rules past seen now at row) on kept)

-- ---- a role starts, or an entry finds it as it began

-- of no object no moment is due
pub nothing_due : (role : Role) (at : ℤ) → sound.IsDueMoment role no_views at → ⊥
nothing_due roles.Trigger at due = due
nothing_due roles.KeyManager at due = due
nothing_due roles.RequestManager at due = due
nothing_due roles.Approver at due = due
nothing_due roles.Issuer at due = due
nothing_due roles.Issuing at due = due
nothing_due roles.Readiness at due = due
nothing_due roles.Revision at due = due

nothing_seen : (role : Role) (rules : Rules) (past : Past) (seen : Views) (now : ℤ) (row : Row) → sound.IsSound role → seen ≡ no_views → past.last ≡ None → IsAsleep role rules past seen now row
nothing_seen role rules past seen now row laws none first = record {
  idle = λ d same. laws.absent seen now d (record { certificate = ap (λ (v : Views). v.certificate) none; request = ap (λ (v : Views). v.request) none });
  same = none ∙ ap seen_last (sym first);
  timed = λ at moment above. absurd (nothing_due role at (subst (λ (v : Views). sound.IsDueMoment role v at) none moment));
}

pub kept_started : (known : Bool) (role : Role) (rules : Rules) (past : Past) (seen : Views) (now : ℤ) (at : Positions) → sound.IsSound role → past.last ≡ None → (known ≡ false → seen ≡ no_views)
    → IsRowKept (started known).working role rules past seen now at (started known)
kept_started true role rules past seen now at laws first none = tt
kept_started false role rules past seen now at laws first none = inl (nothing_seen role rules past seen now no_row laws (none refl) first)

-- ---- a key is looked at where it is ready and in no pass

pub kept_busy : (role : Role) (rules : Rules) (past : Past) (seen : Views) (now : ℤ) (at : Positions) (row : Row) → row.ready ≡ true → row.working ≡ false → IsBusy role rules past seen now at
    → IsRowKept (found_busy row).working role rules past seen now at (found_busy row)
kept_busy role rules past seen now at row ready free busy =
    subst (λ (b : Bool). IsRowKept b role rules past seen now at (found_busy row)) (sym free) (subst (λ (b : Bool). IsLookedOrWaiting b role rules past seen now at (found_busy row)) (sym ready) busy)

-- the parts of a row that a moment more leaves as they are
record IsLeft (old new : Row) : Type 0 where
  ready : new.ready ≡ old.ready
  work : new.work ≡ old.work
  working : new.working ≡ old.working

left_by : (next : Option ℤ) (row : Row) → IsLeft row (timed_too next row)
left_by None row = record { ready = refl; work = refl; working = refl }
left_by (Some at) row = record { ready = refl; work = refl; working = refl }

pub kept_idle : (next : Option ℤ) (role : Role) (rules : Rules) (past : Past) (seen : Views) (now : ℤ) (at : Positions) (row : Row) → row.ready ≡ true → row.working ≡ false → IsTimed role seen now next
    → IsIdleAt role rules seen now → (seen ≡ seen_last past.last → ⊥) → IsDue past seen now at → IsRowKept (found_idle next row).working role rules past seen now at (found_idle next row)
kept_idle next role rules past seen now at row ready free timed idle new due =
    let left = left_by next (record row { work = found.Nothing }) in
    subst (λ (b : Bool). IsRowKept b role rules past seen now at (found_idle next row)) (sym (left.working ∙ free))
    (subst (λ (b : Bool). IsLookedOrWaiting b role rules past seen now at (found_idle next row)) (sym (left.ready ∙ ready))
    (subst (λ (w : Found). IsLooked w role rules past seen now at (found_idle next row)) (sym left.work)
    (record { idle = idle; new = new; due = due; timed = timed_by_next role seen now next (record row { work = found.Nothing }) timed })))

pub kept_quiet : (next : Option ℤ) (role : Role) (rules : Rules) (past : Past) (seen : Views) (now : ℤ) (at : Positions) (row : Row) → row.working ≡ false → IsTimed role seen now next
    → IsIdleAt role rules seen now → seen ≡ seen_last past.last → IsRowKept (found_quiet next row).working role rules past seen now at (found_quiet next row)
kept_quiet next role rules past seen now at row free timed idle same =
    let left = left_by next (record row { ready = false; work = found.Unknown }) in
    subst (λ (b : Bool). IsRowKept b role rules past seen now at (found_quiet next row)) (sym (left.working ∙ free))
    (subst (λ (b : Bool). IsLookedOrWaiting b role rules past seen now at (found_quiet next row)) (sym left.ready)
    (inl (record { idle = idle; same = same; timed = timed_by_next role seen now next (record row { ready = false; work = found.Unknown }) timed })))

pub kept_held : (parked : Parked) (role : Role) (rules : Rules) (past : Past) (seen : Views) (now : ℤ) (at : Positions) (row : Row) → row.working ≡ false → position_of parked.kind at < parked.version
    → (parked.version ≤ position_of parked.kind past.own) ⊎ IsStoppedFor past.last seen parked → IsRowKept (found_parked parked row).working role rules past seen now at (found_parked parked row)
kept_held parked role rules past seen now at row free behind cause =
    subst (λ (b : Bool). IsRowKept b role rules past seen now at (found_parked parked row)) (sym free) (inr (record { parked = parked; kept = refl; behind = behind; cause = cause }))
