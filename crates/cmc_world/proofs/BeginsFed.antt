-- A begin keeps the queues right.
use Rattle.std.proofs.Common.{◌≡◌, ℤ, List, Option, Some, None, Bool, true, false, refl, sym, ap, subst, ◌∙◌, int_le}
use Rattle.std.proofs.lemmas.Bool.{and_parts}
use Rattle.std.specs.Prelude.{if◌then◌else◌}
use Rattle.cmc_meta.specs.declared.key.Key.{Key}
use Rattle.cmc_meta.specs.Keys.{key_eq}
use Rattle.cmc_objects.specs.declared.entry.Entry.{Entry}
use Rattle.cmc_objects.specs.declared.entry.Positions.{Positions}
use Rattle.cmc_objects.specs.declared.orders.Rules.{Rules}
use Rattle.cmc_objects.specs.declared.role.Role.{Role}
use Rattle.cmc_objects.specs.Informers.{kind_of_work}
use Rattle.cmc_pass.specs.declared.pass.Views.{Views}
use Rattle.cmc_queue.specs.declared.row.Found.{Found}
use Rattle.cmc_queue.specs.declared.row.Found.TheVariants as found
use Rattle.cmc_queue.specs.declared.row.Parked.{Parked}
use Rattle.cmc_queue.specs.declared.row.Row.{Row}
use Rattle.cmc_queue.specs.Queues.{has_room, row_of, ChangesRow, Work}
use Rattle.cmc_queue.specs.Rows.{earlier, is_free, is_fresh, is_unknown, may_work}
use Rattle.cmc_queue.proofs.OneRow.{same_by_test}
use Rattle.cmc_queue.proofs.Waits.{free_has_row}
use Rattle.cmc_model.specs.Histories.{Setting, moment, runs}
use Rattle.cmc_rules.specs.declared.progress.Past.{Past}
use Rattle.cmc_rules.specs.Memory.{past}
use Rattle.cmc_rules.specs.Passes.{IsWorking}
use Rattle.cmc_rules.specs.Positions.{positions}
use Rattle.cmc_rules.specs.Rest.{IsIdle}
use Rattle.cmc_rules.specs.Runs.{IsRun}
use Rattle.cmc_rules.specs.Sameness.{IsDue}
use Rattle.cmc_rules.specs.Sound.{IsDueMoment}
use Rattle.cmc_rules.specs.Views.{views}
use Rattle.cmc_moves.specs.Answers.{is_done, AnswersBegin, IsQueued, Leaves}
use Rattle.cmc_moves.specs.declared.moves.Move.TheVariants as moves
use Rattle.cmc_moves.specs.declared.moves.Stepped.{Stepped}
use Rattle.cmc_moves.specs.declared.moves.Stepped.TheVariants as answers
use Rattle.cmc_moves.proofs.Tables.{may_begin, the_done}
use Rattle.cmc_waking.specs.Feeds.{row_begun, timed_too}
use Rattle.cmc_waking.specs.Queues.{queue_in, row_at, KeepsOthers}
use Rattle.cmc_waking.specs.WakeUps.{IsRowKept, IsTended, IsTimed}
use Rattle.cmc_kernel.specs.Kept.{Seen, setting_of, on}
use Rattle.cmc_world.specs.DueMoments.{IsFirstAfter}
use Rattle.cmc_world.specs.Fed.{IsFed}
use Rattle.cmc_kernel.specs.Plain.{Fits}
use Rattle.cmc_world.proofs.Feeding.{fed_begins}
use Rattle.cmc_world.proofs.Finding.{fit_free, free_fits, free_is, says}
use Rattle.cmc_world.proofs.Looking.{timed_first}
use Rattle.cmc_world.proofs.Moves.{fed_of, fed_rows}

-- a key on which a pass begins fits
begun_fits : (w : Seen) (role : Role) (key : Key) → on AnswersBegin w role key answers.Done → on Fits w role key
begun_fits w role key a =
    let may = may_begin (setting_of w.scenario) w.history role key a in
    record { may = record { running = may.running; idle = may.idle; due = record { told = may.own; other = may.other }; work = may.queued.work; known = may.queued.known }; worth = may.queued.worth }

-- rows do not change as room is made
pub roomed : (w : Seen) (before mid : List Work) → ((role : Role) (key : Key) → row_at mid role key ≡ row_at before role key) → on IsFed w before → on IsFed w mid
roomed w before mid rows fed = fed_rows (setting_of w.scenario) w.history before mid rows fed

pub begun_done : (old new : Seen) (role : Role) (key own : Key) (seen : Views) (next : Option ℤ) (before mid after : List Work) (answer : Stepped) → own ≡ key → on IsRun new → new.scenario ≡ old.scenario → on AnswersBegin old role key answer
    → on Leaves old (moves.Begin role key) answer new.history → is_done answer ≡ true → seen ≡ on views old role key → IsFirstAfter (on moment old) (IsDueMoment role seen) next → ((r : Role) (k : Key) → row_at mid r k ≡ row_at before r k)
    → ChangesRow (row_begun next) own (queue_in mid role) (queue_in after role) → KeepsOthers role mid after → on IsFed old before → on IsFed new after
begun_done old new role key own seen next before mid after answer same run scenario answered leaves made sees first rows changed others fed =
    let done : answer ≡ answers.Done = the_done answer made in
    let fits : on Fits old role key = begun_fits old role key (subst (λ (a : Stepped). on AnswersBegin old role key a) done answered) in
    let fed_mid : on IsFed old mid = roomed old before mid rows fed in
    fed_begins old new role key next mid after run scenario (subst (λ (a : Stepped). on Leaves old (moves.Begin role key) a new.history) done leaves) fits.may.work
    (fit_free (setting_of old.scenario) old.history role key mid fed_mid fits)
    (timed_first role (on views old role key) (on moment old) next (subst (λ (v : Views). IsFirstAfter (on moment old) (IsDueMoment role v) next) sees first))
    (subst (λ (k : Key). ChangesRow (row_begun next) k (queue_in mid role) (queue_in after role)) same changed) others fed_mid

-- a key that is to be looked at has a row
pub fresh_room : (queues : List Work) (role : Role) (key : Key) → is_fresh (row_at queues role key) ≡ true → has_room (queue_in queues role) key ≡ true
fresh_room queues role key on = free_has_row (queue_in queues role).rows key (and_parts (is_free (row_at queues role key)) (is_unknown (row_at queues role key).work) on).0

-- ---- a begin by what the row says

-- a key that fits has a row
pub fit_room : (w : Seen) (role : Role) (key own : Key) (queues : List Work) → own ≡ key → on IsFed w queues → on Fits w role key → has_room (queue_in queues role) own ≡ true
fit_room w role key own queues same fed fits =
    subst (λ (k : Key). has_room (queue_in queues role) k ≡ true) (sym same)
    (free_has_row (queue_in queues role).rows key (fit_free (setting_of w.scenario) w.history role key queues fed fits))

-- a pass that is due on a key of the queue fits
pub due_fits : (w : Seen) (role : Role) (key : Key) (seen : Views) → on runs w role ≡ true → (on IsWorking w role key → ⊥) → IsDue (on past w role key) seen (on moment w) (positions w.history role) → on IsQueued w role key → seen ≡ on views w role key → on Fits w role key
due_fits w role key seen up free due queued sees =
    record {
      may = record { running = up; idle = free; due = subst (λ (v : Views). IsDue (on past w role key) v (on moment w) (positions w.history role)) sees due; work = queued.work; known = queued.known };
      worth = queued.worth;
    }

-- a key that fits is in the queue
pub fit_queued : (w : Seen) (role : Role) (key : Key) → on Fits w role key → on IsQueued w role key
fit_queued w role key f = record { work = f.may.work; known = f.may.known; worth = f.worth }

pub fit_due : (w : Seen) (role : Role) (key : Key) (seen : Views) → seen ≡ on views w role key → on Fits w role key → IsDue (on past w role key) seen (on moment w) (positions w.history role)
fit_due w role key seen sees f = subst (λ (v : Views). IsDue (on past w role key) v (on moment w) (positions w.history role)) (sym sees) f.may.due

-- a row on which a look found nothing to do is timed
news_by : (working ready : Bool) (work : Found) (role : Role) (rules : Rules) (past : Past) (seen : Views) (now : ℤ) (at : Positions) (timed : Option ℤ) (parked : Option Parked) → working ≡ false → ready ≡ true → work ≡ found.Nothing
    → IsRowKept working role rules past seen now at (record { ready = ready; work = work; working = working; parked = parked; timed = timed }) → IsTimed role seen now timed
news_by false true found.Nothing role rules past seen now at timed parked off on is kept = kept.timed
news_by false true found.Unknown role rules past seen now at timed parked off on is kept = absurd (cc is)
news_by false true found.Something role rules past seen now at timed parked off on is kept = absurd (cc is)
news_by false false work role rules past seen now at timed parked off on is kept = absurd (cc on)
news_by true ready work role rules past seen now at timed parked off on is kept = absurd (cc off)

pub news_timed : (s : Setting) (h : List Entry) (role : Role) (key : Key) (row : Row) → runs s h role ≡ true → row.working ≡ false → row.ready ≡ true → row.work ≡ found.Nothing → IsTended s h role key row → IsTimed role (views s h role key) (moment s h) row.timed
unfolding IsTended
news_timed s h role key row up off on is tended =
    news_by row.working row.ready row.work role s.rules (past s h role key) (views s h role key) (moment s h) (positions h role) row.timed row.parked off on is (tended.kept up)

-- a key that is timed stays so as it is taken
earlier_same : (b : Bool) (t : ℤ) → (if b then t else t) ≡ t
earlier_same true t = refl
earlier_same false t = refl

earliest_twice : (t : ℤ) (o : Option ℤ) → o ≡ Some t → earlier t o ≡ t
earliest_twice t None is = absurd (cc is)
earliest_twice t (Some u) is = let same : u ≡ t = cc is in subst (λ (x : ℤ). (if int_le x t then x else t) ≡ t) (sym same) (earlier_same (int_le t t) t)

timed_again : (o : Option ℤ) (b : Bool) (row : Row) → row.timed ≡ o → timed_too None (if b then record row { ready = false; work = found.Unknown; working = true } else row) ≡ timed_too o (if b then record row { ready = false; work = found.Unknown; working = true } else row)
timed_again None b row is = refl
timed_again (Some t) true row is = λ i. record row { ready = false; work = found.Unknown; working = true; timed = (is ∙ ap Some (sym (earliest_twice t row.timed is))) i }
timed_again (Some t) false row is = λ i. record row { timed = (is ∙ ap Some (sym (earliest_twice t row.timed is))) i }

pub begun_timed : (row : Row) → row_begun None row ≡ row_begun row.timed row
begun_timed row = timed_again row.timed (is_free row) row refl

begun_here : (b : Bool) (old : Work) (key k : Key) (row : Row) → key_eq key k ≡ b → row ≡ (if b then row_begun None (row_of old k) else row_of old k) → row ≡ (if b then row_begun (row_of old key).timed (row_of old k) else row_of old k)
begun_here true old key k row is at = at ∙ begun_timed (row_of old k) ∙ ap (λ (q : Key). row_begun (row_of old q).timed (row_of old k)) (sym (same_by_test key k is))
begun_here false old key k row is at = at

-- so its next due moment need not be noted again
pub begun_none : (key : Key) (old new : Work) → ChangesRow (row_begun None) key old new → ChangesRow (row_begun (row_of old key).timed) key old new
begun_none key old new rows k = begun_here (key_eq key k) old key k (row_of new k) refl (rows k)

-- ---- a key of which a look found something

pub nothing_found : (work : Found) → is_unknown work ≡ false → may_work work ≡ false → work ≡ found.Nothing
nothing_found found.Unknown known off = absurd (cc known)
nothing_found found.Nothing known off = refl
nothing_found found.Something known off = absurd (cc off)

-- a pass may begin there
pub looked_fits : (w : Seen) (role : Role) (key : Key) (queues : List Work) (work : Found) → on IsRun w → on IsFed w queues → on runs w role ≡ true → is_free (row_at queues role key) ≡ true → is_unknown work ≡ false → work ≡ (row_at queues role key).work → on Fits w role key
looked_fits w role key queues work run fed up free known is = free_fits (setting_of w.scenario) w.history role key queues run.legal fed up free (ap is_unknown (sym is) ∙ known)

pub idle_fits : (w : Seen) (role : Role) (key : Key) (queues : List Work) → on IsRun w → on IsFed w queues → on runs w role ≡ true → is_free (row_at queues role key) ≡ true → (row_at queues role key).work ≡ found.Nothing → on Fits w role key
idle_fits w role key queues run fed up free nothing = free_fits (setting_of w.scenario) w.history role key queues run.legal fed up free (ap is_unknown nothing)

-- it has nothing to do
pub idle_now : (w : Seen) (role : Role) (key : Key) (queues : List Work) → on IsFed w queues → on runs w role ≡ true → is_free (row_at queues role key) ≡ true → (row_at queues role key).work ≡ found.Nothing → key.kind ≡ kind_of_work role → on IsIdle w role (on views w role key)
idle_now w role key queues fed up free nothing work =
    let parts = free_is (row_at queues role key) free in ((says (setting_of w.scenario) w.history role key queues fed up work).nothing parts.1 parts.0 nothing).1

-- its next due moment was noted as it was looked at
pub idle_fed : (old new : Seen) (role : Role) (key own : Key) (before after : List Work) (answer : Stepped) → own ≡ key → on IsRun old → on IsRun new → new.scenario ≡ old.scenario → on Leaves old (moves.Begin role key) answer new.history → is_done answer ≡ true
    → on runs old role ≡ true → is_free (row_at before role key) ≡ true → (row_at before role key).work ≡ found.Nothing → ChangesRow (row_begun None) own (queue_in before role) (queue_in after role) → KeepsOthers role before after → on IsFed old before → on IsFed new after
idle_fed old new role key own before after answer same ran run scenario leaves made up free nothing rows others fed =
    let s = setting_of old.scenario in
    let h = old.history in
    let done : answer ≡ answers.Done = the_done answer made in
    let fits : on Fits old role key = idle_fits old role key before ran fed up free nothing in
    let parts = free_is (row_at before role key) free in
    fed_begins old new role key (row_at before role key).timed before after run scenario (subst (λ (a : Stepped). on Leaves old (moves.Begin role key) a new.history) done leaves) fits.may.work free
    (news_timed s h role key (row_at before role key) up parts.1 parts.0 nothing ((fed_of s h role before fed).tended key fits.may.work))
    (begun_none key (queue_in before role) (queue_in after role) (subst (λ (k : Key). ChangesRow (row_begun None) k (queue_in before role) (queue_in after role)) same rows)) others fed
