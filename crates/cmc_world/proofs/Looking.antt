-- What a look finds may be kept in the key's row.
use Rattle.std.proofs.Common.{◌≡◌, ℤ, List, Option, Some, None, Bool, true, false, refl, ap, subst}
use Rattle.std.proofs.lemmas.Bool.{and_parts}
use Rattle.std.proofs.lemmas.Bool.Decides.{Decides-eqb}
use Rattle.std.specs.Prelude.{◌↔◌, not, IsTrue}
use Rattle.cmc_meta.specs.declared.key.Key.{Key}
use Rattle.cmc_meta.specs.declared.key.Kind.{Kind}
use Rattle.cmc_meta.specs.Keys.{kind_rank}
use Rattle.cmc_objects.specs.declared.role.Role.{Role}
use Rattle.cmc_objects.specs.declared.entry.Entry.{Entry}
use Rattle.cmc_objects.specs.Informers.{kind_of_work}
use Rattle.cmc_queue.specs.declared.row.Parked.{Parked}
use Rattle.cmc_queue.specs.declared.row.Row.{Row}
use Rattle.cmc_queue.specs.Queues.{ChangesRow, Work}
use Rattle.cmc_queue.specs.Rows.{is_free, is_fresh, is_unknown, no_row}
use Rattle.cmc_model.specs.Histories.{Setting, moment}
use Rattle.cmc_model.specs.Writes.{kind_eq}
use Rattle.cmc_rules.specs.Memory.{past}
use Rattle.cmc_rules.specs.Passes.{IsWorking}
use Rattle.cmc_rules.specs.Positions.{positions}
use Rattle.cmc_rules.specs.Sound.{IsDueMoment}
use Rattle.cmc_rules.specs.Views.{views}
use Rattle.cmc_pass.specs.declared.pass.Views.{Views}
use Rattle.cmc_moves.proofs.Sounds.{each_sound}
use Rattle.cmc_kernel.proofs.SameKeys.{same_kind}
use Rattle.cmc_waking.specs.Feeds.{found_busy, found_parked, found_idle, found_quiet}
use Rattle.cmc_waking.specs.Queues.{queue_in, row_at, KeepsOthers}
use Rattle.cmc_waking.specs.WakeUps.{AreTended, IsBarredBy, IsDueNow, IsTended, IsTimed, IsWaiting}
use Rattle.cmc_waking.proofs.Tended.{waiting_undue}
use Rattle.cmc_world.specs.DueMoments.{IsFirstAfter}
use Rattle.cmc_world.specs.Fed.{IsFed}
use Rattle.cmc_world.specs.Looks.{FindsIdle, FindsQuiet}
use Rattle.cmc_world.specs.Searches.{HasWork, IsFree}
use Rattle.cmc_world.specs.declared.openings.Opening.{Opening}
use Rattle.cmc_world.proofs.Moves.{fed_of, fed_one}
use Rattle.cmc_world.proofs.Served.{are_busy, are_held, are_idle, are_quiet}

-- ---- a key that is to be looked at

-- it is ready, and in no pass
pub fresh_is : (row : Row) → is_fresh row ≡ true → (row.ready ≡ true) × (row.working ≡ false)
fresh_is row on = let free = and_parts row.ready (not row.working) (and_parts (is_free row) (is_unknown row.work) on).0 in (free.0, unset row.working free.1) where
  unset : (b : Bool) → not b ≡ true → b ≡ false
  unset true off = absurd (cc off)
  unset false off = refl

pub kind_itself : (kind : Kind) → kind_eq kind kind ≡ true
kind_itself kind = (Decides-eqb (kind_rank kind) (kind_rank kind)).1 refl

work_by : (same : Bool) (s : Setting) (h : List Entry) (role : Role) (key : Key) (row : Key → Row) → kind_eq key.kind (kind_of_work role) ≡ same → AreTended s h role row → (row key).ready ≡ true → key.kind ≡ kind_of_work role
work_by true s h role key row is are ready = same_kind key.kind (kind_of_work role) is
work_by false s h role key row is are ready =
    absurd (let none = are.others key (λ same. other same is) in let off : (row key).ready ≡ false = ap (λ (r : Row). r.ready) none in cc (ready, off))
  where
    other : key.kind ≡ kind_of_work role → kind_eq key.kind (kind_of_work role) ≡ false → ⊥
    other same off = let on = kind_itself (kind_of_work role) in let not_so = subst (λ (k : Kind). kind_eq k (kind_of_work role) ≡ false) same off in cc (not_so, on)

-- a ready key is one of the role's work
pub ready_work : (s : Setting) (h : List Entry) (role : Role) (key : Key) (queues : List Work) → IsFed s h queues → (row_at queues role key).ready ≡ true → key.kind ≡ kind_of_work role
ready_work s h role key queues fed ready = work_by (kind_eq key.kind (kind_of_work role)) s h role key (λ k. row_at queues role k) refl (fed_of s h role queues fed) ready

works_is : (s : Setting) (h : List Entry) (role : Role) (key : Key) (row : Row) → IsTended s h role key row → IsTrue row.working ↔ IsWorking s h role key
unfolding IsTended
works_is s h role key row is = is.working

pub row_works : (s : Setting) (h : List Entry) (role : Role) (key : Key) (queues : List Work) → IsFed s h queues → key.kind ≡ kind_of_work role → IsTrue (row_at queues role key).working ↔ IsWorking s h role key
row_works s h role key queues fed work = works_is s h role key (row_at queues role key) ((fed_of s h role queues fed).tended key work)

pub not_working : (s : Setting) (h : List Entry) (role : Role) (key : Key) (queues : List Work) → IsFed s h queues → key.kind ≡ kind_of_work role → (row_at queues role key).working ≡ false → IsWorking s h role key → ⊥
not_working s h role key queues fed work off busy = let on = (row_works s h role key queues fed work).1 busy in cc (on, off)

pub fresh_free : (s : Setting) (h : List Entry) (role : Role) (key : Key) (queues : List Work) → IsFed s h queues → is_fresh (row_at queues role key) ≡ true → IsFree s h role key
fresh_free s h role key queues fed on =
    let is = fresh_is (row_at queues role key) on in
    let work = ready_work s h role key queues fed is.0 in
    record { kind = work; idle = not_working s h role key queues fed work is.1 }

-- ---- moments

-- the next due moment comes before all others
pub timed_first : (role : Role) (seen : Views) (now : ℤ) (next : Option ℤ) → IsFirstAfter now (IsDueMoment role seen) next → IsTimed role seen now next
timed_first role seen now None first = λ at is later. absurd (let passed = first at is in cc (passed, later))
timed_first role seen now (Some t) first = λ at is later. first.2 at is later

-- ---- what is found

barred_row : Parked → Row
barred_row parked = record no_row { parked = Some parked }

-- where a pass is barred nothing is due, at any moment
pub barred_undue : (s : Setting) (h : List Entry) (role : Role) (key : Key) (parked : Parked) → IsBarredBy (past s h role key) (views s h role key) (positions h role) parked → IsDueNow s h role key → ⊥
unfolding barred_row
barred_undue s h role key parked barred due =
    let waits : IsWaiting (past s h role key) (views s h role key) (positions h role) (barred_row parked) = record { parked = parked; kept = refl; behind = barred.behind; cause = barred.cause } in
    waiting_undue (past s h role key) (views s h role key) (moment s h) (positions h role) (barred_row parked) waits due

pub held_lacks : (s : Setting) (h : List Entry) (role : Role) (key : Key) (parked : Parked) → IsBarredBy (past s h role key) (views s h role key) (positions h role) parked → HasWork s h role key → ⊥
held_lacks s h role key parked barred work = barred_undue s h role key parked barred work.may.due

-- ---- and kept

pub fed_busy : (s : Setting) (h : List Entry) (role : Role) (key : Key) (old new : List Work) → IsFed s h old → is_fresh (row_at old role key) ≡ true → HasWork s h role key → ChangesRow found_busy key (queue_in old role) (queue_in new role) → KeepsOthers role old new → IsFed s h new
fed_busy s h role key old new fed fresh work rows others =
    let is = fresh_is (row_at old role key) fresh in
    fed_one s h h role old new others
    (are_busy s h role key (λ k. row_at old role k) (λ k. row_at new role k) (ready_work s h role key old fed is.0) is.0 is.1 work.busy work.may.due rows (fed_of s h role old fed)) (λ r other k row kept. kept) fed

pub fed_idle : (s : Setting) (h : List Entry) (role : Role) (key : Key) (opening : Opening) (next : Option ℤ) (old new : List Work) → IsFed s h old → is_fresh (row_at old role key) ≡ true → FindsIdle s h role key opening next → ChangesRow (found_idle next) key (queue_in old role) (queue_in new role) → KeepsOthers role old new → IsFed s h new
fed_idle s h role key opening next old new fed fresh found rows others =
    let is = fresh_is (row_at old role key) fresh in
    fed_one s h h role old new others
    (are_idle s h role key next (λ k. row_at old role k) (λ k. row_at new role k) (each_sound role) (ready_work s h role key old fed is.0) is.0 is.1 found.timed found.idle found.new found.due rows (fed_of s h role old fed)) (λ r other k row kept. kept) fed

pub fed_quiet : (s : Setting) (h : List Entry) (role : Role) (key : Key) (next : Option ℤ) (old new : List Work) → IsFed s h old → is_fresh (row_at old role key) ≡ true → FindsQuiet s h role key next → ChangesRow (found_quiet next) key (queue_in old role) (queue_in new role) → KeepsOthers role old new → IsFed s h new
fed_quiet s h role key next old new fed fresh found rows others =
    let is = fresh_is (row_at old role key) fresh in
    fed_one s h h role old new others
    (are_quiet s h role key next (λ k. row_at old role k) (λ k. row_at new role k) (each_sound role) (ready_work s h role key old fed is.0) is.1 found.timed found.quiet rows (fed_of s h role old fed)) (λ r other k row kept. kept) fed

pub fed_held : (s : Setting) (h : List Entry) (role : Role) (key : Key) (parked : Parked) (old new : List Work) → IsFed s h old → is_fresh (row_at old role key) ≡ true → IsBarredBy (past s h role key) (views s h role key) (positions h role) parked
    → ChangesRow (found_parked parked) key (queue_in old role) (queue_in new role) → KeepsOthers role old new → IsFed s h new
fed_held s h role key parked old new fed fresh barred rows others =
    let is = fresh_is (row_at old role key) fresh in
    fed_one s h h role old new others
    (are_held s h role key parked (λ k. row_at old role k) (λ k. row_at new role k) (ready_work s h role key old fed is.0) is.1 barred.behind barred.cause rows (fed_of s h role old fed)) (λ r other k row kept. kept) fed
