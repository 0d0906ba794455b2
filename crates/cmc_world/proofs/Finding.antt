-- What the searches of the work queues find.
use Rattle.std.proofs.Common.{◌≡◌, ◌⊎◌, inl, inr, List, Option, Some, None, Bool, true, false, refl, ap, subst, Ordering, Less, Equal, Greater}
use Rattle.std.proofs.lemmas.Bool.{and_from, and_parts}
use Rattle.std.specs.Prelude.{◌&&◌, is_some, not, option_map}
use Rattle.std.specs.Ordering.{is_lt, ordering_reverse}
use Rattle.cmc_meta.specs.declared.key.Key.{Key}
use Rattle.cmc_meta.specs.Keys.{key_cmp}
use Rattle.cmc_meta.proofs.KeyOrder.{key_cmp-total, key_cmp-IsAntisymmetric}
use Rattle.cmc_objects.specs.declared.role.Role.{Role}
use Rattle.cmc_objects.specs.declared.entry.Entry.{Entry}
use Rattle.cmc_objects.specs.Informers.{kind_of_work}
use Rattle.cmc_queue.specs.declared.row.Found.{Found}
use Rattle.cmc_queue.specs.declared.row.Found.TheVariants as found
use Rattle.cmc_queue.specs.declared.row.Row.{Row}
use Rattle.cmc_queue.specs.Queues.{is_above, FindsFirst, Work}
use Rattle.cmc_queue.specs.Rows.{is_free, is_pending, is_unknown, may_work}
use Rattle.cmc_model.specs.Histories.{Setting, runs}
use Rattle.cmc_model.specs.Writes.{is_known, writes}
use Rattle.cmc_rules.specs.Legality.{IsLegal}
use Rattle.cmc_moves.proofs.Sounds.{each_sound}
use Rattle.cmc_moves.specs.Quiet.{IsQuiet}
use Rattle.cmc_waking.specs.Queues.{row_at}
use Rattle.cmc_waking.specs.WakeUps.{IsSearched}
use Rattle.cmc_waking.proofs.Promise.{searched}
use Rattle.cmc_world.specs.Fed.{IsFed}
use Rattle.cmc_world.specs.declared.pending.Candidate.{Candidate}
use Rattle.cmc_kernel.specs.Plain.{Fits, MayBegin}
use Rattle.cmc_world.specs.Searches as searches
use Rattle.cmc_world.specs.Searches.{FindsKey, HasWork, HasWorkAbove, IsReached}
use Rattle.cmc_world.proofs.Looking.{not_working, ready_work, row_works}
use Rattle.cmc_world.proofs.Moves.{fed_of}
use Rattle.cmc_world.proofs.Unknown.{known_unless_quiet}

-- what the row of a key of the role's work says
pub says : (s : Setting) (h : List Entry) (role : Role) (key : Key) (queues : List Work) → IsFed s h queues → runs s h role ≡ true → key.kind ≡ kind_of_work role → IsSearched s h role key (row_at queues role key)
says s h role key queues fed up work = searched s h role key (row_at queues role key) (each_sound role) up ((fed_of s h role queues fed).tended key work)

off_by : (b : Bool) → (b ≡ true → ⊥) → b ≡ false
off_by true off = absurd (off refl)
off_by false off = refl

-- ---- a key that fits is ready, and in no pass

free_by : (row : Row) → row.ready ≡ true → row.working ≡ false → is_free row ≡ true
free_by row ready off = and_from row.ready (not row.working) ready (ap not off)

unworked : (s : Setting) (h : List Entry) (role : Role) (key : Key) (queues : List Work) → IsFed s h queues → MayBegin s h role key → (row_at queues role key).working ≡ false
unworked s h role key queues fed may = off_by (row_at queues role key).working (λ on. may.idle ((row_works s h role key queues fed may.work).0 on))

ready_is : (s : Setting) (h : List Entry) (role : Role) (key : Key) (queues : List Work) → IsFed s h queues → MayBegin s h role key → (IsQuiet s h role key → ⊥) → (row_at queues role key).ready ≡ true
ready_is s h role key queues fed may worth = (says s h role key queues fed may.running may.work).ready (unworked s h role key queues fed may) may.due worth

pub fit_free : (s : Setting) (h : List Entry) (role : Role) (key : Key) (queues : List Work) → IsFed s h queues → Fits s h role key → is_free (row_at queues role key) ≡ true
fit_free s h role key queues fed f = free_by (row_at queues role key) (ready_is s h role key queues fed f.may f.worth) (unworked s h role key queues fed f.may)

may_by : (work : Found) → (work ≡ found.Nothing → ⊥) → may_work work ≡ true
may_by found.Unknown other = refl
may_by found.Nothing other = absurd (other refl)
may_by found.Something other = refl

-- one on which there is something to do is pending
pub work_pending : (s : Setting) (h : List Entry) (role : Role) (key : Key) (queues : List Work) → IsFed s h queues → HasWork s h role key → is_pending (row_at queues role key) ≡ true
work_pending s h role key queues fed work =
    let row = row_at queues role key in
    let ready = ready_is s h role key queues fed work.may (λ quiet. work.busy quiet.idle) in
    let free = unworked s h role key queues fed work.may in
    and_from (is_free row) (may_work row.work) (free_by row ready free)
    (may_by row.work (λ is. work.busy ((says s h role key queues fed work.may.running work.may.work).nothing free ready is).1))

-- ---- a free key that was looked at

pub free_is : (row : Row) → is_free row ≡ true → (row.ready ≡ true) × (row.working ≡ false)
free_is row on = let parts = and_parts row.ready (not row.working) on in (parts.0, off_by row.working (λ is. let off : not row.working ≡ false = ap not is in let on = parts.1 in cc (on, off)))

pending_is : (row : Row) → is_pending row ≡ true → (is_free row ≡ true) × (may_work row.work ≡ true)
pending_is row on = and_parts (is_free row) (may_work row.work) on

some_found : (work : Found) → is_unknown work ≡ false → may_work work ≡ true → work ≡ found.Something
some_found found.Unknown off on = absurd (cc off)
some_found found.Nothing off on = absurd (cc on)
some_found found.Something off on = refl

-- of which a look found that there is something to do
pub pending_work : (s : Setting) (h : List Entry) (role : Role) (key : Key) (queues : List Work) → IsLegal s h → IsFed s h queues → runs s h role ≡ true → is_pending (row_at queues role key) ≡ true → is_unknown (row_at queues role key).work ≡ false → HasWork s h role key
pending_work s h role key queues legal fed up on known =
    let row = row_at queues role key in
    let parts = pending_is row on in
    let free = free_is row parts.0 in
    let work = ready_work s h role key queues fed free.0 in
    let is = (says s h role key queues fed up work).something free.1 free.0 (some_found row.work known parts.1) in
    record {
      may = record {
        running = up;
        idle = not_working s h role key queues fed work free.1;
        due = is.0;
        work = work;
        known = known_unless_quiet (is_known key (writes s h)) s h role key refl legal (λ quiet. is.1 quiet.idle);
      };
      busy = is.1;
    }

either_found : (work : Found) → is_unknown work ≡ false → (work ≡ found.Nothing) ⊎ (work ≡ found.Something)
either_found found.Unknown off = absurd (cc off)
either_found found.Nothing off = inl refl
either_found found.Something off = inr refl

fit_by : (s : Setting) (h : List Entry) (role : Role) (key : Key) (queues : List Work) → IsLegal s h → IsFed s h queues → runs s h role ≡ true → key.kind ≡ kind_of_work role → (row_at queues role key).ready ≡ true → (row_at queues role key).working ≡ false
    → ((row_at queues role key).work ≡ found.Nothing) ⊎ ((row_at queues role key).work ≡ found.Something) → Fits s h role key
fit_by s h role key queues legal fed up work ready free (inl is) =
    let news = (says s h role key queues fed up work).nothing free ready is in
    let worth : IsQuiet s h role key → ⊥ = λ quiet. news.2 quiet.same in
    record {
      may = record { running = up; idle = not_working s h role key queues fed work free; due = news.0; work = work; known = known_unless_quiet (is_known key (writes s h)) s h role key refl legal worth };
      worth = worth;
    }
fit_by s h role key queues legal fed up work ready free (inr is) =
    let busy = (says s h role key queues fed up work).something free ready is in
    let worth : IsQuiet s h role key → ⊥ = λ quiet. busy.1 quiet.idle in
    record {
      may = record { running = up; idle = not_working s h role key queues fed work free; due = busy.0; work = work; known = known_unless_quiet (is_known key (writes s h)) s h role key refl legal worth };
      worth = worth;
    }

-- fits
pub free_fits : (s : Setting) (h : List Entry) (role : Role) (key : Key) (queues : List Work) → IsLegal s h → IsFed s h queues → runs s h role ≡ true → is_free (row_at queues role key) ≡ true → is_unknown (row_at queues role key).work ≡ false → Fits s h role key
free_fits s h role key queues legal fed up on known =
    let free = free_is (row_at queues role key) on in
    fit_by s h role key queues legal fed up (ready_work s h role key queues fed free.0) free.0 free.1 (either_found (row_at queues role key).work known)

-- ---- a search above a key goes on above the last key that it has looked at

-- there is none above where the search has come to
pub none_from : (from reached : Option Key) (test : Key → Bool) (found : Option Candidate) → reached ≡ from → found ≡ None → FindsFirst (λ k. is_above reached k && test k) (option_map (λ c. c.key) found) → FindsFirst (λ k. is_above from k && test k) None
none_from from reached test found same is none =
    subst (λ (f : Option Key). FindsFirst (λ k. is_above f k && test k) None) same (subst (λ (o : Option Candidate). FindsFirst (λ k. is_above reached k && test k) (option_map (λ c. c.key) o)) is none)

-- the first key above where the search has come to
pub first_from : (from reached : Option Key) (test : Key → Bool) (found : Option Candidate) (candidate : Candidate) → reached ≡ from → found ≡ Some candidate → FindsFirst (λ k. is_above reached k && test k) (option_map (λ c. c.key) found)
    → FindsFirst (λ k. is_above from k && test k) (Some candidate.key)
first_from from reached test found candidate same is first =
    subst (λ (f : Option Key). FindsFirst (λ k. is_above f k && test k) (Some candidate.key)) same (subst (λ (o : Option Candidate). FindsFirst (λ k. is_above reached k && test k) (option_map (λ c. c.key) o)) is first)

pub nothing_passed : (s : Setting) (h : List Entry) (role : Role) (below : Option Key) → IsReached s h role below below
nothing_passed s h role below = record { passed = λ key w. w.above; beyond = λ key above. above }

is_less : (a : Ordering) → is_lt a ≡ true → a ≡ Less
is_less Less on = refl
is_less Equal on = absurd (cc on)
is_less Greater on = absurd (cc on)

higher : (below : Option Key) (key k : Key) → is_above below key ≡ true → is_lt (key_cmp key k) ≡ true → is_above below k ≡ true
higher None key k above more = refl
higher (Some b) key k above more = ap is_lt (key_cmp-total.trans b key k (is_less (key_cmp b key) above) (is_less (key_cmp key k) more))

more_by : (a b : Ordering) → a ≡ ordering_reverse b → (b ≡ Less → ⊥) → (b ≡ Equal → ⊥) → is_lt a ≡ true
more_by a Less is low tie = absurd (low refl)
more_by a Equal is low tie = absurd (tie refl)
more_by a Greater is low tie = ap is_lt is

pub passed_by : (s : Setting) (h : List Entry) (role : Role) (below from : Option Key) (queues : List Work) (key : Key) → IsFed s h queues → IsReached s h role below from → FindsFirst (λ k. is_above from k && is_pending (row_at queues role k)) (Some key)
    → (HasWork s h role key → ⊥) → IsReached s h role below (Some key)
passed_by s h role below from queues key fed reached first idle = record {
  passed = λ k w. more_by (key_cmp key k) (key_cmp k key) (key_cmp-total.antisymm key k) (λ low. not_lower k low w) (λ tie. idle (subst (λ (k : Key). HasWork s h role k) (key_cmp-IsAntisymmetric k key tie) w.work));
  beyond = λ k more. reached.beyond k (higher from key k (and_parts (is_above from key) (is_pending (row_at queues role key)) first.0).0 more);
} where
  not_lower : (k : Key) → key_cmp k key ≡ Less → HasWorkAbove s h role below k → ⊥
  not_lower k low w = let on = and_from (is_above from k) (is_pending (row_at queues role k)) (reached.passed k w) (work_pending s h role k queues fed w.work) in let off = first.1 k low in cc (on, off)

-- ---- the first key of which it is so

pub none_by : {T : Type 0} → (f : T → Key) (found : Option T) → is_some found ≡ false → option_map f found ≡ None
none_by f None none = refl
none_by f (Some x) none = absurd (cc none)

-- that none is found in the queue means that there is no work
pub nothing_pending : (s : Setting) (h : List Entry) (role : Role) (queues : List Work) → IsFed s h queues → FindsFirst (λ k. is_pending (row_at queues role k)) None → (key : Key) → HasWork s h role key → ⊥
nothing_pending s h role queues fed none key work = let on = work_pending s h role key queues fed work in let off = none key in cc (on, off)

pub work_none : (s : Setting) (h : List Entry) (role : Role) (below from : Option Key) (queues : List Work) → IsFed s h queues → IsReached s h role below from → FindsFirst (λ k. is_above from k && is_pending (row_at queues role k)) None
    → searches.FindsFirstKey (HasWorkAbove s h role below) None
work_none s h role below from queues fed reached none k w =
    let on = and_from (is_above from k) (is_pending (row_at queues role k)) (reached.passed k w) (work_pending s h role k queues fed w.work) in
    let off = none k in
    cc (on, off)

pub work_first : (s : Setting) (h : List Entry) (role : Role) (below from : Option Key) (queues : List Work) (key : Key) → IsFed s h queues → IsReached s h role below from → FindsFirst (λ k. is_above from k && is_pending (row_at queues role k)) (Some key) → HasWork s h role key
    → searches.FindsFirstKey (HasWorkAbove s h role below) (Some key)
work_first s h role below from queues key fed reached first work = (
  record { above = reached.beyond key (and_parts (is_above from key) (is_pending (row_at queues role key)) first.0).0; work = work },
  λ k low w.
      let on = and_from (is_above from k) (is_pending (row_at queues role k)) (reached.passed k w) (work_pending s h role k queues fed w.work) in
      let off = first.1 k low in
      cc (on, off),
)

pub fits_none : (s : Setting) (h : List Entry) (role : Role) (queues : List Work) → IsFed s h queues → FindsFirst (λ k. is_free (row_at queues role k)) None → FindsKey s h role None
fits_none s h role queues fed none some = let on = fit_free s h role some.0 queues fed some.1 in let off = none some.0 in cc (on, off)

pub fits_first : (s : Setting) (h : List Entry) (role : Role) (queues : List Work) (key : Key) → IsFed s h queues → FindsFirst (λ k. is_free (row_at queues role k)) (Some key) → Fits s h role key → FindsKey s h role (Some key)
fits_first s h role queues key fed first f = (f, λ k low g. let on = fit_free s h role k queues fed g in let off = first.1 k low in cc (on, off))
