-- What the rows are while keys are made ready whose moments have come.
use Rattle.std.proofs.Common.{◌≡◌, ◌⊎◌, ℤ, Bool, true, false, List, Option, Some, None, refl, sym, ap, subst, ◌∙◌, int_le, inl, inr}
use Rattle.std.specs.Ordering.{int_cmp}
use Rattle.std.specs.Prelude.{if◌then◌else◌}
use Rattle.cmc_meta.specs.declared.key.Key.{Key}
use Rattle.cmc_meta.specs.Keys.{key_eq}
use Rattle.cmc_queue.specs.declared.row.Found.{Found}
use Rattle.cmc_queue.specs.declared.row.Found.TheVariants.{Unknown, Nothing, Something}
use Rattle.cmc_queue.specs.declared.row.Row.{Row}
use Rattle.cmc_queue.specs.Rows.{is_due, is_found, is_something, lapsed, looked, no_row, row_in, ticked}
use Rattle.cmc_queue.specs.Queues.{is_timed_with, AreTimed, StayAfter}
use Rattle.cmc_queue.proofs.OneRow.{come, one_row}
use Rattle.cmc_queue.proofs.Places.{late_left, other_left, AreLeft}

-- what becomes of a row whose moment has come, or has not
abbrev stepped : Bool → Row → Row
stepped b row = if b then record row { ready = true; work = Unknown; timed = None } else record row { work = lapsed row.work }

lapsed_twice : (work : Found) → lapsed (lapsed work) ≡ lapsed work
lapsed_twice Unknown = refl
lapsed_twice Nothing = refl
lapsed_twice Something = refl

never_something : (work : Found) → lapsed work ≡ Something → ⊥
never_something Unknown is = cc is
never_something Nothing is = cc is
never_something Something is = cc is

same_twice : (b : Bool) (now : ℤ) (row : Row) → is_due now row.timed ≡ b → ticked now (stepped b row) ≡ stepped b row
unfolding ticked
same_twice true now row e = refl
same_twice false now row e = rw e (ap (λ (work : Found). record row { work = work }) (lapsed_twice row.work))

twice : (now : ℤ) (row : Row) → ticked now (ticked now row) ≡ ticked now row
unfolding ticked
twice now row = same_twice (is_due now row.timed) now row refl

timed_before : (b : Bool) (now : ℤ) (row : Row) (at : ℤ) → is_due now row.timed ≡ b → (stepped b row).timed ≡ Some at → (row.timed ≡ Some at) × (int_le at now ≡ false)
timed_before true now row at e is = absurd (cc is)
timed_before false now row at e is = (is, subst (λ (t : Option ℤ). is_due now t ≡ false) is e)

still_timed : (now : ℤ) (row : Row) (at : ℤ) → (ticked now row).timed ≡ Some at → (row.timed ≡ Some at) × (int_le at now ≡ false)
unfolding ticked
still_timed now row at is = timed_before (is_due now row.timed) now row at refl is

-- of a row whose moment has not come what was found lapses, and nothing else changes
pub untouched : (now : ℤ) (row : Row) → is_due now row.timed ≡ false → looked (lapsed row.work) row ≡ ticked now row
unfolding ticked
untouched now row e = rw e refl

lapsed_at : (b : Bool) (row : Row) → looked (lapsed (stepped b row).work) (stepped b row) ≡ stepped b row
lapsed_at true row = refl
lapsed_at false row = ap (λ (work : Found). record row { work = work }) (lapsed_twice row.work)

-- and behind a tick nothing is left to lapse
lapses_no_more : (now : ℤ) (row : Row) → looked (lapsed (ticked now row).work) (ticked now row) ≡ ticked now row
unfolding ticked
lapses_no_more now row = lapsed_at (is_due now row.timed) row

-- nothing is to be done on a key without a row, then too
pub none_ticked : (now : ℤ) → ticked now no_row ≡ no_row
unfolding ticked
none_ticked now = refl

-- some rows have come to the moment, and each that has not is still noted
pub record IsTicking (now : ℤ) (old rows : List (Key × Row)) (due : List (ℤ × Key)) : Type 0 where
  pub each : (k : Key) → (row_in rows k ≡ row_in old k) ⊎ (row_in rows k ≡ ticked now (row_in old k))
  pub timed : AreTimed rows due

still_noted : (b : Bool) (now : ℤ) (key k : Key) (was is : Row) (at popped : ℤ) (due left : List (ℤ × Key)) → key_eq key k ≡ b → is ≡ (if b then ticked now was else was) → is.timed ≡ Some at
    → int_le popped now ≡ true → (was.timed ≡ Some at → is_timed_with due at k ≡ true) → (is_timed_with due at k ≡ true → (is_timed_with left at k ≡ true) ⊎ ((at ≡ popped) × (k ≡ key))) → is_timed_with left at k ≡ true
still_noted true now key k was is at popped due left e row timed low noted others =
    let before = still_timed now was at (subst (λ (r : Row). r.timed ≡ Some at) row timed) in late_left int_cmp int_le now at (popped, key) k left before.1 low (others (noted before.0))
still_noted false now key k was is at popped due left e row timed low noted others = other_left key k e (others (noted (subst (λ (r : Row). r.timed ≡ Some at) row timed)))

-- one more key is taken out, and its row comes to the moment
pub ticking_on : (now : ℤ) (old rows new : List (Key × Row)) (due left : List (ℤ × Key)) (p : ℤ × Key) → IsTicking now old rows due → int_le p.0 now ≡ true → AreLeft int_cmp due left p
    → ((k : Key) → row_in new k ≡ (if key_eq p.1 k then ticked now (row_in rows k) else row_in rows k)) → IsTicking now old new left
ticking_on now old rows new due left p so low others each = record {
  each = λ k. one_row (key_eq p.1 k) (ticked now) (twice now) (row_in old k) (row_in rows k) (row_in new k) (each k) (so.each k);
  timed = λ k at is. still_noted (key_eq p.1 k) now p.1 k (row_in rows k) (row_in new k) at p.0 due left refl (each k) is low (so.timed k at) (others at k);
}

not_due : (o : Option ℤ) (now : ℤ) → ((at : ℤ) → o ≡ Some at → int_le at now ≡ false) → is_due now o ≡ false
not_due None now none = refl
not_due (Some at) now none = none at refl

come_by : (now : ℤ) (before was is : Row) → is_due now was.timed ≡ false → is ≡ looked (lapsed was.work) was → (was ≡ before) ⊎ (was ≡ ticked now before) → is ≡ ticked now before
come_by now before was is late at (inl same) = at ∙ untouched now was late ∙ ap (ticked now) same
come_by now before was is late at (inr done) = at ∙ ap (λ (r : Row). looked (lapsed r.work) r) done ∙ lapses_no_more now before

-- where no moment that has come is left, and what was found has lapsed, all rows have come to it
pub ticked_all : (now : ℤ) (old rows new : List (Key × Row)) (due : List (ℤ × Key)) → IsTicking now old rows due → ((at : ℤ) (k : Key) → is_timed_with due at k ≡ true → int_le at now ≡ false)
    → ((k : Key) → row_in new k ≡ looked (lapsed (row_in rows k).work) (row_in rows k)) → (k : Key) → row_in new k ≡ ticked now (row_in old k)
ticked_all now old rows new due so none each k = come_by now (row_in old k) (row_in rows k) (row_in new k) (not_due _ now (λ at is. none at k (so.timed k at is))) (each k) (so.each k)

-- what is timed stays so where what was found lapses
pub timed_by_lapse : (rows new : List (Key × Row)) (due : List (ℤ × Key)) → ((k : Key) → row_in new k ≡ looked (lapsed (row_in rows k).work) (row_in rows k)) → AreTimed rows due → AreTimed new due
timed_by_lapse rows new due each so k at is = so k at (sym (ap (λ (r : Row). r.timed) (each k)) ∙ is)

-- ---- what lapses

-- some rows have lapsed
abbrev pub AreLapsing : List (Key × Row) → List (Key × Row) → Type 0
AreLapsing old rows = (k : Key) → (row_in rows k ≡ row_in old k) ⊎ (row_in rows k ≡ looked (lapsed (row_in old k).work) (row_in old k))

lapse_twice : (row : Row) → looked (lapsed (looked (lapsed row.work) row).work) (looked (lapsed row.work) row) ≡ looked (lapsed row.work) row
lapse_twice row = ap (λ (work : Found). record row { work = work }) (lapsed_twice row.work)

pub lapsing_on : (old rows new : List (Key × Row)) (key : Key) → AreLapsing old rows → ((k : Key) → row_in new k ≡ (if key_eq key k then looked (lapsed (row_in rows k).work) (row_in rows k) else row_in rows k)) → AreLapsing old new
lapsing_on old rows new key so each k = one_row (key_eq key k) (λ (r : Row). looked (lapsed r.work) r) lapse_twice (row_in old k) (row_in rows k) (row_in new k) (each k) (so k)

unlapsed : (work : Found) → is_something work ≡ false → lapsed work ≡ work
unlapsed Unknown none = refl
unlapsed Nothing none = refl
unlapsed Something none = absurd (cc none)

-- where nothing is found any more, all have
pub lapsed_all : (old rows : List (Key × Row)) → AreLapsing old rows → ((k : Key) → is_found (row_in rows k) ≡ false) → (k : Key) → row_in rows k ≡ looked (lapsed (row_in old k).work) (row_in old k)
lapsed_all old rows so none k = come (λ (r : Row). looked (lapsed r.work) r) (row_in old k) (row_in rows k) (ap (λ (work : Found). record (row_in rows k) { work = work }) (unlapsed (row_in rows k).work (none k))) (so k)

-- ---- places

-- one more key is taken out, and each place behind the moment stays
pub later_stay : (now : ℤ) (first due left : List (ℤ × Key)) (p : ℤ × Key) → StayAfter now first due → int_le p.0 now ≡ true → AreLeft int_cmp due left p → StayAfter now first left
later_stay now first due left p stay low others at k late noted = late_left int_cmp int_le now at p k left late low (others at k (stay at k late noted))
