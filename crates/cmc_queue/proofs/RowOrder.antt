-- The rows stand in the order of keys: what a search by places finds.
use Rattle.std.proofs.Common.{◌≡◌, ℕ, zero, suc, ◌+◌, ◌<◌, ◌≤◌, List, [], ◌∷◌, ◌++◌, length, Option, Some, None, Bool, true, false, refl, sym, ap, subst, ◌∙◌, arith, ⊎_elim, get_or, inl, inr, Ordering, Less, Equal, Greater}
use Rattle.std.proofs.lemmas.Bool.{cases_lt, le-ltb}
use Rattle.std.proofs.lemmas.List.{length-map}
use Rattle.std.proofs.lemmas.List.Edits.{length-insert}
use Rattle.std.proofs.lemmas.List.Sorted.{searchable_from_sorted}
use Rattle.std.proofs.lemmas.Map.Entries.{place_from_lookup}
use Rattle.std.proofs.lemmas.Cmp.{tied_itself}
use Rattle.std.proofs.lemmas.Option.{slice_get_cases, slice_get_within, get_or_from_slice_get, slice_get-map}
use Rattle.std.specs.Prelude.{◌&&◌, ◌⊎◌, insert, slice_get, option_map}
use Rattle.std.specs.List.{HoldsAt, IsDistinct, position_or_len}
use Rattle.std.specs.List.Sorted.{IsNonDecreasingBy, IsPartitionPoint, IsSorted}
use Rattle.std.specs.Map.{keys_of, lookup}
use Rattle.std.specs.Ordering.{is_eq, is_lt, ordering_index, ordering_reverse}
use Rattle.cmc_meta.specs.declared.key.Key.{Key}
use Rattle.cmc_meta.specs.Keys.{key_cmp, key_eq}
use Rattle.cmc_meta.proofs.KeyOrder.{key_cmp-total}
use Rattle.indexmap.specs.IndexMap.{index_before, insert_entry, move_index, set_value_at}
use Rattle.indexmap.proofs.MapLemmas.{absent_from_lookup, insert_entry-absent, or_len-absent, or_len-first}
use Rattle.indexmap.proofs.MoveLemmas.{push_moved}
use Rattle.indexmap.proofs.RemoveLemmas.{own_first}
use Rattle.cmc_queue.specs.declared.row.Row.{Row}
use Rattle.cmc_queue.specs.Queues.{count_of, one_if, FindsFirst}
use Rattle.cmc_queue.specs.Rows.{no_row, row_in, row_or_new}
use Rattle.cmc_queue.specs.Spots.{IsFirstAt, IsPlaceAbove, IsPlaceFrom, IsPutIn, IsRewritten}
use Rattle.cmc_queue.proofs.Counts.{count_insert, count_set}
use Rattle.cmc_queue.proofs.OneRow.{found_at, key_eq-laws, key_tie, same_by_test}

-- ---- the row at a place is written

set_here : (es : List (Key × Row)) (at : ℕ) (key : Key) (was row : Row) → slice_get es at ≡ Some (key, was) → slice_get (set_value_at es at row) at ≡ Some (key, row)
set_here [] at key was row is = absurd (cc is)
set_here (e ∷ es) zero key was row is = let same : e.0 ≡ key = cc in ap (λ (k : Key). Some (k, row)) same
set_here (e ∷ es) (suc at) key was row is = set_here es at key was row is

set_others : (es : List (Key × Row)) (at : ℕ) (row : Row) (i : ℕ) → (i ≡ at → ⊥) → slice_get (set_value_at es at row) i ≡ slice_get es i
set_others [] at row i apart = refl
set_others (e ∷ es) zero row zero apart = absurd (apart refl)
set_others (e ∷ es) zero row (suc i) apart = refl
set_others (e ∷ es) (suc at) row zero apart = refl
set_others (e ∷ es) (suc at) row (suc i) apart = set_others es at row i (λ same. apart (ap suc same))

set_long : (es : List (Key × Row)) (at : ℕ) (row : Row) → length (set_value_at es at row) ≡ length es
set_long [] at row = refl
set_long (e ∷ es) zero row = refl
set_long (e ∷ es) (suc at) row = ap suc (set_long es at row)

pub rewritten_by_set : (es : List (Key × Row)) (at : ℕ) (key : Key) (was row : Row) → slice_get es at ≡ Some (key, was) → IsRewritten es (set_value_at es at row) at was row
rewritten_by_set es at key was row is = record {
  key = key;
  before = is;
  after = set_here es at key was row is;
  others = set_others es at row;
  long = set_long es at row;
  counts = λ test. count_set test es at key was row is;
}

-- ---- a row is put in

insert_here : (es : List (Key × Row)) (at : ℕ) (e : Key × Row) → at ≤ length es → slice_get (insert es at e) at ≡ Some e
insert_here es zero e within = refl
insert_here [] (suc at) e within = absurd (omega (arith, within))
insert_here (x ∷ es) (suc at) e within = insert_here es at e (omega (arith, within))

insert_below : (es : List (Key × Row)) (at : ℕ) (e : Key × Row) (i : ℕ) → at ≤ length es → i < at → slice_get (insert es at e) i ≡ slice_get es i
insert_below es zero e i within low = absurd (omega (arith, low))
insert_below [] (suc at) e i within low = absurd (omega (arith, within))
insert_below (x ∷ es) (suc at) e zero within low = refl
insert_below (x ∷ es) (suc at) e (suc i) within low = insert_below es at e i (omega (arith, within)) (omega (arith, low))

insert_above : (es : List (Key × Row)) (at : ℕ) (e : Key × Row) (i : ℕ) → at ≤ length es → at ≤ i → slice_get (insert es at e) (suc i) ≡ slice_get es i
insert_above es zero e i within high = refl
insert_above [] (suc at) e i within high = absurd (omega (arith, within))
insert_above (x ∷ es) (suc at) e zero within high = absurd (omega (arith, high))
insert_above (x ∷ es) (suc at) e (suc i) within high = insert_above es at e i (omega (arith, within)) (omega (arith, high))

none_counted_in : (test : Row → Bool) (n : ℕ) (es : List (Key × Row)) → n ≡ count_of test es + one_if (test no_row) → test no_row ≡ false → n ≡ count_of test es
none_counted_in test n es is off = let none : one_if (test no_row) ≡ 0 = ap one_if off in omega (arith, is, none)

pub put_in_by_insert : (es : List (Key × Row)) (key : Key) (at : ℕ) → at ≤ length es → IsPutIn es (insert es at (key, no_row)) key at
put_in_by_insert es key at within = record {
  here = insert_here es at (key, no_row) within;
  below = λ i low. insert_below es at (key, no_row) i within low;
  above = λ i high. subst (λ (n : ℕ). slice_get (insert es at (key, no_row)) n ≡ slice_get es i) (omega arith) (insert_above es at (key, no_row) i within high);
  long = length-insert es at (key, no_row) within;
  counts = λ test off. none_counted_in test _ es (count_insert test es at (key, no_row) within) off;
}

-- where the new key comes to stand
pub put_in_by_search : (es new : List (Key × Row)) (key : Key) (i at : ℕ) → lookup (key_eq key) es ≡ None → i ≤ length (keys_of es) → at ≡ index_before (position_or_len (key_eq key) (keys_of es)) i
    → new ≡ move_index (insert_entry key_eq es key no_row) (position_or_len (key_eq key) (keys_of es)) at → IsPutIn es new key at
put_in_by_search es new key i at none within place is =
    let absent = absent_from_lookup (key_eq key) es none in
    let end = or_len-absent (key_eq key) es absent in
    let long : length (keys_of es) ≡ length es = length-map es (λ e. e.0) in
    let low : i ≤ length es = omega (arith, within, long) in
    let there : at ≡ i = place ∙ ap (λ (n : ℕ). index_before n i) end ∙ rw (le-ltb (length es) i low) refl in
    let fits : at ≤ length es = omega (arith, there, low) in
    let whole : new ≡ insert es at (key, no_row) =
    is ∙ ap (λ (l : List (Key × Row)). move_index l (position_or_len (key_eq key) (keys_of es)) at) (insert_entry-absent key_eq key no_row es absent)
    ∙ ap (λ (n : ℕ). move_index (es ++ (key, no_row) ∷ []) n at) end ∙ push_moved es (key, no_row) at fits in
    subst (λ (l : List (Key × Row)). IsPutIn es l key at) (sym whole) (put_in_by_insert es key at fits)

-- ---- what a search finds

index_up : (a b : Ordering) → ordering_index a ≤ ordering_index b → a ≡ Equal → b ≡ Less → ⊥
index_up a b le one less = let low : ordering_index b ≡ 0 = ap ordering_index less in let mid : ordering_index a ≡ 1 = ap ordering_index one in absurd (omega (arith, le, low, mid))

key_at : (es : List (Key × Row)) (i : ℕ) (e : Key × Row) (d : Key) → slice_get es i ≡ Some e → get_or (keys_of es) i d ≡ e.0
key_at es i e d is = get_or_from_slice_get (keys_of es) i e.0 d (slice_get-map (λ (p : Key × Row). p.0) es i ∙ ap (option_map (λ (p : Key × Row). p.0)) is)

risen : (es : List (Key × Row)) → IsSorted key_cmp (keys_of es) → (i j : ℕ) (e f : Key × Row) (key : Key) → i ≤ j → slice_get es i ≡ Some e → slice_get es j ≡ Some f → ordering_index (key_cmp e.0 key) ≤ ordering_index (key_cmp f.0 key)
risen es sorted i j e f key le one other =
    let long : length (keys_of es) ≡ length es = length-map es (λ (p : Key × Row). p.0) in
    let within = slice_get_within es j f other in
    let up = searchable_from_sorted key_cmp-total (λ (k : Key). k) (keys_of es) key sorted i j key le (omega (arith, long, within)) in
    subst (λ (k : Key). ordering_index (key_cmp e.0 key) ≤ ordering_index (key_cmp k key)) (key_at es j f key other)
    (subst (λ (k : Key). ordering_index (key_cmp k key) ≤ ordering_index (key_cmp (get_or (keys_of es) j key) key)) (key_at es i e key one) up)

-- a key does not come before one that stands at an earlier place
never_before : (es : List (Key × Row)) → IsSorted key_cmp (keys_of es) → (i j : ℕ) (e f : Key × Row) → i ≤ j → slice_get es i ≡ Some e → slice_get es j ≡ Some f → key_cmp f.0 e.0 ≡ Less → ⊥
never_before es sorted i j e f le one other less = index_up _ _ (risen es sorted i j e f e.0 le one other) (tied_itself key_cmp-total e.0) less

and_off : (b : Bool) → (b && false) ≡ false
and_off true = refl
and_off false = refl

-- the key at the place is the first above a bound of whose row the test holds
pub finds_at : (above : Key → Bool) (test : Row → Bool) (es : List (Key × Row)) (place : ℕ) → IsSorted key_cmp (keys_of es) → IsDistinct key_eq (keys_of es) → test no_row ≡ false
    → ((e : Key × Row) → slice_get es place ≡ Some e → (above e.0 && test e.1) ≡ true) → ((i : ℕ) (e : Key × Row) → i < place → slice_get es i ≡ Some e → (above e.0 && test e.1) ≡ false)
    → FindsFirst (λ k. above k && test (row_in es k)) (option_map (λ e. e.0) (slice_get es place))
unfolding row_in
finds_at above test es place sorted distinct off here before = by (slice_get es place) refl
  where
    own : (i : ℕ) (e : Key × Row) → slice_get es i ≡ Some e → row_in es e.0 ≡ e.1
    own i e is = ap row_or_new (found_at es i e.0 e.1 distinct is)

    absent : (k : Key) → lookup (key_eq k) es ≡ None → (above k && test (row_in es k)) ≡ false
    absent k none = ap (λ (r : Row). above k && test r) (ap row_or_new none) ∙ ap (λ b. above k && b) off ∙ and_off (above k)

    at_place : (k : Key) (row : Row) → lookup (key_eq k) es ≡ Some row → ((i : ℕ) → slice_get es i ≡ Some (k, row) → i < place) → (above k && test (row_in es k)) ≡ false
    at_place k row found low =
        let p = place_from_lookup (key_eq k) es row found in
        let same = same_by_test k p.1 p.3 in
        let at : slice_get es p.0 ≡ Some (k, row) = p.2 ∙ ap (λ (q : Key). Some (q, row)) (sym same) in
        ap (λ (o : Option Row). above k && test (row_or_new o)) found ∙ before p.0 (k, row) (low p.0 at) at

    none_at : (k : Key) (o : Option Row) → lookup (key_eq k) es ≡ o → ((i : ℕ) (row : Row) → slice_get es i ≡ Some (k, row) → i < place) → (above k && test (row_in es k)) ≡ false
    none_at k None is low = absent k is
    none_at k (Some row) is low = at_place k row is (λ i. low i row)

    by : (o : Option (Key × Row)) → slice_get es place ≡ o → FindsFirst (λ k. above k && test (row_in es k)) (option_map (λ e. e.0) o)
    by None is = λ k. none_at k (lookup (key_eq k) es) refl (λ i row at. ⊎_elim (λ low. low) (λ high. absurd (beyond i (k, row) is at high)) (cases_lt i place))
      where
        beyond : (i : ℕ) (e : Key × Row) → slice_get es place ≡ None → slice_get es i ≡ Some e → place ≤ i → ⊥
        beyond i e none at high = ⊎_elim
            (λ q. let some = q.2 in cc (none, some))
            (λ q. let within = slice_get_within es i e at in let end = q.0 in absurd (omega (arith, within, end, high)))
            (slice_get_cases es place).1
    by (Some e) is = (
      ap (λ (r : Row). above e.0 && test r) (own place e is) ∙ here e is,
      λ k less. none_at k (lookup (key_eq k) es) refl (λ i row at. ⊎_elim (λ low. low) (λ high. absurd (never_before es sorted place i e (k, row) high is at less)) (cases_lt i place)),
    )

-- ---- a search above a key

flipped : (a b : Ordering) → a ≡ ordering_reverse b → b ≡ Less → a ≡ Greater
flipped a b is less = is ∙ ap ordering_reverse less

flip_greater : (a b : Ordering) → a ≡ ordering_reverse b → b ≡ Greater → a ≡ Less
flip_greater a b is more = is ∙ ap ordering_reverse more

not_less : (a : Ordering) → (a ≡ Less → ⊥) → is_lt a ≡ false
not_less Less off = absurd (off refl)
not_less Equal off = refl
not_less Greater off = refl

greater_by : (a : Ordering) → (a ≡ Less → ⊥) → (a ≡ Equal → ⊥) → a ≡ Greater
greater_by Less off one = absurd (off refl)
greater_by Equal off one = absurd (one refl)
greater_by Greater off one = refl

up_to_equal : (a : Ordering) → ordering_index a ≤ 1 → a ≡ Greater → ⊥
up_to_equal a le more = let top : ordering_index a ≡ 2 = ap ordering_index more in absurd (omega (arith, le, top))

-- where the search comes between the keys below and those above
pub place_between : (es : List (Key × Row)) (key : Key) (place : ℕ) → IsSorted key_cmp (keys_of es) → place ≤ length (keys_of es)
    → (IsNonDecreasingBy (λ y. ordering_index (key_cmp y key)) (keys_of es) → IsPartitionPoint (λ y. key_cmp y key ≡ Less) (λ y. key_cmp y key ≡ Greater) (keys_of es) place) → IsPlaceAbove key es place
place_between es key place sorted within parts =
    let halves = parts (searchable_from_sorted key_cmp-total (λ (k : Key). k) (keys_of es) key sorted) in
    let long : length (keys_of es) ≡ length es = length-map es (λ (p : Key × Row). p.0) in
    record {
      below = λ i e low is.
          let less : key_cmp e.0 key ≡ Less = subst (λ (k : Key). key_cmp k key ≡ Less) (key_at es i e key is) (halves.0 i key (omega arith) low) in
          ap is_lt (flipped _ _ (key_cmp-total.antisymm key e.0) less);
      above = λ i e high is.
          let there = slice_get_within es i e is in
          let more : key_cmp e.0 key ≡ Greater = subst (λ (k : Key). key_cmp k key ≡ Greater) (key_at es i e key is) (halves.1 i key high (omega (arith, there, long))) in
          flip_greater _ _ (key_cmp-total.antisymm key e.0) more;
      within = omega (arith, within, long);
    }

-- where it comes to the key itself
pub place_behind : (es : List (Key × Row)) (key : Key) (place : ℕ) → IsSorted key_cmp (keys_of es) → IsDistinct key_eq (keys_of es) → place < length (keys_of es) → HoldsAt (λ y. key_cmp y key ≡ Equal) (keys_of es) place → IsPlaceAbove key es (place + 1)
place_behind es key place sorted distinct within hit = by (slice_get_cases es place).1
  where
    long : length (keys_of es) ≡ length es
    long = length-map es (λ (p : Key × Row). p.0)

    by : ((x : Key × Row) × (place < length es) × (slice_get es place ≡ Some x) × (get_or es place x ≡ x)) ⊎ ((length es ≤ place) × (slice_get es place ≡ None)) → IsPlaceAbove key es (place + 1)
    by (inr q) = let end = q.0 in absurd (omega (arith, within, end, long))
    by (inl q) = record { below = below; above = above; within = omega (arith, within, long) }
      where
        mine : key_cmp q.0.0 key ≡ Equal
        mine = subst (λ (k : Key). key_cmp k key ≡ Equal) (key_at es place q.0 key q.2) (hit key)

        same : q.0.0 ≡ key
        same = same_by_test q.0.0 key (sym (key_tie q.0.0 key) ∙ ap is_eq mine)

        below : (i : ℕ) (e : Key × Row) → i < place + 1 → slice_get es i ≡ Some e → is_lt (key_cmp key e.0) ≡ false
        below i e low is =
            let up = risen es sorted i place e q.0 key (omega (arith, low)) is q.2 in
            let one : ordering_index (key_cmp q.0.0 key) ≡ 1 = ap ordering_index mine in
            not_less _ (λ less. up_to_equal _ (omega (arith, up, one)) (flipped _ _ (key_cmp-total.antisymm e.0 key) less))

        above : (i : ℕ) (e : Key × Row) → place + 1 ≤ i → slice_get es i ≡ Some e → key_cmp key e.0 ≡ Less
        above i e high is =
            let up = risen es sorted place i q.0 e key (omega (arith, high)) q.2 is in
            flip_greater _ _ (key_cmp-total.antisymm key e.0)
            (greater_by _ (λ less. index_up _ _ up mine less)
            (λ equal.
            let other : e.0 ≡ key = same_by_test e.0 key (sym (key_tie e.0 key) ∙ ap is_eq equal) in
            let first = or_len-first (key_eq key) es place (own_first key_eq key_eq-laws es place key q.0.1 distinct (q.2 ∙ ap (λ (k : Key). Some (k, q.0.1)) same)) in
            let second = or_len-first (key_eq key) es i (own_first key_eq key_eq-laws es i key e.1 distinct (is ∙ ap (λ (k : Key). Some (k, e.1)) other)) in
            absurd (omega (arith, first, second, high))))

-- from there on a search finds the first above the key
pub finds_above : (key : Key) (test : Row → Bool) (es : List (Key × Row)) (from place : ℕ) → IsSorted key_cmp (keys_of es) → IsDistinct key_eq (keys_of es) → test no_row ≡ false → IsPlaceAbove key es from → IsPlaceFrom test es from place
    → FindsFirst (λ k. is_lt (key_cmp key k) && test (row_in es k)) (option_map (λ e. e.0) (slice_get es place))
finds_above key test es from place sorted distinct off a p = finds_at (λ k. is_lt (key_cmp key k)) test es place sorted distinct off
    (λ e is. both (is_lt (key_cmp key e.0)) (test e.1) (ap is_lt (a.above place e (p.up a.within) is)) (p.here e is))
    (λ i e low is. ⊎_elim
    (λ under. ap (λ b. b && test e.1) (a.below i e under is))
    (λ over. ap (λ b. is_lt (key_cmp key e.0) && b) (p.before i e over low is) ∙ and_off (is_lt (key_cmp key e.0)))
    (cases_lt i from))
  where
    both : (a b : Bool) → a ≡ true → b ≡ true → (a && b) ≡ true
    both a b one other = ap (λ x. x && b) one ∙ other

-- from the beginning on it finds the first of all
pub finds_from_start : (test : Row → Bool) (es : List (Key × Row)) (place : ℕ) → IsSorted key_cmp (keys_of es) → IsDistinct key_eq (keys_of es) → test no_row ≡ false → IsPlaceFrom test es 0 place
    → FindsFirst (λ k. test (row_in es k)) (option_map (λ e. e.0) (slice_get es place))
finds_from_start test es place sorted distinct off p = finds_at (λ k. true) test es place sorted distinct off p.here (λ i e low is. p.before i e (omega arith) low is)

one_entry : (o : Option (Key × Row)) (e f : Key × Row) → o ≡ Some e → o ≡ Some f → e ≡ f
one_entry o e f one other = cc

-- and so does the place that is kept
pub finds_kept : (test : Row → Bool) (es : List (Key × Row)) (place : ℕ) → IsSorted key_cmp (keys_of es) → IsDistinct key_eq (keys_of es) → test no_row ≡ false → IsFirstAt test es place
    → FindsFirst (λ k. test (row_in es k)) (option_map (λ e. e.0) (slice_get es place))
finds_kept test es place sorted distinct off f = finds_at (λ k. true) test es place sorted distinct off
    (λ e is. ap (λ (p : Key × Row). test p.1) (one_entry (slice_get es place) e f.row is f.stands) ∙ f.holds) (λ i e low is. f.first i e low is)

-- where none is counted there is none to be found
pub finds_none : (test : Row → Bool) (es : List (Key × Row)) → test no_row ≡ false → ((i : ℕ) (e : Key × Row) → slice_get es i ≡ Some e → test e.1 ≡ false) → (k : Key) → test (row_in es k) ≡ false
unfolding row_in
finds_none test es off none k = by (lookup (key_eq k) es) refl
  where
    by : (o : Option Row) → lookup (key_eq k) es ≡ o → test (row_or_new o) ≡ false
    by None is = off
    by (Some row) is = let p = place_from_lookup (key_eq k) es row is in none p.0 (p.1, row) p.2

-- where a search from the beginning comes to the end the test holds of no row
pub none_past : (test : Row → Bool) (es : List (Key × Row)) (place : ℕ) → IsPlaceFrom test es 0 place → slice_get es place ≡ None → (i : ℕ) (e : Key × Row) → slice_get es i ≡ Some e → test e.1 ≡ false
none_past test es place p none i e at = ⊎_elim
    (λ q. let some = q.2 in absurd (cc (none, some)))
    (λ q. let within = slice_get_within es i e at in let end = q.0 in p.before i e (omega arith) (omega (arith, within, end)) at)
    (slice_get_cases es place).1
