-- A search for the first key that a test holds of, through the rows in order of key.
use Rattle.std.proofs.Common.{◌≡◌, ℕ, Option, List, [], ◌∷◌, Some, None, Bool, true, false, cond, refl, ap, subst, ◌∙◌, Less}
use Rattle.std.proofs.lemmas.List.Elements.{All-head, All-tail}
use Rattle.std.proofs.lemmas.Map.Keys.{sorted_head, sorted_tail}
use Rattle.std.specs.Prelude.{◌||◌, is_some}
use Rattle.std.specs.BTreeMap.{is_at}
use Rattle.std.specs.List.{All, AllByRecursion, list_any}
use Rattle.std.specs.List.Sorted.{IsStrictlySortedBy}
use Rattle.std.specs.Map.{keys_of, lookup}
use Rattle.std.specs.Ordering.{is_eq}
use Rattle.cmc_meta.specs.declared.key.Key.{Key}
use Rattle.cmc_meta.specs.Keys.{key_cmp}
use Rattle.cmc_objects.specs.declared.object.Object.{Object}
use Rattle.cmc_collector.specs.declared.examination.Examination.{Examination}
use Rattle.cmc_collector.specs.declared.rows.Row.{Row}
use Rattle.cmc_collector.specs.CachePositions.{are_gone, has_owners, is_orphan_in, has_any_owner}
use Rattle.cmc_collector.specs.Examinations.{current_of}
use Rattle.cmc_collector.specs.Owners.{owners_of}
use Rattle.cmc_collector.specs.Rows.{Rowed, has_examine_row, examination_of, examination_under}
use Rattle.cmc_collector.specs.Settles.{FindsLeast}
use Rattle.cmc_meta.proofs.KeyOrder.{key_cmp-total}
use Rattle.cmc_informer.proofs.OneMark.{same_key}
use Rattle.std.proofs.lemmas.Bool.{and_parts}

-- the key stands in the rows
abbrev stands : Key → Rowed → Bool
stands k es = list_any (λ e. is_at (key_cmp k) e.0) es

-- what is left to look at, after keys that the test does not hold of
pub record RowsLeft (rows : Rowed) (test : Key → Bool) (rest : Rowed) : Type 0 where
  pub ordered : IsStrictlySortedBy key_cmp (keys_of rest)
  pub each : AllByRecursion (λ e. examination_under rows e.0 ≡ e.1.examination) rest
  pub left : (k : Key) → test k ≡ true → stands k rest ≡ true

-- the test holds of keys with a row alone
abbrev pub IsOfRows : Rowed → (Key → Bool) → Type 0
IsOfRows rows test = (k : Key) → test k ≡ true → has_examine_row rows k ≡ true

found_stands : (b : Bool) (k : Key) (row : Row) (es : Rowed) → is_some (cond b (Some row) (lookup (is_at (key_cmp k)) es)) ≡ true → (is_some (lookup (is_at (key_cmp k)) es) ≡ true → stands k es ≡ true)
    → (b || stands k es) ≡ true
found_stands true k row es some later = refl
found_stands false k row es some later = later some

lookup_stands : (k : Key) (es : Rowed) → is_some (lookup (is_at (key_cmp k)) es) ≡ true → stands k es ≡ true
lookup_stands k [] some = absurd (cc some)
lookup_stands k (e ∷ es) some = found_stands (is_at (key_cmp k) e.0) k e.1 es some (lookup_stands k es)

row_stands : (k : Key) (es : Rowed) → has_examine_row es k ≡ true → stands k es ≡ true
unfolding has_examine_row
row_stands k es has = lookup_stands k es has

own_row : (es : Rowed) (key : Key) (row : Row) → lookup (is_at (key_cmp key)) es ≡ Some row → examination_under es key ≡ row.examination
unfolding examination_under
own_row es key row found = ap examination_of found

own_rows : (es rest : Rowed) → All (λ e. lookup (is_at (key_cmp e.0)) es ≡ Some e.1) rest → AllByRecursion (λ e. examination_under es e.0 ≡ e.1.examination) rest
own_rows es [] all = tt
own_rows es (e ∷ rest) all = (own_row es e.0 e.1 (All-head (λ p. lookup (is_at (key_cmp p.0)) es ≡ Some p.1) e rest all), own_rows es rest (All-tail (λ p. lookup (is_at (key_cmp p.0)) es ≡ Some p.1) e rest all))

pub all_rows_left : (es : Rowed) (test : Key → Bool) → IsStrictlySortedBy key_cmp (keys_of es) → All (λ e. lookup (is_at (key_cmp e.0)) es ≡ Some e.1) es → IsOfRows es test → RowsLeft es test es
all_rows_left es test ordered found has = record {
  ordered = ordered;
  each = own_rows es es found;
  left = λ k on. row_stands k es (has k on);
}

left_beyond : (b : Bool) (k key : Key) (rest : Rowed) → is_eq (key_cmp k key) ≡ b → (k ≡ key → ⊥) → (b || stands k rest) ≡ true → stands k rest ≡ true
left_beyond true k key rest e apart any = absurd (apart (same_key k key e))
left_beyond false k key rest e apart any = any

-- the test does not hold of one key more
pub fewer_rows_left : (rows : Rowed) (test : Key → Bool) (key : Key) (row : Row) (rest : Rowed) → test key ≡ false → RowsLeft rows test ((key, row) ∷ rest) → RowsLeft rows test rest
fewer_rows_left rows test key row rest off l = record {
  ordered = sorted_tail key_cmp key (keys_of rest) l.ordered;
  each = l.each.1;
  left = λ k on. left_beyond (is_eq (key_cmp k key)) k key rest refl (λ same. let here : test key ≡ true = subst (λ (q : Key). test q ≡ true) same on in absurd (cc (here, off))) (l.left k on);
}

none_at : (k key : Key) (rest : Rowed) → key_cmp k key ≡ Less → AllByRecursion (λ y. key_cmp key y ≡ Less) (keys_of rest) → stands k rest ≡ false
none_at k key [] low above = refl
none_at k key (e ∷ rest) low above =
    ap (λ r. is_eq r || stands k rest) (key_cmp-total.trans k key e.0 low above.0) ∙ none_at k key rest low above.1

by_test : (b : Bool) → (b ≡ true → ⊥) → b ≡ false
by_test true off = absurd (off refl)
by_test false off = refl

-- the first key that the test holds of
pub first_found : (rows : Rowed) (test : Key → Bool) (key : Key) (row : Row) (rest : Rowed) → test key ≡ true → RowsLeft rows test ((key, row) ∷ rest) → FindsLeast test (Some key)
first_found rows test key row rest on l = (on, λ k low. by_test (test k) (below k low)) where
  below : (k : Key) → key_cmp k key ≡ Less → test k ≡ true → ⊥
  below k low is =
      let some : (is_eq (key_cmp k key) || stands k rest) ≡ true = l.left k is in
      let none : (is_eq (key_cmp k key) || stands k rest) ≡ false = ap (λ r. is_eq r || stands k rest) low ∙ none_at k key rest low (sorted_head key_cmp key (keys_of rest) l.ordered) in
      absurd (cc (some, none))

-- where no key is left, the test holds of none
pub none_found : (rows : Rowed) (test : Key → Bool) → RowsLeft rows test [] → FindsLeast test None
none_found rows test l k = by_test (test k) (λ on. let some = l.left k on in absurd (cc some))

pub first_row : (rows : Rowed) (test : Key → Bool) (key : Key) (row : Row) (rest : Rowed) → RowsLeft rows test ((key, row) ∷ rest) → examination_under rows key ≡ row.examination
first_row rows test key row rest l = l.each.0

-- ---- what is due has a row

row_some : (o : Option Row) → is_some (examination_of o) ≡ true → is_some o ≡ true
row_some None some = some
row_some (Some row) some = refl

examined_row : (rows : Rowed) (key : Key) → is_some (examination_under rows key) ≡ true → has_examine_row rows key ≡ true
unfolding examination_under has_examine_row
examined_row rows key some = row_some (lookup (is_at (key_cmp key)) rows) some

due_row : (x : Option Examination) (orphan : Bool) (held : Option Object) (has : Bool) → is_some (current_of x orphan held) ≡ true → (is_some x ≡ true → has ≡ true) → (orphan ≡ true → has ≡ true) → has ≡ true
due_row (Some x) orphan held has due going begins = going refl
due_row None true held has due going begins = begins refl
due_row None false held has due going begins = absurd (cc due)

orphan_owned : (found : Key → Option Object) (given : ℕ) (namespace : List ℕ) (held : Option Object) → is_orphan_in found given namespace held ≡ true → has_any_owner held ≡ true
orphan_owned found given namespace None orphan = absurd (cc orphan)
orphan_owned found given namespace (Some o) orphan = (and_parts (has_owners (owners_of o)) (are_gone found given namespace (owners_of o)) orphan).0

abbrev pub due_test : Rowed → (Key → Option Object) → ℕ → Key → Bool
due_test rows found given k = is_some (current_of (examination_under rows k) (is_orphan_in found given k.namespace (found k)) (found k))

pub due_has_row : (rows : Rowed) (found : Key → Option Object) (given : ℕ) → ((k : Key) → has_any_owner (found k) ≡ true → has_examine_row rows k ≡ true)
    → IsOfRows rows (due_test rows found given)
due_has_row rows found given covered k due =
    due_row (examination_under rows k) (is_orphan_in found given k.namespace (found k)) (found k) (has_examine_row rows k) due (examined_row rows k) (λ orphan. covered k (orphan_owned found given k.namespace (found k) orphan))
