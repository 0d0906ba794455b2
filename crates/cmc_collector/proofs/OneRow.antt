-- The row of one key changes, and of no other.
use Rattle.std.proofs.Common.{◌≡◌, Option, Some, None, Bool, true, false, cond, refl, sym, ap, ◌∙◌, subst}
use Rattle.std.specs.BTreeMap.{BTreeMap, WritesThrough, get_by, is_at}
use Rattle.std.specs.Map.{lookup}
use Rattle.std.specs.Ordering.{is_eq}
use Rattle.std.specs.Prelude.{IsSome, if◌then◌else◌, is_some}
use Rattle.cmc_meta.specs.declared.key.Key.{Key}
use Rattle.cmc_meta.specs.Keys.{key_cmp, key_eq}
use Rattle.cmc_informer.proofs.OneMark.{key_tie, same_key}
use Rattle.cmc_collector.specs.declared.examination.Examination.{Examination}
use Rattle.cmc_collector.specs.declared.rows.Row.{Row}
use Rattle.cmc_collector.specs.Rows.{Rowed, has_examine_row, examination_of, examination_under}

row_by : (b : Bool) (new : Option Row) (es more : Rowed) (key k : Key) → is_eq (key_cmp key k) ≡ b
    → lookup (is_at (key_cmp k)) more ≡ cond b new (lookup (is_at (key_cmp k)) es) → examination_under more k ≡ (if b then examination_of new else examination_under es k)
unfolding examination_under
row_by true new es more key k tie at = ap examination_of at
row_by false new es more key k tie at = ap examination_of at

-- a map that is changed at the key alone
pub row_changed : (new : Option Row) (es more : Rowed) (key : Key) → ((q : Key) → lookup (is_at (key_cmp q)) more ≡ cond (is_eq (key_cmp key q)) new (lookup (is_at (key_cmp q)) es))
    → (k : Key) → examination_under more k ≡ (if key_eq key k then examination_of new else examination_under es k)
row_changed new es more key each k =
    subst (λ b. examination_under more k ≡ (if b then examination_of new else examination_under es k)) (key_tie key k) (row_by (is_eq (key_cmp key k)) new es more key k refl (each k))

-- a map that is written through
pub row_written : (m n : BTreeMap Key Row) (key : Key) (old new : Row) → get_by (key_cmp key) m ≡ Some old → WritesThrough key_cmp (key_cmp key) m new n
    → (k : Key) → examination_under n.entries k ≡ (if key_eq key k then new.examination else examination_under m.entries k)
row_written m n key old new found through =
    let some : IsSome (get_by (key_cmp key) m) = rw found refl in
    row_changed (Some new) m.entries n.entries key (λ q. (through.3 some).0 q)

none_from_test : (o : Option Row) → is_some o ≡ false → o ≡ None
none_from_test None h = refl
none_from_test (Some row) h = absurd (cc)

none_before : (b : Bool) (es : Rowed) (key k : Key) → is_eq (key_cmp key k) ≡ b → examination_of (lookup (is_at (key_cmp key)) es) ≡ None → (if b then None else examination_under es k) ≡ examination_under es k
unfolding examination_under
none_before true es key k e none = sym (ap (λ q. examination_of (lookup (is_at (key_cmp q)) es)) (sym (same_key key k e)) ∙ none)
none_before false es key k e none = refl

-- a map to which the key is added, with no examination
pub row_added : (es new : Rowed) (key copy : Key) (row : Row) → row.examination ≡ None → is_some (lookup (is_at (key_cmp key)) es) ≡ false → copy ≡ key
    → ((q : Key) → lookup (is_at (key_cmp q)) new ≡ cond (is_eq (key_cmp copy q)) (Some row) (lookup (is_at (key_cmp q)) es)) → (k : Key) → examination_under new k ≡ examination_under es k
row_added es new key copy row empty absent same each k =
    let none : lookup (is_at (key_cmp copy)) es ≡ None = ap (λ q. lookup (is_at (key_cmp q)) es) same ∙ none_from_test _ absent in
    row_changed (Some row) es new copy each k ∙ ap (λ (o : Option Examination). if key_eq copy k then o else examination_under es k) empty
    ∙ subst (λ b. (if b then None else examination_under es k) ≡ examination_under es k) (key_tie copy k) (none_before (is_eq (key_cmp copy k)) es copy k refl (ap examination_of none))

-- a map from which a key without an examination is taken
pub row_removed : (es new : Rowed) (key : Key) → examination_under es key ≡ None → ((q : Key) → lookup (is_at (key_cmp q)) new ≡ cond (is_eq (key_cmp key q)) None (lookup (is_at (key_cmp q)) es))
    → (k : Key) → examination_under new k ≡ examination_under es k
unfolding examination_under
row_removed es new key none each k =
    row_changed None es new key each k
    ∙ subst (λ b. (if b then None else examination_under es k) ≡ examination_under es k) (key_tie key k) (none_before (is_eq (key_cmp key k)) es key k refl none)

kept_by : (b : Bool) (old row : Row) (es new : Rowed) (key k : Key) → is_eq (key_cmp key k) ≡ b → lookup (is_at (key_cmp key)) es ≡ Some old
    → lookup (is_at (key_cmp k)) new ≡ cond b (Some row) (lookup (is_at (key_cmp k)) es) → has_examine_row new k ≡ has_examine_row es k
unfolding has_examine_row
kept_by true old row es new key k e found at = ap is_some at ∙ sym (ap is_some (ap (λ q. lookup (is_at (key_cmp q)) es) (sym (same_key key k e)) ∙ found))
kept_by false old row es new key k e found at = ap is_some at

-- a map that is written through keeps its rows
pub rows_stay : (m n : BTreeMap Key Row) (key : Key) (old new : Row) → get_by (key_cmp key) m ≡ Some old → WritesThrough key_cmp (key_cmp key) m new n
    → (k : Key) → has_examine_row n.entries k ≡ has_examine_row m.entries k
rows_stay m n key old new found through k =
    let some : IsSome (get_by (key_cmp key) m) = rw found refl in
    kept_by (is_eq (key_cmp key k)) old new m.entries n.entries key k refl found ((through.3 some).0 k)

removed_by : (b : Bool) (es new : Rowed) (key k : Key) → lookup (is_at (key_cmp k)) new ≡ cond b None (lookup (is_at (key_cmp k)) es) → has_examine_row new k ≡ (if b then false else has_examine_row es k)
unfolding has_examine_row
removed_by true es new key k at = ap is_some at
removed_by false es new key k at = ap is_some at

pub rows_removed : (es new : Rowed) (key : Key) → ((q : Key) → lookup (is_at (key_cmp q)) new ≡ cond (is_eq (key_cmp key q)) None (lookup (is_at (key_cmp q)) es))
    → (k : Key) → has_examine_row new k ≡ (if key_eq key k then false else has_examine_row es k)
rows_removed es new key each k =
    subst (λ b. has_examine_row new k ≡ (if b then false else has_examine_row es k)) (key_tie key k) (removed_by (is_eq (key_cmp key k)) es new key k (each k))

has_kept : (o : Option Row) → is_some o ≡ true → o ≡ None → ⊥
has_kept None h none = absurd (cc)
has_kept (Some on) h none = absurd (cc)

pub row_is_kept : (es : Rowed) (key : Key) → has_examine_row es key ≡ true → lookup (is_at (key_cmp key)) es ≡ None → ⊥
unfolding has_examine_row
row_is_kept es key has none = has_kept _ has none
