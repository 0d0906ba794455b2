-- The row of one key changes, and of no other.
use Rattle.std.proofs.Common.{◌≡◌, ℕ, List, Option, Some, None, Bool, true, false, refl, sym, ap, ◌∙◌, is_some, rules, inl, inr, Ordering, Less, Equal, Greater}
use Rattle.std.proofs.lemmas.Map.Entries.{lookup_from_place}
use Rattle.std.specs.Prelude.{◌⊎◌, if◌then◌else◌, slice_get}
use Rattle.std.specs.Cmp.{IsEquivalence}
use Rattle.std.specs.Cmp.Rules.{comparing}
use Rattle.std.specs.List.{IsDistinct}
use Rattle.std.specs.Map.{keys_of, lookup}
use Rattle.std.specs.Ordering.{is_eq}
use Rattle.std.proofs.lemmas.Cmp.{tied_itself}
use Rattle.cmc_meta.specs.declared.key.Key.{Key}
use Rattle.cmc_meta.specs.Keys.{key_cmp, key_eq}
use Rattle.cmc_meta.proofs.KeyOrder.{key_cmp-IsAntisymmetric, key_cmp-total}
use Rattle.cmc_queue.specs.declared.row.Row.{Row}
use Rattle.cmc_queue.specs.Rows.{has_row, no_row, row_in, row_or_new}

-- keys that tie in the order are those that the test finds equal
pub key_tie : (a b : Key) → is_eq (key_cmp a b) ≡ key_eq a b
key_tie a b = search (comparing, rules)

pub tied : (o : Ordering) → is_eq o ≡ true → o ≡ Equal
tied Less h = absurd (cc)
tied Equal h = refl
tied Greater h = absurd (cc)

pub same_key : (a b : Key) → is_eq (key_cmp a b) ≡ true → a ≡ b
same_key a b h = key_cmp-IsAntisymmetric a b (tied (key_cmp a b) h)

pub same_by_test : (a b : Key) → key_eq a b ≡ true → a ≡ b
same_by_test a b e = same_key a b (key_tie a b ∙ e)

pub equal_keys : (k : Key) → key_eq k k ≡ true
equal_keys k = sym (key_tie k k) ∙ ap is_eq (tied_itself key_cmp-total k)

pub key_eq-laws : IsEquivalence key_eq
key_eq-laws = search (comparing, rules)

-- a row that is as before or f of that stays so where it becomes f of itself
pub one_row : (b : Bool) (f : Row → Row) → ((r : Row) → f (f r) ≡ f r) → (before was is : Row) → is ≡ (if b then f was else was) → (was ≡ before) ⊎ (was ≡ f before) → (is ≡ before) ⊎ (is ≡ f before)
one_row true f twice before was is e (inl same) = inr (e ∙ ap f same)
one_row true f twice before was is e (inr done) = inr (e ∙ ap f done ∙ twice before)
one_row false f twice before was is e (inl same) = inl (e ∙ same)
one_row false f twice before was is e (inr done) = inr (e ∙ done)

-- and it is f of that where f leaves it
pub come : (f : Row → Row) (before is : Row) → f is ≡ is → (is ≡ before) ⊎ (is ≡ f before) → is ≡ f before
come f before is none (inl same) = sym none ∙ ap f same
come f before is none (inr done) = done

written : (b : Bool) (old new : List (Key × Row)) (k : Key) (row : Row) → lookup (key_eq k) new ≡ (if b then Some row else lookup (key_eq k) old) → row_in new k ≡ (if b then row else row_in old k)
unfolding row_in
written true old new k row at = ap row_or_new at
written false old new k row at = ap row_or_new at

-- the row that is written at a key
pub row_written : (old new : List (Key × Row)) (key : Key) (row : Row) → ((k : Key) → lookup (key_eq k) new ≡ (if key_eq key k then Some row else lookup (key_eq k) old))
    → (k : Key) → row_in new k ≡ (if key_eq key k then row else row_in old k)
row_written old new key row each k = written (key_eq key k) old new k row (each k)

kept : (b : Bool) (old new : List (Key × Row)) (key k : Key) (row was : Row) → key_eq key k ≡ b → lookup (key_eq key) old ≡ Some was → lookup (key_eq k) new ≡ (if b then Some row else lookup (key_eq k) old)
    → has_row new k ≡ has_row old k
unfolding has_row
kept true old new key k row was e found at = ap is_some at ∙ sym (ap is_some (ap (λ q. lookup (key_eq q) old) (sym (same_by_test key k e)) ∙ found))
kept false old new key k row was e found at = ap is_some at

-- of a key that had one
pub rooms_kept : (old new : List (Key × Row)) (key : Key) (row was : Row) → lookup (key_eq key) old ≡ Some was → ((k : Key) → lookup (key_eq k) new ≡ (if key_eq key k then Some row else lookup (key_eq k) old))
    → (k : Key) → has_row new k ≡ has_row old k
rooms_kept old new key row was found each k = kept (key_eq key k) old new key k row was refl found (each k)

pub none_from_test : (o : Option Row) → is_some o ≡ false → o ≡ None
none_from_test None h = refl
none_from_test (Some row) h = absurd (cc)

-- a key that is not found has no row
pub no_row_found : (es : List (Key × Row)) (key : Key) → is_some (lookup (key_eq key) es) ≡ false → row_in es key ≡ no_row
unfolding row_in
no_row_found es key absent = ap row_or_new (none_from_test (lookup (key_eq key) es) absent)

-- nor has one that has no room
pub no_row_without : (es : List (Key × Row)) (key : Key) → has_row es key ≡ false → row_in es key ≡ no_row
unfolding row_in has_row
no_row_without es key absent = ap row_or_new (none_from_test (lookup (key_eq key) es) absent)

-- the row that is found
pub row_found : (es : List (Key × Row)) (key : Key) (row : Row) → lookup (key_eq key) es ≡ Some row → row_in es key ≡ row
unfolding row_in
row_found es key row found = ap row_or_new found

added : (b : Bool) (old new : List (Key × Row)) (key k : Key) → key_eq key k ≡ b → has_row old key ≡ false → lookup (key_eq k) new ≡ (if b then Some no_row else lookup (key_eq k) old) → row_in new k ≡ row_in old k
unfolding row_in has_row
added true old new key k e none at = ap row_or_new at ∙ sym (ap row_or_new (ap (λ q. lookup (key_eq q) old) (sym (same_by_test key k e)) ∙ none_from_test (lookup (key_eq key) old) none))
added false old new key k e none at = ap row_or_new at

-- a row is put in for a key that had none
pub row_put_in : (old new : List (Key × Row)) (key : Key) → has_row old key ≡ false → ((k : Key) → lookup (key_eq k) new ≡ (if key_eq key k then Some no_row else lookup (key_eq k) old)) → (k : Key) → row_in new k ≡ row_in old k
row_put_in old new key none each k = added (key_eq key k) old new key k refl none (each k)

more : (b : Bool) (old new : List (Key × Row)) (k : Key) → lookup (key_eq k) new ≡ (if b then Some no_row else lookup (key_eq k) old) → has_row old k ≡ true → has_row new k ≡ true
unfolding has_row
more true old new k at has = ap is_some at
more false old new k at has = ap is_some at ∙ has

pub rooms_put_in : (old new : List (Key × Row)) (key : Key) → ((k : Key) → lookup (key_eq k) new ≡ (if key_eq key k then Some no_row else lookup (key_eq k) old)) → (k : Key) → has_row old k ≡ true → has_row new k ≡ true
rooms_put_in old new key each k has = more (key_eq key k) old new k (each k) has

own_room : (b : Bool) (old new : List (Key × Row)) (key : Key) → b ≡ true → lookup (key_eq key) new ≡ (if b then Some no_row else lookup (key_eq key) old) → has_row new key ≡ true
unfolding has_row
own_room true old new key e at = ap is_some at
own_room false old new key e at = absurd (cc)

pub room_put_in : (old new : List (Key × Row)) (key : Key) → ((k : Key) → lookup (key_eq k) new ≡ (if key_eq key k then Some no_row else lookup (key_eq k) old)) → has_row new key ≡ true
room_put_in old new key each = own_room (key_eq key key) old new key (equal_keys key) (each key)

-- the row at a place is the key's
pub found_at : (es : List (Key × Row)) (i : ℕ) (key : Key) (row : Row) → IsDistinct key_eq (keys_of es) → slice_get es i ≡ Some (key, row) → lookup (key_eq key) es ≡ Some row
found_at es i key row distinct at = lookup_from_place key_eq-laws es i key row distinct at
