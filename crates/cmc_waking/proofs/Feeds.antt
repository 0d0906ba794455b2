-- Several calls of one queue, one after another.
use Rattle.std.proofs.Common.{◌≡◌, ◌<◌, ℕ, ℤ, List, [], ◌∷◌, ◌++◌, length, get_or, zero, suc, Option, Some, None, Bool, true, false, inl, inr, refl, sym, ap, subst, ◌∙◌, arith}
use Rattle.std.proofs.lemmas.List.Folds.{list_any-append}
use Rattle.std.specs.BTreeMap.{is_at}
use Rattle.std.specs.Cmp.{tied_itself}
use Rattle.std.specs.Ordering.{is_eq}
use Rattle.std.specs.Prelude.{◌||◌, ◌⊎◌, if◌then◌else◌}
use Rattle.cmc_meta.specs.declared.key.Key.{Key}
use Rattle.cmc_meta.specs.Keys.{key_cmp, key_eq}
use Rattle.cmc_meta.proofs.KeyOrder.{key_cmp-total}
use Rattle.cmc_objects.specs.declared.entry.Positions.{Positions}
use Rattle.cmc_queue.specs.declared.row.Row.{Row}
use Rattle.cmc_queue.specs.Rows.{added, row_in}
use Rattle.cmc_queue.specs.Queues.{has_room, row_of, ChangesRow, KeepsRoom, Work}
use Rattle.cmc_queue.proofs.OneRow.{key_tie, same_by_test, same_key}
use Rattle.cmc_caches.specs.Affected.{is_among}
use Rattle.cmc_rules.specs.declared.progress.Ending.{Ending}
use Rattle.cmc_rules.specs.declared.progress.Ending.TheVariants as endings
use Rattle.cmc_waking.specs.Feeds.{added_if}
use Rattle.cmc_waking.specs.Parked.{obstacle_ahead, waits_for}
use Rattle.cmc_waking.specs.Queues.{HasPlaceAt, HasRooms, WakesSome}

-- ---- one row, twice

twice_by : (b : Bool) (f g : Row → Row) (x y z : Row) → y ≡ (if b then f x else x) → z ≡ (if b then g y else y) → z ≡ (if b then g (f x) else x)
twice_by true f g x y z one two = two ∙ ap g one
twice_by false f g x y z one two = two ∙ one

-- two changes of one row are one
pub changes_twice : (f g : Row → Row) (key : Key) (a b c : Work) → ChangesRow f key a b → ChangesRow g key b c → ChangesRow (λ row. g (f row)) key a c
changes_twice f g key a b c one two k = twice_by (key_eq key k) f g (row_of a k) (row_of b k) (row_of c k) (one k) (two k)

same_by : (b : Bool) (row : Row) → row ≡ (if b then row else row)
same_by true row = refl
same_by false row = refl

-- ---- room

pub room_twice : (a b c : Work) → KeepsRoom a b → KeepsRoom b c → KeepsRoom a c
room_twice a b c one two = record {
  rows = λ k has. two.rows k (one.rows k has);
  moments = λ at k has. two.moments at k (one.moments at k has);
  versions = λ kind version k has. two.versions kind version k (one.versions kind version k has);
}

pub room_stays : (a : Work) → KeepsRoom a a
room_stays a = record { rows = λ k has. has; moments = λ at k has. has; versions = λ kind version k has. has }

pub place_at_stays : (next : Option ℤ) (key : Key) (a b : Work) → KeepsRoom a b → HasPlaceAt next key a → HasPlaceAt next key b
place_at_stays None key a b kept has = tt
place_at_stays (Some at) key a b kept has = kept.moments at key has

-- ---- each of a list of keys

or_here : (b : Bool) → (b || true) ≡ true
or_here true = refl
or_here false = refl

-- a key of the list is among it
pub among_item : (keys : List Key) (i : ℕ) (key : Key) → i < length keys → key ≡ get_or keys i key → is_among keys key ≡ true
among_item [] i key low is = absurd (omega arith)
among_item (x ∷ keys) zero key low is = ap (λ (b : Bool). b || is_among keys key) (tied (sym is)) where
  tied : x ≡ key → is_eq (key_cmp key x) ≡ true
  tied same = subst (λ (q : Key). is_eq (key_cmp key q) ≡ true) (sym same) (ap is_eq (tied_itself key_cmp-total key))
among_item (x ∷ keys) (suc i) key low is = ap (λ (b : Bool). is_eq (key_cmp key x) || b) (among_item keys i key (omega arith) is) ∙ or_here (is_eq (key_cmp key x))

added_by : (a b : Bool) (k key : Key) (row : Row) → is_eq (key_cmp k key) ≡ b → (if b then added (added_if a row) else added_if a row) ≡ added_if (a || (b || false)) row
added_by true true k key row is = refl
added_by true false k key row is = refl
added_by false true k key row is = refl
added_by false false k key row is = refl

turned : (a b : Key) → key_eq a b ≡ is_eq (key_cmp b a)
turned a b = sym (key_tie a b) ∙ by (is_eq (key_cmp a b)) (is_eq (key_cmp b a)) refl refl where
  by : (p q : Bool) → is_eq (key_cmp a b) ≡ p → is_eq (key_cmp b a) ≡ q → p ≡ q
  by true q one two = sym (subst (λ (c : Key). is_eq (key_cmp c a) ≡ true) (same_key a b one) (ap is_eq (tied_itself key_cmp-total a))) ∙ two
  by false true one two = absurd (let on : is_eq (key_cmp a b) ≡ true = subst (λ (c : Key). is_eq (key_cmp a c) ≡ true) (sym (same_key b a two)) (ap is_eq (tied_itself key_cmp-total a)) in cc (on, one))
  by false false one two = refl

-- one key more is ready
pub added_more : (keys more : List Key) (key : Key) (base old new : Work) → more ≡ keys ++ key ∷ [] → ((k : Key) → row_of old k ≡ added_if (is_among keys k) (row_of base k)) → ChangesRow added key old new
    → (k : Key) → row_of new k ≡ added_if (is_among more k) (row_of base k)
added_more keys more key base old new is each one k =
    one k
    ∙ ap (λ (r : Row). if key_eq key k then added r else r) (each k)
    ∙ ap (λ (b : Bool). if b then added (added_if (is_among keys k) (row_of base k)) else added_if (is_among keys k) (row_of base k)) (turned key k)
    ∙ added_by (is_among keys k) (is_eq (key_cmp k key)) k key (row_of base k) refl
    ∙ ap (λ (b : Bool). added_if b (row_of base k)) (sym (ap (λ (l : List Key). is_among l k) is ∙ list_any-append (is_at (key_cmp k)) keys (key ∷ [])))

one_woken : (b : Bool) (keys : List Key) (key k : Key) (base old new : Row) → key_eq key k ≡ b → is_among keys key ≡ true → (old ≡ base) ⊎ ((is_among keys k ≡ true) × (old ≡ added base)) → new ≡ (if b then added old else old)
    → (new ≡ base) ⊎ ((is_among keys k ≡ true) × (new ≡ added base))
one_woken true keys key k base old new same among (inl is) at = inr (subst (λ (q : Key). is_among keys q ≡ true) (same_by_test key k same) among, at ∙ ap added is)
one_woken true keys key k base old new same among (inr is) at = inr (is.0, at ∙ ap added is.1)
one_woken false keys key k base old new same among (inl is) at = inl (at ∙ is)
one_woken false keys key k base old new same among (inr is) at = inr (is.0, at ∙ is.1)

-- one key more is woken
pub wakes_more : (keys : List Key) (key : Key) (base old new : Work) → is_among keys key ≡ true → WakesSome keys base old → ChangesRow added key old new → WakesSome keys base new
wakes_more keys key base old new among some one k = one_woken (key_eq key k) keys key k (row_of base k) (row_of old k) (row_of new k) refl among (some k) (one k)

same_woken : (keys : List Key) (k : Key) (base old new : Row) → (old ≡ base) ⊎ ((is_among keys k ≡ true) × (old ≡ added base)) → new ≡ old → (new ≡ base) ⊎ ((is_among keys k ≡ true) × (new ≡ added base))
same_woken keys k base old new (inl is) same = inl (same ∙ is)
same_woken keys k base old new (inr is) same = inr (is.0, same ∙ is.1)

-- none more is
pub wakes_same : (keys : List Key) (base old new : Work) → WakesSome keys base old → ((k : Key) → row_of new k ≡ row_of old k) → WakesSome keys base new
wakes_same keys base old new some same k = same_woken keys k (row_of base k) (row_of old k) (row_of new k) (some k) (same k)

-- the rows are the same where the list of them is
pub same_rows : (old new : Work) → new.rows ≡ old.rows → (k : Key) → row_of new k ≡ row_of old k
same_rows old new same k = ap (λ (rows : List (Key × Row)). row_in rows k) same

-- ---- for what a key waits

-- where the pass wrote nothing, for what refused it
pub waits_other : (ending : Ending) (own at : Positions) → (ending ≡ endings.Wrote → ⊥) → waits_for ending own at ≡ obstacle_ahead ending at
waits_other endings.Open own at other = refl
waits_other endings.Nothing own at other = refl
waits_other endings.Wrote own at other = absurd (other refl)
waits_other (endings.Refused obstacle) own at other = refl

rooms_by : (a b : Bool) (key k : Key) (queue : Work) → is_eq (key_cmp k key) ≡ b → has_room queue key ≡ true → (a ≡ true → has_room queue k ≡ true) → (a || (b || false)) ≡ true → has_room queue k ≡ true
rooms_by true b key k queue is has before among = before refl
rooms_by false true key k queue is has before among = subst (λ (q : Key). has_room queue q ≡ true) (sym (same_key k key is)) has
rooms_by false false key k queue is has before among = absurd (cc among)

-- one key more has a row
pub rooms_more : (keys more : List Key) (key : Key) (old new : Work) → more ≡ keys ++ key ∷ [] → HasRooms keys old → KeepsRoom old new → has_room new key ≡ true → HasRooms more new
rooms_more keys more key old new is each kept has k among =
    rooms_by (is_among keys k) (is_eq (key_cmp k key)) key k new refl has (λ on. kept.rows k (each k on)) (sym (ap (λ (l : List Key). is_among l k) is ∙ list_any-append (is_at (key_cmp k)) keys (key ∷ [])) ∙ among)
