-- A list of one key that counts or does not.
use Rattle.std.proofs.Common.{◌≡◌, Some, None, Bool, true, false, cond, refl, sym, ap, ◌∙◌, subst, List, [], ◌∷◌}
use Rattle.std.specs.BTreeMap.{is_at}
use Rattle.std.specs.Cmp.{eq_by_cmp_equiv}
use Rattle.std.specs.List.Sorted.{IsStrictlySortedBy}
use Rattle.std.specs.Map.{lookup}
use Rattle.std.specs.Prelude.{if◌then◌else◌, is_some}
use Rattle.cmc_meta.specs.declared.key.Key.{Key}
use Rattle.cmc_meta.specs.Keys.{key_cmp, key_eq}
use Rattle.cmc_meta.proofs.KeyOrder.{key_cmp-total}
use Rattle.cmc_informer.specs.declared.marks.Mark.{Mark}
use Rattle.cmc_informer.specs.Indexes.{AreKeys, has_place, is_marked_key, mark_in, on_keys}
use Rattle.cmc_informer.specs.Marks.{marked_by}
use Rattle.cmc_informer.proofs.OneMark.{key_eq_self, key_tie, keys_are, mark_missing, same_key}

turned_tie : (key k : Key) → is_at (key_cmp k) key ≡ key_eq key k
turned_tie key k = (eq_by_cmp_equiv key_cmp-total).symm k key ∙ key_tie key k

on_by : (b on : Bool) → is_marked_key (cond b (Some on) None) ≡ (if b then on else false)
on_by true on = refl
on_by false on = refl

-- what is said of each key
pub one_mark : (mark : Mark) (k : Key) → mark_in (marked_by mark) k ≡ (if key_eq mark.key k then mark.on else false)
unfolding mark_in
one_mark mark k = on_by (is_at (key_cmp k) mark.key) mark.on ∙ ap (λ (b : Bool). if b then mark.on else false) (turned_tie mark.key k)

place_by : (b on : Bool) → is_some (cond b (Some on) None) ≡ b
place_by true on = refl
place_by false on = refl

pub one_place : (mark : Mark) (k : Key) → has_place (marked_by mark) k ≡ key_eq mark.key k
unfolding has_place
one_place mark k = place_by (is_at (key_cmp k) mark.key) mark.on ∙ turned_tie mark.key k

-- only its own key has a place
pub placed_is : (mark : Mark) (k : Key) → has_place (marked_by mark) k ≡ true → mark.key ≡ k
placed_is mark k has = same_key mark.key k (key_tie mark.key k ∙ sym (one_place mark k) ∙ has)

pub placed_here : (mark : Mark) (key : Key) → mark.key ≡ key → has_place (marked_by mark) key ≡ true
placed_here mark key same = one_place mark key ∙ ap (key_eq mark.key) (sym same) ∙ key_eq_self mark.key

pub nothing_counts : (k : Key) → mark_in [] k ≡ false
unfolding mark_in
nothing_counts k = refl

pub nothing_stands : (k : Key) → has_place [] k ≡ true → ⊥
unfolding has_place
nothing_stands k has = absurd (cc has)

-- the key of a mark that is on counts
pub one_counts : (mark : Mark) → mark.on ≡ true → mark_in (marked_by mark) mark.key ≡ true
one_counts mark on = one_mark mark mark.key ∙ ap (λ (b : Bool). if b then mark.on else false) (key_eq_self mark.key) ∙ on

off_by : (b on : Bool) → on ≡ false → (if b then on else false) ≡ false
off_by true on off = off
off_by false on off = refl

-- and of one that is off no key does
pub one_lacks : (mark : Mark) → mark.on ≡ false → (k : Key) → mark_in (marked_by mark) k ≡ false
one_lacks mark off k = one_mark mark k ∙ off_by (key_eq mark.key k) mark.on off

sorted_one : (key : Key) → IsStrictlySortedBy key_cmp (key ∷ [])
unfolding IsStrictlySortedBy
sorted_one key = (tt, tt)

-- the keys that count
pub one_key : (mark : Mark) (keys : List Key) → keys ≡ on_keys (marked_by mark) → AreKeys keys (λ k. mark_in (marked_by mark) k)
one_key mark keys are = subst (λ (ks : List Key). AreKeys ks (λ k. mark_in (marked_by mark) k)) (sym are) (keys_are (marked_by mark) (sorted_one mark.key))

pub keys_if_on : (mark : Mark) (keys : List Key) → mark.on ≡ true → keys ≡ mark.key ∷ [] → keys ≡ on_keys (marked_by mark)
keys_if_on mark keys on is = is ∙ sym (ap (λ (b : Bool). if b then mark.key ∷ [] else []) on)

pub keys_if_off : (mark : Mark) (keys : List Key) → mark.on ≡ false → keys ≡ [] → keys ≡ on_keys (marked_by mark)
keys_if_off mark keys off is = is ∙ sym (ap (λ (b : Bool). if b then mark.key ∷ [] else []) off)

-- ---- the mark of the key is set, where it is this one

abbrev pub set_by : Bool → Bool → Mark → Mark
set_by b on mark = if b then record { key = mark.key; on = on } else mark

covers : (b on old : Bool) → (if b then on else false) ≡ (if b then on else (if b then old else false))
covers true on old = refl
covers false on old = refl

set_with : (b : Bool) (mark : Mark) (key : Key) (on : Bool) → key_eq key mark.key ≡ b → (on ≡ true → has_place (marked_by mark) key ≡ true)
    → (k : Key) → mark_in (marked_by (set_by b on mark)) k ≡ (if key_eq key k then on else mark_in (marked_by mark) k)
set_with true mark key on e has k =
    let same : key ≡ mark.key = same_key key mark.key (key_tie key mark.key ∙ e) in
    one_mark (record { key = mark.key; on = on }) k ∙ covers (key_eq mark.key k) on mark.on
    ∙ ap (λ (m : Bool). if key_eq mark.key k then on else m) (sym (one_mark mark k)) ∙ ap (λ (q : Key). if key_eq q k then on else mark_in (marked_by mark) k) (sym same)
set_with false mark key on e has k =
    let none : lookup (is_at (key_cmp key)) (marked_by mark) ≡ None = ap (λ (b : Bool). cond b (Some mark.on) None) (key_tie key mark.key ∙ e) in
    mark_missing (marked_by mark) key on has none k

pub set_one : (mark new : Mark) (key : Key) (on : Bool) → new ≡ set_by (key_eq key mark.key) on mark → (on ≡ true → has_place (marked_by mark) key ≡ true)
    → (k : Key) → mark_in (marked_by new) k ≡ (if key_eq key k then on else mark_in (marked_by mark) k)
set_one mark new key on is has k =
    subst (λ (m : Mark). mark_in (marked_by m) k ≡ (if key_eq key k then on else mark_in (marked_by mark) k)) (sym is) (set_with (key_eq key mark.key) mark key on refl has k)

keeps_by : (b : Bool) (mark : Mark) (on : Bool) (k : Key) → has_place (marked_by mark) k ≡ true → has_place (marked_by (set_by b on mark)) k ≡ true
keeps_by true mark on k has = one_place (record { key = mark.key; on = on }) k ∙ sym (one_place mark k) ∙ has
keeps_by false mark on k has = has

-- and its place is kept
pub set_keeps : (mark new : Mark) (key : Key) (on : Bool) → new ≡ set_by (key_eq key mark.key) on mark → (k : Key) → has_place (marked_by mark) k ≡ true → has_place (marked_by new) k ≡ true
set_keeps mark new key on is k has = subst (λ (m : Mark). has_place (marked_by m) k ≡ true) (sym is) (keeps_by (key_eq key mark.key) mark on k has)
