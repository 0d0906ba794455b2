-- Going over the keys that an index gives finds the same, in the same order, as going over all objects.
use Rattle.std.proofs.Common.{◌≡◌, Bool, true, false, cond, List, [], ◌∷◌, map, Option, Some, None, refl, sym, ap, ◌∙◌, subst, T, Ordering, Less, Equal}
use Rattle.std.specs.Cmp.{Equal-is, tied_itself}
use Rattle.std.specs.FinMap as maps
use Rattle.std.specs.FinMap.{get-entries, entries_sorted, find, is_sorted}
use Rattle.std.specs.FinMap.Entries.{below_all, same_entries}
use Rattle.std.specs.BTreeMap.{is_at}
use Rattle.std.specs.List.{list_any, AllByRecursion, cons_option}
use Rattle.std.specs.List.Sorted.{IsStrictlySortedBy}
use Rattle.std.specs.Ordering.{is_eq, is_lt}
use Rattle.std.specs.Prelude.{◌&&◌, ◌||◌, filter_map, option_and_then, is_some}
use Rattle.cmc_meta.specs.declared.key.Key.{Key}
use Rattle.cmc_meta.specs.Keys.{key_cmp}
use Rattle.cmc_objects.specs.declared.object.Object.{Object}
use Rattle.cmc_model.specs.Objects.{Objects, object_at}
use Rattle.cmc_meta.proofs.KeyOrder.{key_cmp-total, key_cmp-IsAntisymmetric}

join : (a b : Bool) → T a → T b → T (a && b)
join true b p q = q
join false b p q = absurd p

head_of : (a b : Bool) → T (a && b) → T a
head_of true b p = tt
head_of false b p = p

rest_of : (a b : Bool) → T (a && b) → T b
rest_of true b p = p
rest_of false b p = absurd p

is_less : (o : Ordering) → T (is_lt o) → o ≡ Less
is_less Less h = refl
is_less Equal h = absurd h
is_less other h = absurd h

-- ---- what is taken of sorted entries is sorted, and found under the same keys

module _ {A X : Type 0} (f : A → Option X) where
  abbrev entry_if : Key → Option X → List (Key × X) → List (Key × X)
  entry_if k None es = es
  entry_if k (Some x) es = (k, x) ∷ es

  abbrev taken : List (Key × A) → List (Key × X)
  taken [] = []
  taken (e ∷ es) = entry_if e.0 (f e.1) (taken es)

  one_value : (o : Option X) (k : Key) (es : List (Key × X)) (xs : List X) → map (λ e. e.1) es ≡ xs → map (λ e. e.1) (entry_if k o es) ≡ cons_option o xs
  one_value None k es xs h = h
  one_value (Some x) k es xs h = ap (λ l. x ∷ l) h

  values_taken : (es : List (Key × A)) → map (λ e. e.1) (taken es) ≡ filter_map (λ e. f e.1) es
  values_taken [] = refl
  values_taken (e ∷ es) = one_value (f e.1) e.0 (taken es) (filter_map (λ e. f e.1) es) (values_taken es)

  low_one : (low k : Key) (o : Option X) (es : List (Key × X)) → T (is_lt (key_cmp low k)) → T (below_all key_cmp low es) → T (below_all key_cmp low (entry_if k o es))
  low_one low k None es less h = h
  low_one low k (Some x) es less h = join _ _ less h

  low_taken : (low : Key) (es : List (Key × A)) → T (below_all key_cmp low es) → T (below_all key_cmp low (taken es))
  low_taken low [] h = tt
  low_taken low (e ∷ es) h = low_one low e.0 (f e.1) (taken es) (head_of _ _ h) (low_taken low es (rest_of _ _ h))

  sorted_one : (k : Key) (o : Option X) (es : List (Key × X)) → T (below_all key_cmp k es) → T (is_sorted key_cmp es) → T (is_sorted key_cmp (entry_if k o es))
  sorted_one k None es low h = h
  sorted_one k (Some x) es low h = join _ _ low h

  sorted_taken : (es : List (Key × A)) → T (is_sorted key_cmp es) → T (is_sorted key_cmp (taken es))
  sorted_taken [] h = tt
  sorted_taken (e ∷ es) h = sorted_one e.0 (f e.1) (taken es) (low_taken e.0 es (head_of _ _ h)) (sorted_taken es (rest_of _ _ h))

  found_one : (b : Bool) (q k : Key) (o found : Option X) (es : List (Key × X)) → is_eq (key_cmp q k) ≡ b → (b ≡ true → found ≡ o) → (b ≡ true → find key_cmp q es ≡ None)
      → (b ≡ false → find key_cmp q es ≡ found) → find key_cmp q (entry_if k o es) ≡ found
  found_one true q k None found es e is none below = none refl ∙ sym (is refl)
  found_one true q k (Some x) found es e is none below = ap (λ b. cond b (Some x) (find key_cmp q es)) e ∙ sym (is refl)
  found_one false q k None found es e is none below = below refl
  found_one false q k (Some x) found es e is none below = ap (λ b. cond b (Some x) (find key_cmp q es)) e ∙ below refl

  none_above : (q k : Key) (es : List (Key × X)) → key_cmp k q ≡ Equal → T (below_all key_cmp k es) → find key_cmp q es ≡ None
  none_above q k [] tie h = refl
  none_above q k (e ∷ es) tie h =
      let less : key_cmp q e.0 ≡ Less = sym (key_cmp-total.congr k q e.0 tie) ∙ is_less _ (head_of _ _ h) in
      ap (λ r. cond (is_eq r) (Some e.1) (find key_cmp q es)) less ∙ none_above q k es tie (rest_of _ _ h)

  tied : (q k : Key) → is_eq (key_cmp q k) ≡ true → key_cmp k q ≡ Equal
  tied q k e = let same = key_cmp-IsAntisymmetric q k ((Equal-is (key_cmp q k)).0 e) in subst (λ (x : Key). key_cmp k x ≡ Equal) (sym same) (tied_itself key_cmp-total k)

  found_at : (b : Bool) (q : Key) (e : Key × A) (es : List (Key × A)) → is_eq (key_cmp q e.0) ≡ b → T (below_all key_cmp e.0 es) → find key_cmp q (taken es) ≡ option_and_then f (find key_cmp q es)
      → find key_cmp q (entry_if e.0 (f e.1) (taken es)) ≡ option_and_then f (cond b (Some e.1) (find key_cmp q es))
  found_at true q e es is low below =
      found_one true q e.0 (f e.1) (f e.1) (taken es) is (λ _. refl) (λ _. none_above q e.0 (taken es) (tied q e.0 is) (low_taken e.0 es low)) (λ off. absurd (cc off))
  found_at false q e es is low below = found_one false q e.0 (f e.1) (option_and_then f (find key_cmp q es)) (taken es) is (λ on. absurd (cc on)) (λ on. absurd (cc on)) (λ _. below)

  find_taken : (q : Key) (es : List (Key × A)) → T (is_sorted key_cmp es) → find key_cmp q (taken es) ≡ option_and_then f (find key_cmp q es)
  find_taken q [] h = refl
  find_taken q (e ∷ es) h = found_at (is_eq (key_cmp q e.0)) q e es refl (head_of _ _ h) (find_taken q es (rest_of _ _ h))

-- ---- keys as entries

abbrev as_entries : List Key → List (Key × Key)
as_entries [] = []
as_entries (k ∷ ks) = (k, k) ∷ as_entries ks

low_keys : (k : Key) (ks : List Key) → AllByRecursion (λ y. key_cmp k y ≡ Less) ks → T (below_all key_cmp k (as_entries ks))
low_keys k [] h = tt
low_keys k (y ∷ ks) h = let below = low_keys k ks h.1 in rw h.0 below

sorted_keys : (ks : List Key) → IsStrictlySortedBy key_cmp ks → T (is_sorted key_cmp (as_entries ks))
unfolding IsStrictlySortedBy
sorted_keys [] h = tt
sorted_keys (k ∷ ks) h = join _ _ (low_keys k ks h.0) (sorted_keys ks h.1)

key_found : (b : Bool) (q k : Key) (found : Option Key) (more : Bool) → is_eq (key_cmp q k) ≡ b → found ≡ cond more (Some q) None → cond b (Some k) found ≡ cond (b || more) (Some q) None
key_found true q k found more e h = ap Some (sym (key_cmp-IsAntisymmetric q k ((Equal-is (key_cmp q k)).0 e)))
key_found false q k found more e h = h

find_key : (q : Key) (ks : List Key) → find key_cmp q (as_entries ks) ≡ cond (list_any (is_at (key_cmp q)) ks) (Some q) None
find_key q [] = refl
find_key q (k ∷ ks) = key_found (is_eq (key_cmp q k)) q k (find key_cmp q (as_entries ks)) (list_any (is_at (key_cmp q)) ks) refl (find_key q ks)

module _ {X : Type 0} (g : Key → Option X) where
  listed_or_none : (b : Bool) (q : Key) (o : Option X) → g q ≡ o → (is_some (g q) ≡ true → b ≡ true) → option_and_then g (cond b (Some q) None) ≡ g q
  listed_or_none true q o e all = refl
  listed_or_none false q None e all = sym e
  listed_or_none false q (Some x) e all = let no : false ≡ true = all (ap is_some e) in absurd (cc no)

  values_of_keys : (ks : List Key) → filter_map (λ e. g e.1) (as_entries ks) ≡ filter_map g ks
  values_of_keys [] = refl
  values_of_keys (k ∷ ks) = ap (cons_option (g k)) (values_of_keys ks)

-- where the keys are in order, and each object that counts stands under one of them
pub picked_by_keys : {X : Type 0} (f : Object → Option X) (m : Objects) (ks : List Key) → IsStrictlySortedBy key_cmp ks
    → ((k : Key) → is_some (option_and_then f (object_at m k)) ≡ true → list_any (is_at (key_cmp k)) ks ≡ true)
    → filter_map (λ k. option_and_then f (object_at m k)) ks ≡ filter_map (λ e. f e.1) (maps.entries m)
picked_by_keys {X} f m ks sorted all =
    let g : Key → Option X = λ k. option_and_then f (object_at m k) in
    let by_key = taken g (as_entries ks) in
    let by_entry = taken f (maps.entries m) in
    let same : by_key ≡ by_entry = same_entries key_cmp key_cmp-total key_cmp-IsAntisymmetric by_key by_entry (sorted_taken g (as_entries ks) (sorted_keys ks sorted)) (sorted_taken f (maps.entries m) (entries_sorted m))
    (λ q. find_taken g q (as_entries ks) (sorted_keys ks sorted) ∙ ap (option_and_then g) (find_key q ks) ∙ listed_or_none g _ q (g q) refl (all q) ∙ ap (option_and_then f) (get-entries m q) ∙ sym (find_taken f q (maps.entries m) (entries_sorted m))) in
    sym (values_of_keys g ks) ∙ sym (values_taken g (as_entries ks)) ∙ ap (map (λ e. e.1)) same ∙ values_taken f (maps.entries m)
