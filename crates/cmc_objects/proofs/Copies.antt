-- The entries of a map, put one after another in their order.
use Rattle.std.proofs.Common.{◌≡◌, List, [], ◌∷◌, ◌++◌, refl, ap, ◌∙◌, sym, subst, append_assoc, rules, Less, Greater}
use Rattle.std.specs.Cmp.{IsTotalOrder}
use Rattle.std.specs.Cmp.Rules.{comparing}
use Rattle.std.specs.List.{AllByRecursion}
use Rattle.std.specs.List.Sorted.{IsStrictlySortedBy}
use Rattle.std.specs.Map.{keys_of}
use Rattle.std.specs.Ordering.{ordering_reverse}
use Rattle.std.proofs.lemmas.Map.Keys.{sorted_head, sorted_tail}
use Rattle.cmc_meta.specs.declared.key.Key.{Key}
use Rattle.cmc_meta.specs.Keys.{key_cmp}
use Rattle.cmc_objects.specs.declared.rows.Rows.{Rows}
use Rattle.cmc_objects.specs.Materials.{with_rows_of}

key_cmp-total : IsTotalOrder key_cmp
key_cmp-total = search (comparing, rules)

below_it : (first : Key) (front : List (Key × Rows)) (key : Key) (rows : Rows) (rest : List (Key × Rows))
    → AllByRecursion (λ (other : Key). key_cmp first other ≡ Less) (keys_of (front ++ (key, rows) ∷ rest)) → key_cmp first key ≡ Less
below_it first [] key rows rest below = below.0
below_it first (e ∷ front) key rows rest below = below_it first front key rows rest below.1

above_all : (first key : Key) → key_cmp first key ≡ Less → key_cmp key first ≡ Greater
above_all first key below = key_cmp-total.antisymm key first ∙ ap ordering_reverse below

-- a key above all others goes behind them
pub put_last : (front : List (Key × Rows)) (key : Key) (rows : Rows) (rest : List (Key × Rows))
    → IsStrictlySortedBy key_cmp (keys_of (front ++ (key, rows) ∷ rest)) → with_rows_of front key rows ≡ front ++ (key, rows) ∷ []
put_last [] key rows rest sorted = refl
put_last (e ∷ front) key rows rest sorted =
    let above : key_cmp key e.0 ≡ Greater = above_all e.0 key (below_it e.0 front key rows rest (sorted_head key_cmp e.0 _ sorted)) in
    rw above (ap (λ l. e ∷ l) (put_last front key rows rest (sorted_tail key_cmp e.0 _ sorted)))

-- one more entry was put
pub one_more_entry : (front rest all new : List (Key × Rows)) (key : Key) (rows : Rows) → IsStrictlySortedBy key_cmp (keys_of all)
    → front ++ (key, rows) ∷ rest ≡ all → new ≡ with_rows_of front key rows → new ++ rest ≡ all
one_more_entry front rest all new key rows sorted split put =
    let here : IsStrictlySortedBy key_cmp (keys_of (front ++ (key, rows) ∷ rest)) = subst (λ (l : List (Key × Rows)). IsStrictlySortedBy key_cmp (keys_of l)) (sym split) sorted in
    let last : new ≡ front ++ (key, rows) ∷ [] = put ∙ put_last front key rows rest here in
    ap (λ l. l ++ rest) last ∙ append_assoc front ((key, rows) ∷ []) rest ∙ split
