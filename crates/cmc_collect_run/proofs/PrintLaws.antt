-- What was written of an entry and of the counts, row by row, is its tree; and deletions in either order.
use Rattle.std.proofs.Common.{◌≡◌, ℕ, List, [], ◌∷◌, ◌++◌, cond, codes, Some, reverse, refl, sym, ap}
use Rattle.std.specs.Prelude.{count_by}
use Rattle.std.proofs.lemmas.List.Sorted.{IsPermutation-reverse, sum_by-IsPermutation}
use Rattle.json.specs.Token.{Token, begin_object, end_object}
use Rattle.json.specs.Print.{print}
use Rattle.serde_json.specs.Data.{Data, string}
use Rattle.cmc_meta.specs.declared.key.Kind.{Kind}
use Rattle.cmc_print.specs.Trees.{natural, line_of}
use Rattle.cmc_print.specs.Words.{kind_name}
use Rattle.cmc_object_lines.proofs.Laws.{of_rows}
use Rattle.cmc_writer.specs.Additions.{with_value, with_rows}
use Rattle.cmc_writer.proofs.Placed.{is_none, is_put}
use Rattle.cmc_writer.proofs.Written.{text_written}
use Rattle.cmc_collector.specs.declared.entry.Moment.{Moment}
use Rattle.cmc_collect_run.specs.Printed.{collect_tree, count_rows, counts_tree, deleted, is_deletion, told_rows, told_tree}

pub told_written : (ts : List Token) (word : List ℕ) (n : ℕ) (kind : Kind) (to : ℕ)
    → with_rows (ts ++ begin_object ∷ []) (told_rows word n kind to) ++ end_object ∷ [] ≡ with_value ts (told_tree word n kind to)
unfolding told_tree
told_written ts word n kind to = of_rows ts (told_rows word n kind to) _
    (is_put (codes "to") (Some (natural to))
    (is_put (codes "kind") (Some (string (kind_name kind)))
    (is_put (codes "is") (Some (string word))
    (is_put (codes "n") (Some (natural n)) is_none refl) refl) refl) refl)

pub counts_written : (ts : List Token) (deleted objects : ℕ)
    → with_rows (ts ++ begin_object ∷ []) (count_rows deleted objects) ++ end_object ∷ [] ≡ with_value ts (counts_tree deleted objects)
unfolding counts_tree
counts_written ts deleted objects = of_rows ts (count_rows deleted objects) _
    (is_put (codes "objects") (Some (natural objects)) (is_put (codes "deleted") (Some (natural deleted)) is_none refl) refl)

pub collect_written : (ts : List Token) (deleted objects : ℕ)
    → with_rows (ts ++ begin_object ∷ []) ((codes "collect", Some (counts_tree deleted objects)) ∷ []) ++ end_object ∷ [] ≡ with_value ts (collect_tree deleted objects)
unfolding collect_tree
collect_written ts deleted objects = of_rows ts _ _ (is_put (codes "collect") (Some (counts_tree deleted objects)) is_none refl)

pub line_written : (d : Data) → print (with_value [] d) ++ 10 ∷ [] ≡ line_of d
unfolding line_of
line_written d = ap (λ t. t ++ 10 ∷ []) (text_written d)

-- deletions are counted alike from either end
pub deleted_reverse : (ms : List Moment) → count_by is_deletion ms ≡ deleted (reverse ms)
deleted_reverse ms = sym (sum_by-IsPermutation (λ m. cond (is_deletion m) 1 0) ms (reverse ms) (IsPermutation-reverse ms))
